use Rattle.std.proofs.Common.{take}
use Rattle.std.specs.Io.KnownBytes.{Appends}
use Rattle.std.specs.List.{flat_map}
use Rattle.csv.specs.Writing.{text_written}
use Rattle.trace_text.specs.writing.Between.{IsBetween}
use Rattle.trace_text.specs.Records.{record_text, axis_fields}
use Rattle.trace_text.proofs.writing.machine.write_axes.Given as goal

abbrev pub invariant-loop-axis : goal.invariant-loop-axis
invariant-loop-axis g l = record {
  text : Appends (text_written g.W.Write.contents l.fn.wtr) (text_written g.W.Write.contents l.wtr)
      (flat_map (λ d. record_text (axis_fields l.version d)) (take l.axis-index l.axes));
  between : IsBetween l.wtr;
}
