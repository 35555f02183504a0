use Rattle.std.proofs.Common.{take}
use Rattle.std.specs.Io.KnownBytes.{Appends}
use Rattle.std.specs.List.{flat_map}
use Rattle.csv.specs.Writing.{text_written}
use Rattle.trace_text.specs.writing.Between.{IsBetween}
use Rattle.trace_text.specs.Records.{record_text, group_fields}
use Rattle.trace_text.proofs.writing.machine.write_groups.Given as goal

abbrev pub invariant-loop-group : goal.invariant-loop-group
invariant-loop-group g l = record {
  text : Appends (text_written g.W.Write.contents l.fn.wtr) (text_written g.W.Write.contents l.wtr)
      (flat_map (λ g. record_text (group_fields l.config g)) (take l.group-index l.groups));
  between : IsBetween l.wtr;
}
