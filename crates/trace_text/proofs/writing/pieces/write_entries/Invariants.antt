use Rattle.std.proofs.Common.{take, drop}
use Rattle.std.specs.List.{flat_map}
use Rattle.std.specs.Io.KnownBytes.{Appends}
use Rattle.csv.specs.Writing.{text_written}
use Rattle.trace_text.specs.writing.Between.{IsBetween}
use Rattle.trace_text.specs.writing.Parts.{entry_text}
use Rattle.trace_text.proofs.writing.pieces.write_entries.Given as goal

abbrev pub invariant-loop-i : goal.invariant-loop-i
invariant-loop-i g l = record {
  text : Appends (text_written g.W.Write.contents l.fn.wtr) (text_written g.W.Write.contents l.wtr)
      (flat_map (entry_text l.version l.config) (take l.i (drop l.from l.history.entries)));
  between : IsBetween l.wtr;
}
