use Rattle.std.proofs.Common.{take}
use Rattle.std.specs.Io.KnownBytes.{Appends}
use Rattle.csv.specs.Writing.{text_written}
use Rattle.trace_text.specs.writing.Between.{IsBetween}
use Rattle.trace_text.specs.Records.{drive_fields}
use Rattle.trace_text.specs.Trace.{numbered, text_of}
use Rattle.trace_text.proofs.writing.entries.write_drives.Given as goal

abbrev pub invariant-loop-i : goal.invariant-loop-i
invariant-loop-i g l = record {
  text : Appends (text_written g.W.Write.contents l.fn.wtr) (text_written g.W.Write.contents l.wtr)
      (text_of (numbered (drive_fields l.config) 0 (take l.i l.drives)));
  between : IsBetween l.wtr;
}
