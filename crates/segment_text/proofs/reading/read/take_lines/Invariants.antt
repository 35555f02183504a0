-- What the lines that are left mean to the machine as it stands is what all mean.
use Rattle.std.proofs.Common.{◌≡◌, ◌≤◌, ◌+◌, length}
use Rattle.line_text.specs.Lines.{lines_of}
use Rattle.segment_text.specs.reading.Lines.{lines_meaning}
use Rattle.segment_text.proofs.reading.read.take_lines.Given as goal

abbrev pub invariant-loop-rest : goal.invariant-loop-rest
invariant-loop-rest l = record {
  last : l.line + length (lines_of l.rest) ≡ length (lines_of l.fn.text) + 1;
  few : l.line + length l.rest ≤ length l.fn.text + 1;
  meaning : lines_meaning l.config l.line l.machine (lines_of l.rest) ≡ lines_meaning l.config 1 l.fn.machine (lines_of l.fn.text);
}

abbrev pub decreases-loop-rest : goal.decreases-loop-rest
decreases-loop-rest l = length l.rest
