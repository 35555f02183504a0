-- The bytes so far end at no blank line.
use Rattle.std.proofs.Common.{◌≡◌, ◌+◌, length}
use Rattle.segment_text.specs.reading.Reading.{blank_line_from}
use Rattle.segment_text.proofs.reading.read.blank_line_in.Given as goal

abbrev pub invariant-loop-rest : goal.invariant-loop-rest
invariant-loop-rest l = record {
  found : blank_line_from l.end l.rest ≡ blank_line_from 0 l.fn.text;
  size : l.end + length l.rest ≡ length l.fn.text;
}

abbrev pub decreases-loop-rest : goal.decreases-loop-rest
decreases-loop-rest l = length l.rest
