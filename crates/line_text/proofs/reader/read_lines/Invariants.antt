-- What the lines that are left mean to the reader as it stands is what the text means.
use Rattle.std.proofs.Common.{◌≡◌, ◌≤◌, ◌+◌, length}
use Rattle.line_text.specs.Lines.{lines_of}
use Rattle.line_text.specs.Reading.{lines_meaning, text_meaning}
use Rattle.line_text.proofs.reader.read_lines.Given as goal

abbrev pub invariant-loop-rest : goal.invariant-loop-rest
invariant-loop-rest g l = record {
  last : l.line + length (lines_of l.rest) ≡ length (lines_of l.fn.text);
  few : l.line + length l.rest ≤ length l.fn.text;
  meaning : lines_meaning g.R.LineReader.meaning l.line l.reader (lines_of l.rest) ≡ text_meaning g.R.LineReader.meaning l.fn.reader l.fn.text;
}

abbrev pub decreases-loop-rest : goal.decreases-loop-rest
decreases-loop-rest g l = length l.rest
