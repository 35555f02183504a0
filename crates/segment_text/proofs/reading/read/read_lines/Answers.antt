-- A header without a byte has no line.
use Rattle.std.specs.Prelude.{◌≡◌, refl, []}
use Rattle.line_text.proofs.LineLaws.{is_nil, lines_of-nil}
use Rattle.segment_text.specs.reading.Reading.{segment_header_meaning}
use Rattle.segment_text.proofs.reading.read.read_lines.Goals as goal

pub returns-then-is_empty : goal.returns-then-is_empty
unfolding segment_header_meaning
returns-then-is_empty c =
    let none : c.args.header.now ≡ [] = is_nil _ c.if-is_empty.ensures in
    rw (none, lines_of-nil) refl
