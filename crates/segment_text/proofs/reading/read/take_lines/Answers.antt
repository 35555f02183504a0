-- All lines are taken.
use Rattle.std.proofs.Common.{◌≡◌, ◌+◌, length, [], refl, sym, ◌∙◌, arith}
use Rattle.line_text.specs.Lines.{lines_of}
use Rattle.line_text.proofs.LineLaws.{lines_of-nil, is_nil}
use Rattle.segment_text.proofs.reading.read.take_lines.Goals as goal

pub returns : goal.returns
returns c =
    let none : c.loop-rest.rest.now ≡ [] = is_nil _ c.loop-rest-test.ensures in
    let last : c.loop-rest.line + 0 ≡ length (lines_of c.args.text.now) + 1 = rw (none, lines_of-nil) at c.loop-rest.invariant.last in (
      sym c.loop-rest.invariant.meaning ∙ rw (none, lines_of-nil) refl,
      omega (arith, last),
    )
