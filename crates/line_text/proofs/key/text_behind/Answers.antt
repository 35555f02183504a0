-- Byte by byte of the key.
use Rattle.std.proofs.Common.{arith}
use Rattle.line_text.proofs.Behind.{other-word, whole-word}
use Rattle.line_text.proofs.key.text_behind.Goals as goal

pub returns-then-word-place : goal.returns-then-word-place
returns-then-word-place c =
    other-word c.args.key.now c.args.word.now c.loop-place.place c.loop-place-test.true (omega (arith, c.if-word-key.false)) c.if-word-place.true

pub returns : goal.returns
returns c =
    whole-word c.args.key.now c.args.word.now c.loop-place.place c.loop-place.auto.place-end (omega (arith, c.loop-place-test.false)) c.loop-place.invariant
