-- The digits make a word where all are digits.
use Rattle.std.proofs.Common.{arith}
use Rattle.trace_columns.proofs.HexLaws.{hex_none, hex_some}
use Rattle.trace_columns.proofs.word.hex_word.Goals as goal

pub returns-then-word-lt-NONE : goal.returns-then-word-lt-NONE
returns-then-word-lt-NONE c =
    let small = c.if-word-lt-NONE.true in
    hex_some _ _ _ _ _ _ _ _ c.hex_digit_of.ensures.value c.hex_digit_of-2.ensures.value c.hex_digit_of-3.ensures.value c.hex_digit_of-4.ensures.value (omega (arith, small))

pub returns-else-word-lt-NONE : goal.returns-else-word-lt-NONE
returns-else-word-lt-NONE c =
    let large = c.if-word-lt-NONE.false in
    hex_none _ _ _ _ _ _ _ _ c.hex_digit_of.ensures.value c.hex_digit_of-2.ensures.value c.hex_digit_of-3.ensures.value c.hex_digit_of-4.ensures.value (omega (arith, large))
