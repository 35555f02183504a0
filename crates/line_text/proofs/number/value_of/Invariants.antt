-- The bytes so far are digits, and the number is theirs and has room for one more.
use Rattle.line_text.proofs.Numerals.{IsRead}
use Rattle.line_text.proofs.number.value_of.Given as goal

abbrev pub invariant-loop-byte : goal.invariant-loop-byte
invariant-loop-byte l = IsRead l.bytes l.byte-index l.number
