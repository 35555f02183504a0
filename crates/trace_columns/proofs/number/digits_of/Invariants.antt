-- The digits so far are those of the number.
use Rattle.trace_columns.proofs.ShortLaws.{IsRead}
use Rattle.trace_columns.proofs.number.digits_of.Given as goal

abbrev pub invariant-loop-i : goal.invariant-loop-i
invariant-loop-i l = IsRead l.text l.i l.number
