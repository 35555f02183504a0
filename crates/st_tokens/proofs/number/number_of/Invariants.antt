-- The number so far, and that of the digits that are left.
use Rattle.std.proofs.Common.{◌≡◌, ◌≤◌, drop}
use Rattle.std.specs.Prelude.{min}
use Rattle.st_tokens.specs.Numbers.{value_behind}
use Rattle.st_tokens.proofs.number.number_of.Given as goal

abbrev pub invariant-loop-digit : goal.invariant-loop-digit
invariant-loop-digit l = record {
  few : l.number ≤ 2147483648;
  value : min (value_behind l.number (drop l.digit-index l.digits)) 2147483648 ≡ min (value_behind 0 l.digits) 2147483648;
}
