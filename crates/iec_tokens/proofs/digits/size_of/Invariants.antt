-- The number so far, and that of the digits that are left.
use Rattle.std.proofs.Common.{◌≡◌, ◌≤◌, drop}
use Rattle.std.specs.Prelude.{min, ◌^◌}
use Rattle.iec_tokens.specs.Digits.{base_of, value_behind}
use Rattle.iec_tokens.proofs.digits.size_of.Given as goal

abbrev pub invariant-loop-digit : goal.invariant-loop-digit
invariant-loop-digit l = record {
  few : l.number ≤ 10 ^ 16;
  value : min (value_behind (base_of l.radix) l.number (drop l.digit-index l.digits)) (10 ^ 16) ≡ min (value_behind (base_of l.radix) 0 l.digits) (10 ^ 16);
}
