-- The digits so far, and those that are left.
use Rattle.std.proofs.Common.{◌≡◌, ◌≤◌, ◌+◌, drop}
use Rattle.iec_tokens.specs.Digits as spec
use Rattle.iec_tokens.proofs.digits.count_of.Given as goal

abbrev pub invariant-loop-digit : goal.invariant-loop-digit
invariant-loop-digit l = record {
  few : l.count ≤ l.digit-index;
  count : l.count + spec.count_of (drop l.digit-index l.digits) ≡ spec.count_of l.digits;
}
