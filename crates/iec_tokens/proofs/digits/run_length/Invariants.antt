-- The bytes so far stand in the run.
use Rattle.std.proofs.Common.{◌≡◌, ◌+◌, drop}
use Rattle.iec_tokens.specs.Digits as spec
use Rattle.iec_tokens.proofs.digits.run_length.Given as goal

abbrev pub invariant-loop-byte : goal.invariant-loop-byte
invariant-loop-byte l = record {
  count : l.count ≡ l.byte-index;
  length : spec.run_length l.radix l.text ≡ l.byte-index + spec.run_length l.radix (drop l.byte-index l.text);
}
