-- The bytes so far, and those that are left.
use Rattle.std.proofs.Common.{◌≡◌, ◌≤◌, ◌+◌, drop}
use Rattle.iec_tokens.specs.Left as spec
use Rattle.iec_tokens.proofs.tokens.stand_after.Given as goal

abbrev pub invariant-loop-byte : goal.invariant-loop-byte
invariant-loop-byte l = record {
  near : l.stand.line ≤ l.fn.stand.line + l.byte-index;
  after : spec.stand_after l.stand (drop l.byte-index l.bytes) ≡ spec.stand_after l.fn.stand l.bytes;
}
