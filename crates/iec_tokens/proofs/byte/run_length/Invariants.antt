-- The bytes so far stand in the run.
use Rattle.std.proofs.Common.{◌≡◌, ◌+◌, drop}
use Rattle.std.specs.List.{prefix_len}
use Rattle.iec_tokens.specs.Bytes.{stands_in}
use Rattle.iec_tokens.proofs.byte.run_length.Given as goal

abbrev pub invariant-loop-byte : goal.invariant-loop-byte
invariant-loop-byte l = record {
  count : l.count ≡ l.byte-index;
  length : prefix_len (stands_in l.run) l.bytes ≡ l.byte-index + prefix_len (stands_in l.run) (drop l.byte-index l.bytes);
}
