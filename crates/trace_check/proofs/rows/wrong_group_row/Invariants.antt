-- The rows are the same so far.
use Rattle.std.proofs.Common.{◌≡◌, length, take}
use Rattle.trace_check.proofs.rows.wrong_group_row.Given as goal

abbrev pub invariant-loop-i : goal.invariant-loop-i
invariant-loop-i l = record {
  same : take l.i l.expected ≡ take l.i l.found;
  many : length l.expected ≡ length l.found;
}
