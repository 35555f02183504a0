-- The setpoints so far, and those that are left.
use Rattle.std.proofs.Common.{◌≡◌, ◌≤◌, ◌*◌, ◌^◌, ◌+ℤ◌, drop}
use Rattle.std.specs.Prelude.{unsigned_abs}
use Rattle.load_job.specs.Lines.{setpoint_sum}
use Rattle.load_job.proofs.counts.setpoint_sum.Given as goal

abbrev pub invariant-loop-row : goal.invariant-loop-row
invariant-loop-row l = record {
  sum : l.sum +ℤ setpoint_sum (drop l.row-index l.rows) ≡ setpoint_sum l.rows;
  small : unsigned_abs l.sum ≤ l.row-index * 2 ^ 63;
}
