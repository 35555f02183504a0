-- The axes so far.
use Rattle.std.proofs.Common.{◌≡◌, ◌≤◌}
use Rattle.load_job.proofs.MachineLaws.{with_axes}
use Rattle.load_job.proofs.machine.add_axes.Given as goal

abbrev pub invariant-loop-axis : goal.invariant-loop-axis
invariant-loop-axis l = record {
  machine : l.machine ≡ with_axes l.axis;
  within : l.axis ≤ 8;
}
