use Rattle.std.proofs.Common.{◌≡◌, length, take, map}
use Rattle.motion_kernel.specs.looks.AxisLooks as spec
use Rattle.motion_kernel.proofs.machine_cycle.copy_pairs.Given as goal

abbrev pub invariant-loop-i : goal.invariant-loop-i
invariant-loop-i l = record {
  copied : take l.i l.pairs ≡ map spec.pair_of (take l.i l.axes);
  long : length l.pairs ≡ length l.fn.pairs;
}
