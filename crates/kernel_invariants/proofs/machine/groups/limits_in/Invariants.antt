-- The limits of the axes so far.
use Rattle.std.proofs.Common.{◌≡◌}
use Rattle.std.specs.Prelude.{length, map, take}
use Rattle.motion_kernel.specs.kept.Machine.{limits_of}
use Rattle.kernel_invariants.proofs.machine.groups.limits_in.Given as goal

abbrev pub invariant-loop-place : goal.invariant-loop-place
invariant-loop-place l = record {
  so_far : take l.place l.limits ≡ map (limits_of l.config) (take l.place l.members);
  six : length l.limits ≡ 6;
}
