use Rattle.std.proofs.Common.{◌≡◌}
use Rattle.motion_kernel.specs.looks.GroupLooks as spec
use Rattle.motion_kernel.proofs.group_looks.look_at_all.Given as goal

abbrev pub invariant-loop-place : goal.invariant-loop-place
invariant-loop-place l = record {
  seen : l.look ≡ spec.with_members l.place l.axes l.members l.fn.look;
}
