use Rattle.motion_kernel.specs.members.Laid.{AreMemberships}
use Rattle.motion_kernel.proofs.layout.memberships_in.Given as goal

abbrev pub invariant-loop-axis : goal.invariant-loop-axis
invariant-loop-axis l = record {
  so_far : AreMemberships l.config l.axis l.memberships.items;
}
