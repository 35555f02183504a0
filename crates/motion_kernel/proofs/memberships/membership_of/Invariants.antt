use Rattle.std.proofs.Common.{◌≡◌, drop}
use Rattle.motion_kernel.specs.members.Members as spec
use Rattle.motion_kernel.proofs.memberships.membership_of.Given as goal

abbrev pub invariant-loop-group : goal.invariant-loop-group
invariant-loop-group l = record {
  rest : spec.membership_from l.axis l.group (drop l.group l.groups) ≡ spec.membership_from l.axis 0 l.groups;
}
