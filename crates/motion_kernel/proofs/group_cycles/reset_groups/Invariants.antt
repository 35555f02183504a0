use Rattle.std.proofs.Common.{◌≡◌}
use Rattle.motion_kernel.specs.cycles.GroupResets as spec
use Rattle.motion_kernel.specs.kept.Machine.{IsSized}
use Rattle.motion_kernel.specs.Seen.{machine_of}
use Rattle.motion_kernel.proofs.group_cycles.reset_groups.Given as goal

abbrev pub invariant-loop-group : goal.invariant-loop-group
invariant-loop-group l = record {
  machine : machine_of l.parts ≡ (spec.groups_reset l.layout l.group (machine_of l.fn.parts)).machine;
  rows : l.history ≡ record l.fn.history { group_rows = (spec.groups_reset l.layout l.group (machine_of l.fn.parts)).rows };
  sized : IsSized l.layout (machine_of l.parts);
}
