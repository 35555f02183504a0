use Rattle.std.proofs.Common.{◌≡◌, length, take}
use Rattle.motion_kernel.specs.cycles.GroupSteps as spec
use Rattle.motion_kernel.specs.kept.Machine.{IsSized}
use Rattle.motion_kernel.specs.Seen.{machine_of}
use Rattle.motion_kernel.proofs.group_cycles.step_groups.Given as goal

abbrev pub invariant-loop-group : goal.invariant-loop-group
invariant-loop-group l = record {
  machine : machine_of l.parts ≡ (spec.groups_stepped l.layout l.group l.ins (machine_of l.fn.parts)).machine;
  steps : take l.group l.steps ≡ (spec.groups_stepped l.layout l.group l.ins (machine_of l.fn.parts)).steps;
  long : length l.steps ≡ length l.fn.steps;
  sized : IsSized l.layout (machine_of l.parts);
}
