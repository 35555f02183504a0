use Rattle.std.proofs.Common.{◌≡◌, map, take}
use Rattle.motion_kernel.specs.Machine as machine
use Rattle.motion_kernel.proofs.opening.opened_instances.Given as goal

abbrev pub invariant-loop-block : goal.invariant-loop-block
invariant-loop-block l = record {
  opened : l.instances.items ≡ map (machine.instance_at_opening_of l.axes) (take l.block-index l.blocks);
}
