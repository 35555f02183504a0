-- The commands of the groups so far are of their blocks.
use Rattle.std.proofs.Common.{ℕ, ◌<◌}
use Rattle.motion_kernel.specs.owners.Blocks.{command_state_at}
use Rattle.motion_kernel.specs.owners.Kinds.{AreOfTheirBlocks}
use Rattle.motion_kernel.specs.owners.Objects.{a_group}
use Rattle.kernel_invariants.proofs.owners.kinds.are_of_all_groups.Given as goal

abbrev pub invariant-loop-group : goal.invariant-loop-group
invariant-loop-group l = (n : ℕ) → n < l.group → AreOfTheirBlocks l.config (command_state_at l.start (a_group n))
