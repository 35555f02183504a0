-- The commands of the axes so far are of their blocks.
use Rattle.std.proofs.Common.{ℕ, ◌<◌}
use Rattle.motion_kernel.specs.owners.Blocks.{command_state_at}
use Rattle.motion_kernel.specs.owners.Kinds.{AreOfTheirBlocks}
use Rattle.motion_kernel.specs.owners.Objects.{an_axis}
use Rattle.kernel_invariants.proofs.owners.kinds.are_of_all_axes.Given as goal

abbrev pub invariant-loop-axis : goal.invariant-loop-axis
invariant-loop-axis l = (n : ℕ) → n < l.axis → AreOfTheirBlocks l.config (command_state_at l.start (an_axis n))
