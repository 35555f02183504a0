-- It is so of the axes so far.
use Rattle.std.proofs.Common.{ℕ, ◌<◌}
use Rattle.motion_kernel.specs.owners.Blocks.{OwnersHaveBlocksOn}
use Rattle.motion_kernel.specs.owners.Objects.{an_axis}
use Rattle.kernel_invariants.proofs.owners.all_axis_owners_have_blocks.Given as goal

abbrev pub invariant-loop-axis : goal.invariant-loop-axis
invariant-loop-axis l = (n : ℕ) → n < l.axis → OwnersHaveBlocksOn l.config l.start (an_axis n)
