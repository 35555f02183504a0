-- It is so of the groups so far.
use Rattle.std.proofs.Common.{ℕ, ◌<◌}
use Rattle.motion_kernel.specs.owners.Blocks.{OwnersHaveBlocksOn}
use Rattle.motion_kernel.specs.owners.Objects.{a_group}
use Rattle.kernel_invariants.proofs.owners.all_group_owners_have_blocks.Given as goal

abbrev pub invariant-loop-group : goal.invariant-loop-group
invariant-loop-group l = (n : ℕ) → n < l.group → OwnersHaveBlocksOn l.config l.start (a_group n)
