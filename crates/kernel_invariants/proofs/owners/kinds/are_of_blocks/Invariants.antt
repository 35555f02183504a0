-- The commands so far are of their blocks.
use Rattle.std.proofs.Common.{◌≡◌, ℕ, ◌<◌}
use Rattle.std.specs.Prelude.{Some, slice_get}
use Rattle.command_pool.specs.Waiting.{queue_of}
use Rattle.command_pool.specs.declared.wanted.Wanted.{Wanted}
use Rattle.motion_kernel.specs.owners.Kinds.{IsOfItsBlock}
use Rattle.kernel_invariants.proofs.owners.kinds.are_of_blocks.Given as goal

abbrev pub invariant-loop-place : goal.invariant-loop-place
invariant-loop-place l = (n : ℕ) (w : Wanted) → n < l.place →
    slice_get (queue_of l.start.queues l.list) n ≡ Some w → IsOfItsBlock l.config w
