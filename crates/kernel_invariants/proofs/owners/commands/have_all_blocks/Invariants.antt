-- The commands so far are of such instances.
use Rattle.std.proofs.Common.{◌≡◌, ℕ, ◌<◌}
use Rattle.std.specs.Prelude.{Some, slice_get}
use Rattle.command_pool.specs.Waiting.{queue_of}
use Rattle.command_pool.specs.declared.wanted.Wanted.{Wanted}
use Rattle.kernel_invariants.specs.Owned.{HasBlock, object_by}
use Rattle.kernel_invariants.proofs.owners.commands.have_all_blocks.Given as goal

abbrev pub invariant-loop-place : goal.invariant-loop-place
invariant-loop-place l = (n : ℕ) (w : Wanted) → n < l.place →
    slice_get (queue_of l.start.queues l.list) n ≡ Some w → HasBlock l.config (object_by l.object) w.owner
