-- The commands so far may wait.
use Rattle.std.proofs.Common.{◌≡◌, ℕ, ◌<◌}
use Rattle.std.specs.Prelude.{Some, length, slice_get}
use Rattle.group_core.specs.GroupKept.{IsWaiting}
use Rattle.command_pool.specs.Waiting.{queue_of}
use Rattle.command_pool.specs.declared.wanted.Wanted.{Wanted}
use Rattle.kernel_invariants.proofs.group.are_waiting.Given as goal

abbrev pub invariant-loop-place : goal.invariant-loop-place
invariant-loop-place l = (n : ℕ) (w : Wanted) → n < l.place →
    slice_get (queue_of l.start.queues l.list) n ≡ Some w →
    IsWaiting (length l.limits) l.limits w
