-- The commands so far are such as wait.
use Rattle.std.proofs.Common.{◌≡◌, ℕ, ◌<◌}
use Rattle.std.specs.Prelude.{Some, slice_get}
use Rattle.command_pool.specs.Waiting.{queue_of}
use Rattle.command_pool.specs.declared.wanted.Wanted.{Wanted}
use Rattle.motion_laws.specs.Orders.{IsQueued}
use Rattle.segment_check.proofs.orders.are_queued.Given as goal

abbrev pub invariant-loop-place : goal.invariant-loop-place
invariant-loop-place l = (n : ℕ) (w : Wanted) → n < l.place →
    slice_get (queue_of l.start.queues l.number) n ≡ Some w → IsQueued l.config l.number w
