-- The commands so far may wait.
use Rattle.std.proofs.Common.{◌≡◌, ℕ, ◌<◌}
use Rattle.std.specs.Prelude.{Some, slice_get}
use Rattle.axis_core.specs.AxisKept.{IsWaiting}
use Rattle.command_pool.specs.Waiting.{queue_of}
use Rattle.command_pool.specs.declared.wanted.Wanted.{Wanted}
use Rattle.kernel_invariants.proofs.machine.axes.are_waiting.Given as goal

abbrev pub invariant-loop-place : goal.invariant-loop-place
invariant-loop-place l = (n : ℕ) (w : Wanted) → n < l.place →
    slice_get (queue_of l.start.queues l.list) n ≡ Some w → IsWaiting l.limits w
