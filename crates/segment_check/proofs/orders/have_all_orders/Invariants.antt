-- The commands of the axes so far are such as calls ask for.
use Rattle.std.proofs.Common.{ℕ, ◌<◌}
use Rattle.command_pool.specs.Waiting.{queue_of}
use Rattle.motion_kernel.specs.Machine.{axis_at}
use Rattle.motion_laws.specs.Orders.{AreOrders}
use Rattle.segment_check.proofs.orders.have_all_orders.Given as goal

abbrev pub invariant-loop-axis : goal.invariant-loop-axis
invariant-loop-axis l = (n : ℕ) → n < l.axis → AreOrders l.config n (axis_at l.start n) (queue_of l.start.queues n)
