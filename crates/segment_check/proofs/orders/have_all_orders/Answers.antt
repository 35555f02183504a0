-- One axis more is looked at.
use Rattle.std.proofs.Common.{◌≡◌, true, arith, refl, subst, inl, inr}
use Rattle.std.proofs.lemmas.Bool.{cases_lt}
use Rattle.command_pool.specs.Waiting.{queue_of}
use Rattle.motion_kernel.specs.Machine.{axis_at}
use Rattle.motion_laws.specs.Orders.{AreOrders}
use Rattle.segment_check.proofs.orders.have_all_orders.Goals as goal

pub loop-axis-preserved : goal.loop-axis-preserved
loop-axis-preserved c =
    let test = c.if-not-has_orders.false in
    let passed : c.has_orders.result ≡ true = cc in
    λ n l. elim (cases_lt n c.loop-axis.axis) [
      | inl below ↦ c.loop-axis.invariant n below
      | inr at ↦
          let same : c.loop-axis.axis ≡ n = omega arith in
          subst (λ k. AreOrders c.args.config.now k (axis_at c.args.start.now k) (queue_of c.args.start.now.queues k)) same (c.has_orders.ensures.0 passed)
    ]
