-- An owner is taken away from the axis of a core.
use Rattle.std.specs.Prelude.{map}
use Rattle.std.proofs.Common.{sym, subst}
use Rattle.command_pool.specs.Waiting as pool
use Rattle.axis_core.specs.AxisKept.{IsAxisKept, IsQueueKept}
use Rattle.axis_core.specs.declared.axis.Axis.{Axis}
use Rattle.axis_core.proofs.KeptPowers.{detached-kept}
use Rattle.axis_core.proofs.KeptQueues.{queue-detached}
use Rattle.axis_core.proofs.one_axis.AxisCore.detach.Goals as goal

pub invariant_of-self : goal.invariant_of-self
invariant_of-self c =
    let P : Axis → Type 0 = IsAxisKept in
    subst P (sym c.detach.ensures) (detached-kept c.args.owner c.self.inside.axis c.self.invariant)

pub returns-clause-queue : goal.returns-clause-queue
returns-clause-queue c = λ waiting kept.
    let Before : Axis → Type 0 = λ a. IsQueueKept a waiting in
    let After : Axis → Type 0 = λ a. IsQueueKept a (map (pool.detached c.args.owner) waiting) in
    subst After (sym c.detach.ensures) (queue-detached c.args.owner c.self.inside.axis waiting (subst Before (sym c.self.view_is) kept))
