-- The axis of a core goes on its group's path, or leaves it.
use Rattle.std.specs.Prelude.{◌≡◌, ◌⊎◌, IsTrue, None}
use Rattle.std.proofs.Common.{sym, subst}
use Rattle.axis_core.specs.AxisKept.{IsAxisKept, IsQueueKept}
use Rattle.axis_core.specs.declared.axis.Axis.{Axis}
use Rattle.axis_core.proofs.KeptPowers.{on_path-kept, on_path-queue}
use Rattle.axis_core.proofs.one_axis.AxisCore.on_path.Goals as goal

pub invariant_of-self : goal.invariant_of-self
invariant_of-self c =
    let P : Axis → Type 0 = IsAxisKept in
    let Idle : Axis → Type 0 = λ a. a.active ≡ None in
    let Rest : Axis → Type 0 = λ a. IsTrue c.args.on ⊎ (a.previous ≡ a.setpoint) in
    let idle = subst Idle (sym c.self.view_is) c.requires.idle in
    let rest = subst Rest (sym c.self.view_is) c.requires.rest in
    subst P (sym c.on_path.ensures) (on_path-kept c.args.on c.self.inside.axis idle rest c.self.invariant)

pub returns-clause-queue : goal.returns-clause-queue
returns-clause-queue c = λ waiting kept.
    let Idle : Axis → Type 0 = λ a. a.active ≡ None in
    let Kept : Axis → Type 0 = λ a. IsQueueKept a waiting in
    let idle = subst Idle (sym c.self.view_is) c.requires.idle in
    subst Kept (sym c.on_path.ensures) (on_path-queue c.args.on c.self.inside.axis waiting idle (subst Kept (sym c.self.view_is) kept))
