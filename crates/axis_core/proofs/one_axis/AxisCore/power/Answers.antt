-- A Power on the axis of a core.
use Rattle.std.proofs.Common.{sym, subst}
use Rattle.axis_core.specs.AxisKept.{IsCoreKept}
use Rattle.axis_core.specs.Cores.{Core, core_at}
use Rattle.axis_core.proofs.KeptPowers.{core-of, powered-kept, queue-kept}
use Rattle.axis_core.proofs.one_axis.AxisCore.power.Goals as goal
use Rattle.axis_core.proofs.one_axis.AxisCore.power.Goals.{After-power}

-- the axis after the Power, with the commands that wait for it
abbrev after : After-power → Core
after c = core_at c.power.new.axis c.power.new.pool c.args.list c.power.new.notes

after-kept : (c : After-power) → IsCoreKept (after c)
after-kept c =
    let P : Core → Type 0 = IsCoreKept in
    let before : Core = core_at c.self.inside.axis c.args.pool.now c.args.list c.args.notes.now in
    subst P (sym c.power.ensures.after) (powered-kept c.args.enable before (core-of c.args.self.now before c.self.view_is c.self.invariant c.requires.queue))

pub invariant_of-self : goal.invariant_of-self
invariant_of-self c = (after-kept c).axis

pub returns-clause-queue : goal.returns-clause-queue
returns-clause-queue c = queue-kept (after c) (after-kept c)
