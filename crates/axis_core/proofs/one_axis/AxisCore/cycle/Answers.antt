-- A cycle of the axis keeps it, and the commands that wait for it.
use Rattle.axis_core.proofs.one_axis.AxisCore.cycle.Goals as goal

pub invariant_of-self : goal.invariant_of-self
invariant_of-self c = c.cycle_and_show.ensures.kept.axis

pub returns-clause-queue : goal.returns-clause-queue
returns-clause-queue c = record { numbers = c.cycle_and_show.ensures.kept.waiting; place = c.cycle_and_show.ensures.kept.queue }
