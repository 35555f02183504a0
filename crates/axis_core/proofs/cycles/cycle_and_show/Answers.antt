-- What the row of a cycle asks of the axis.
use Rattle.axis_core.proofs.KeptCycles.{distance-by}
use Rattle.axis_core.proofs.cycles.cycle_and_show.Goals as goal

pub row-requires-clause-least : goal.row-requires-clause-least
row-requires-clause-least c = c.change_in_cycle.ensures.kept.axis.base.least

pub row-requires-clause-distance : goal.row-requires-clause-distance
row-requires-clause-distance c = distance-by c.offsets_are_small.ensures c.change_in_cycle.new.axis c.change_in_cycle.ensures.kept.axis.base

pub row-requires-clause-count : goal.row-requires-clause-count
row-requires-clause-count c = c.change_in_cycle.ensures.kept.axis.base.count
