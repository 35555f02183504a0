-- What is less is within.
use Rattle.std.proofs.Common.{arith}
use Rattle.jerk_core.proofs.rest.speed_of_ramp.Goals as goal

pub overflow_sub-result : goal.overflow_sub-result
overflow_sub-result c = omega (arith, c.requires.above, c.less_by_ramp.ensures)

pub returns : goal.returns
returns c = omega (arith, c.requires.above, c.less_by_ramp.ensures)
