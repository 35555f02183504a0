-- The reach of a difference is within it.
use Rattle.std.proofs.Common.{◌-◌, arith}
use Rattle.jerk_core.proofs.Brakes.{reach_within}
use Rattle.jerk_plan.proofs.speeds.toward.Goals as goal

pub overflow_sub-result : goal.overflow_sub-result
overflow_sub-result c =
    omega (arith, c.greatest_fall-else-speed-wanted.ensures.value, reach_within (c.args.speed - c.args.wanted) c.args.rates.now.j (omega (arith, c.requires.rates.j_least)))
