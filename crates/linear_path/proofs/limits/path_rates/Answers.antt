-- One more axis's rates.
use Rattle.std.proofs.Common.{arith}
use Rattle.linear_path.proofs.LineLaws.{way_within}
use Rattle.linear_path.proofs.RateLaws.{rates_first, rates_more}
use Rattle.linear_path.proofs.limits.path_rates.Goals as goal

pub loop-axis-init : goal.loop-axis-init
loop-axis-init c =
    rates_first c.args.line.now.starts c.args.line.now.targets c.args.length c.args.limits.now

pub axis_rates-own-requires-clause-longest : goal.axis_rates-own-requires-clause-longest
axis_rates-own-requires-clause-longest c =
    rw (c.way.ensures.value, c.requires.longest)
    (way_within c.args.line.now.count c.args.line.now.starts c.args.line.now.targets
    c.loop-axis.axis (omega arith))

pub loop-axis-preserved : goal.loop-axis-preserved
loop-axis-preserved c =
    rates_more c.args.line.now.starts c.args.line.now.targets c.args.length c.args.limits.now
    c.loop-axis.axis
    c.loop-axis.velocity c.loop-axis.acceleration c.loop-axis.deceleration
    c.axis_rates-own.result.velocity c.axis_rates-own.result.acceleration
    c.axis_rates-own.result.deceleration
    c.min-velocity.result c.min-acceleration.result c.min-deceleration.result
    c.loop-axis.invariant (rw c.way.ensures.value at c.axis_rates-own.ensures.velocity)
    (rw c.way.ensures.value at c.axis_rates-own.ensures.acceleration)
    (rw c.way.ensures.value at c.axis_rates-own.ensures.deceleration)
    c.min-velocity.ensures c.min-acceleration.ensures c.min-deceleration.ensures
