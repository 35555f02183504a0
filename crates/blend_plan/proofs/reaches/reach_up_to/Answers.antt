-- A step whose run fits is within the reach.
use Rattle.std.proofs.Common.{arith}
use Rattle.blend_plan.proofs.reaches.reach_up_to.Goals as goal

pub returns-then-ramp_sum-way-clause-value : goal.returns-then-ramp_sum-way-clause-value
returns-then-ramp_sum-way-clause-value g c =
    omega (arith, c.ways_to_rest.ensures.reach_greatest c.args.most c.args.way c.args.d c.requires.least_fall (omega (arith, c.ramp_sum.ensures.value)))
