-- The braked speed is at most twice the speed.
use Rattle.std.proofs.Common.{arith}
use Rattle.jerk_plan.proofs.Velocities.{braked_small}
use Rattle.jerk_plan.proofs.speeds.halt_speed.Goals as goal

pub returns-clause-small : goal.returns-clause-small
returns-clause-small c =
    omega (arith, c.min.ensures, c.braked.ensures.value, c.requires.speed, braked_small c.args.rates.now.d c.args.rates.now.j c.args.last c.args.speed)
