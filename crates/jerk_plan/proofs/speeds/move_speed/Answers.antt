-- A safe speed is within the rates.
use Rattle.std.proofs.Common.{◌≤◌, arith}
use Rattle.jerk_core.specs.Rates.{IsSafeBy}
use Rattle.jerk_plan.proofs.speeds.move_speed.Goals as goal

pub returns-in-Some-clause-small : goal.returns-in-Some-clause-small
returns-in-Some-clause-small g c =
    let safe : IsSafeBy c.args.rates.now c.args.way c.args.last c.args.speed c.in-Some.safe = c.safe_speed.ensures.safe c.in-Some.safe c.in-Some.is in
    let slow : c.in-Some.safe ≤ c.args.rates.now.v = safe.after.kept.speed in
    omega (arith, c.requires.rates.v_most)
