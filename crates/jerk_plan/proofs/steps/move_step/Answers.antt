-- What is read back is the number.
use Rattle.std.proofs.Common.{w64, FitsSigned, to_z-of_z}
use Rattle.jerk_plan.specs.Directed.{IsMoveStep}
use Rattle.jerk_plan.proofs.steps.move_step.Goals as goal

pub returns-clause-wanted : goal.returns-clause-wanted
returns-clause-wanted c =
    let distance_fits : FitsSigned w64 c.args.distance = c.ranges.distance in
    let last_fits : FitsSigned w64 c.args.last = c.ranges.last in
    let speed_fits : FitsSigned w64 c.args.speed = c.ranges.speed in
    let fits : FitsSigned w64 c.move_step_by.result = record { sfits = c.move_step_by.type_inv } in
    let wanted : IsMoveStep c.args.rates.now c.args.distance c.args.last c.args.speed c.move_step_by.result = simp to_z-of_z at c.move_step_by.ensures.wanted in
    rw (to_z-of_z fits) wanted
