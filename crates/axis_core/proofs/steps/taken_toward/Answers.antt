-- A step that may follow is the one that is taken.
use Rattle.std.proofs.Common.{◌≡◌, ◌∙◌, sym, refl, ◌-ℤ◌, arith, FitsSigned, w64, to_z-of_z}
use Rattle.std.proofs.lemmas.Int.{ints}
use Rattle.trapezoid_plan.specs.MoveRun.{move_taken_of}
use Rattle.trapezoid_plan.specs.MoveStep.{HasMoveStep, move_step_of}
use Rattle.axis_core.proofs.Moving.{small_of}
use Rattle.axis_core.proofs.steps.taken_toward.Goals as goal

pub returns-then-planned-clause-value : goal.returns-then-planned-clause-value
unfolding move_taken_of
returns-then-planned-clause-value c =
    let a = c.args.axis.now in
    let rates = c.args.wanted.now.rates in
    let way : FitsSigned w64 c.way.result = omega (arith, ints, c.way.ensures.small) in
    let old : FitsSigned w64 c.old_step.result = omega (arith, ints, c.old_step.ensures.small) in
    let value : c.plan_move-planned.result.step ≡ move_step_of c.way.result c.old_step.result rates =
    simp to_z-of_z at c.plan_move-planned.ensures.value in
    let has : HasMoveStep rates c.way.result c.old_step.result =
    simp to_z-of_z at (c.plan_move-planned.ensures.follows.0 c.if-planned.true) in
    let near = small_of a c.requires.moving in
    let place : FitsSigned w64 c.args.place = c.ranges.place in
    let setpoint : FitsSigned w64 a.setpoint = let n = near.setpoint in omega (arith, ints, n) in
    let way_is : c.way.result ≡ c.args.place -ℤ a.setpoint = simp to_z-of_z at c.way.ensures.value in
    let same : move_step_of c.way.result c.old_step.result rates ≡ move_step_of (c.args.place -ℤ a.setpoint) (a.setpoint -ℤ a.previous) rates =
    rw (way_is, c.old_step.ensures.value) refl in
    let may : HasMoveStep rates (c.args.place -ℤ a.setpoint) (a.setpoint -ℤ a.previous) =
    rw (← way_is, ← c.old_step.ensures.value) has in
    let step : FitsSigned w64 c.plan_move-planned.result.step = omega (arith, ints, c.plan_move-planned.ensures.small) in
    to_z-of_z step ∙ value ∙ same ∙ sym (c.move_steps_are_safe.ensures.taken a.limits rates c.args.place a.previous a.setpoint
    c.requires.moving.limits c.requires.rates c.requires.within c.requires.moving.kept may)
