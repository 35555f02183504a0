-- The move step is the one that the definition asks for.
use Rattle.std.proofs.Common.{◌≡◌, FitsSigned, w64, to_z, of_z, to_z-of_z, arith, ◌∙◌}
use Rattle.std.proofs.lemmas.Int.{ints}
use Rattle.trapezoid_plan.specs.MoveStep.{move_step_of}
use Rattle.trapezoid_plan.proofs.MoveSteps.{is-move-step}
use Rattle.trapezoid_plan.proofs.moves.move_step.Goals as goal

pub returns-clause-definition : goal.returns-clause-definition
returns-clause-definition c =
    let distance : FitsSigned w64 c.args.distance = c.ranges.distance in
    let old : FitsSigned w64 c.args.old = c.ranges.old in
    let value : c.plan_move.result.step ≡ move_step_of c.args.distance c.args.old c.args.rates.now =
    simp to_z-of_z at c.plan_move.ensures.value in
    let fits : to_z w64 (of_z w64 c.plan_move.result.step) ≡ c.plan_move.result.step = omega (arith, ints) in
    rw (fits ∙ value) (is-move-step c.ways_to_rest.ensures c.searches_find_the_greatest.ensures c.steps_fall_toward_zero.ensures c.args.distance c.args.old c.args.rates.now c.requires.rates)
