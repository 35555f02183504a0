-- The lemma on the move step.
use Rattle.trapezoid_plan.proofs.MoveSteps.{is-move-step}
use Rattle.trapezoid_plan.proofs.laws.move_steps_are_greatest.Goals as goal

pub returns : goal.returns
returns c = is-move-step c.ways_to_rest.ensures c.searches_find_the_greatest.ensures c.steps_fall_toward_zero.ensures
