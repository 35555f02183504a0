-- The lemma on moves.
use Rattle.trapezoid_plan.proofs.Arrivals.{move-done}
use Rattle.trapezoid_plan.proofs.laws.moves_arrive_in_time.Goals as goal

pub returns : goal.returns
returns c = move-done c.ways_to_rest.ensures c.searches_find_the_greatest.ensures c.steps_fall_toward_zero.ensures c.safe_steps_lead_on.ensures
