-- The lemma on halts.
use Rattle.trapezoid_plan.proofs.Rests.{halt-rests}
use Rattle.trapezoid_plan.proofs.laws.halts_come_to_rest_in_time.Goals as goal

pub returns : goal.returns
returns c = halt-rests c.safe_steps_lead_on.ensures
