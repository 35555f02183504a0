-- The lemma on places within the limits.
use Rattle.plc_types.proofs.CountLemmas.{count_of-within}
use Rattle.plc_types.proofs.laws.setpoints_have_counts.Goals as goal

pub returns : goal.returns
returns c = λ limits setpoint offset inc one counts above below. count_of-within limits setpoint offset inc one counts above below
