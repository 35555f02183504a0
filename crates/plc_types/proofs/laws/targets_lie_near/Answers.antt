-- The lemma on targets.
use Rattle.plc_types.proofs.CountLemmas.{target-near}
use Rattle.plc_types.proofs.laws.targets_lie_near.Goals as goal

pub returns-clause-within : goal.returns-clause-within
returns-clause-within c = λ limits setpoint offset inc one above below. (target-near limits.lo setpoint offset inc one above).above

pub returns-clause-below : goal.returns-clause-below
returns-clause-below c = λ limits setpoint offset inc one above. (target-near limits.lo setpoint offset inc one above).below

pub returns-clause-near : goal.returns-clause-near
returns-clause-near c = λ limits setpoint offset inc one above. (target-near limits.lo setpoint offset inc one above).near
