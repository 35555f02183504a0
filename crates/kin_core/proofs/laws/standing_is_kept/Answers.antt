-- The clause is a lemma on the safe steps.
use Rattle.kin_core.proofs.SafeSteps.{standing_is_kept}
use Rattle.kin_core.proofs.laws.standing_is_kept.Goals as goal

pub returns : goal.returns
returns c = record { kept = standing_is_kept c.ways_to_rest.ensures }
