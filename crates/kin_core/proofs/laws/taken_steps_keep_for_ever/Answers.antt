-- The clause is an induction over the wanted steps.
use Rattle.kin_core.proofs.SafeSteps.{taken_steps_are_kept}
use Rattle.kin_core.proofs.laws.taken_steps_keep_for_ever.Goals as goal

pub returns : goal.returns
returns c = record { all_kept = taken_steps_are_kept c.ways_to_rest.ensures }
