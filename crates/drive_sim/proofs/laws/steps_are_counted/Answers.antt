-- The lemma on steps.
use Rattle.drive_sim.proofs.RunLemmas.{steps-counted}
use Rattle.drive_sim.proofs.laws.steps_are_counted.Goals as goal

pub returns : goal.returns
returns c = steps-counted
