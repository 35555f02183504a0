-- The lemmas on a step that keeps no target.
use Rattle.drive_sim.proofs.LagLemmas.{stays, forgets}
use Rattle.drive_sim.proofs.laws.other_steps_forget_targets.Goals as goal

pub returns-clause-stays : goal.returns-clause-stays
returns-clause-stays c = stays

pub returns-clause-forgotten : goal.returns-clause-forgotten
returns-clause-forgotten c = forgets
