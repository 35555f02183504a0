-- The lemma on answers.
use Rattle.drive_sim.proofs.RunLemmas.{answer_after}
use Rattle.drive_sim.proofs.laws.answers_come_one_cycle_later.Goals as goal

pub returns : goal.returns
returns c = answer_after
