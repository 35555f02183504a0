-- The lemma on what moves with the offset.
use Rattle.plc_types.proofs.CountLemmas.{count_of-moved}
use Rattle.plc_types.proofs.laws.homing_keeps_counts.Goals as goal

pub returns : goal.returns
returns c = count_of-moved
