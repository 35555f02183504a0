-- The lemma on offsets.
use Rattle.plc_types.proofs.CountLemmas.{offset-small}
use Rattle.plc_types.proofs.laws.offsets_are_small.Goals as goal

pub returns : goal.returns
returns c = offset-small
