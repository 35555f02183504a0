-- The lemmas on places.
use Rattle.plc_types.proofs.CountLemmas.{count_of-place_of, place-distance}
use Rattle.plc_types.proofs.laws.counts_are_read_back.Goals as goal

pub returns-clause-count : goal.returns-clause-count
returns-clause-count c = count_of-place_of

pub returns-clause-distance : goal.returns-clause-distance
returns-clause-distance c = place-distance
