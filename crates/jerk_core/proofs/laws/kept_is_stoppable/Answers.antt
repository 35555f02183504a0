-- The lemmas on kept motions.
use Rattle.jerk_core.proofs.Kept.{ways_of_kept, kept_of_ways}
use Rattle.jerk_core.proofs.laws.kept_is_stoppable.Goals as goal

pub returns : goal.returns
returns c = record { by_numbers = ways_of_kept; by_lists = kept_of_ways }
