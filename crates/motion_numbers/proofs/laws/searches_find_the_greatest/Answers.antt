-- The lemma on searches.
use Rattle.motion_numbers.proofs.Searches.{search-finds}
use Rattle.motion_numbers.proofs.laws.searches_find_the_greatest.Goals as goal

pub returns : goal.returns
returns c = record { search_finds = search-finds }
