-- The lemma on lags.
use Rattle.drive_sim.proofs.LagLemmas.{lags}
use Rattle.drive_sim.proofs.laws.lags_are_counted_in_kept_targets.Goals as goal

pub returns : goal.returns
returns c = lags
