use Rattle.motion_history.proofs.HistoryLemmas.{cycles_of-more, cycles_of-append, cycles_of-few}
use Rattle.motion_history.proofs.laws.cycles_add_up.Goals as goal

pub returns : goal.returns
returns c = record { more = cycles_of-more; all = cycles_of-append; few = cycles_of-few }
