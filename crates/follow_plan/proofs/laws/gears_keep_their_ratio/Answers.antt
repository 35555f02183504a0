-- The laws are lemmas on plain numbers.
use Rattle.follow_plan.proofs.Floors.{rounded_down}
use Rattle.follow_plan.proofs.Travels.{travels_add_up}
use Rattle.follow_plan.proofs.laws.gears_keep_their_ratio.Goals as goal

pub returns-clause-rounded_down : goal.returns-clause-rounded_down
returns-clause-rounded_down c = rounded_down

pub returns-clause-no_drift : goal.returns-clause-no_drift
returns-clause-no_drift c = travels_add_up
