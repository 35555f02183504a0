-- Standing has no way to rest.
use Rattle.jerk_core.proofs.Sides.{standing_by_jerk}
use Rattle.jerk_core.proofs.laws.standing_is_kept_by_jerk.Goals as goal

pub returns : goal.returns
returns c = standing_by_jerk
