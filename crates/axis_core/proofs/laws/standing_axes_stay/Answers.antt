-- A cycle without an error leaves an axis that stands where it is.
use Rattle.axis_core.proofs.StandingLaws.{standing-stays}
use Rattle.axis_core.proofs.laws.standing_axes_stay.Goals as goal

pub returns : goal.returns
returns c = standing-stays
