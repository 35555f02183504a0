use Rattle.motion_history.proofs.RangeLaws.{ranges_of}
use Rattle.motion_history.proofs.laws.axes_are_in_range.Goals as goal

pub returns : goal.returns
returns c = record { ranges = ranges_of }
