-- The error that a drive's answer brings.
use Rattle.axis_core.proofs.KeptPowers.{has-drive}
use Rattle.axis_core.proofs.one_axis.AxisCore.answer_error.Goals as goal

pub answer_error-requires : goal.answer_error-requires
answer_error-requires c = has-drive c.offsets_are_small.ensures c.self.inside.axis c.self.invariant
