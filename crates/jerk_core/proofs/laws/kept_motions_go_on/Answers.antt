-- Braking is safe.
use Rattle.jerk_core.proofs.Sides.{safe_setpoint}
use Rattle.jerk_core.proofs.laws.kept_motions_go_on.Goals as goal

pub returns : goal.returns
returns c = safe_setpoint
