-- No change is wanted.
use Rattle.jerk_plan.proofs.Velocities.{velocity_held}
use Rattle.jerk_plan.proofs.laws.velocities_are_held.Goals as goal

pub returns : goal.returns
returns c = velocity_held
