-- The lemmas on velocities.
use Rattle.otg.proofs.Ends.{velocity_up_done, velocity_down_done}
use Rattle.otg.proofs.laws.velocities_are_done.Goals as goal

pub returns-clause-up : goal.returns-clause-up
returns-clause-up c = velocity_up_done

pub returns-clause-down : goal.returns-clause-down
returns-clause-down c = velocity_down_done
