-- A safe speed is within the room, and leaves a kept motion.
use Rattle.jerk_plan.proofs.laws.moves_stay_before_their_targets.Goals as goal

pub returns : goal.returns
returns c = record {
  before = λ rates way w v x move. move.safe.after.within;
  again = λ rates way w v x move. move.safe.after.kept;
}
