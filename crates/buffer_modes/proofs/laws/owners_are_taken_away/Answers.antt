-- What is left to an instance, and to the others.
use Rattle.buffer_modes.proofs.TakenAway.{active, others-active, others-reset, others-waiting, reset, same, waiting}
use Rattle.buffer_modes.proofs.laws.owners_are_taken_away.Goals as goal

pub returns : goal.returns
returns c = record {
  active = active;
  waiting = waiting;
  reset = reset;
  others_active = others-active;
  others_waiting = others-waiting;
  others_reset = others-reset;
  same = same;
}
