-- The lemmas on moves.
use Rattle.kin_core.proofs.Moves.{up_is_safe, down_is_safe}
use Rattle.kin_core.proofs.laws.steps_ahead_are_safe.Goals as goal

pub returns : goal.returns
returns c = record {
  upward = up_is_safe c.ways_to_rest.ensures;
  downward = down_is_safe c.ways_to_rest.ensures;
}
