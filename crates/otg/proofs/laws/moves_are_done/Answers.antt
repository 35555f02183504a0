-- The lemmas on runs.
use Rattle.otg.proofs.Runs.{done_from_rest, done_under_way}
use Rattle.otg.proofs.laws.moves_are_done.Goals as goal

pub returns : goal.returns
returns c = record {
  from_rest = done_from_rest;
  under_way = done_under_way;
}
