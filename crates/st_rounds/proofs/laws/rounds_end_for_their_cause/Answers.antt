-- A run of rounds ends for its cause.
use Rattle.st_rounds.proofs.EndingLaws.{ends-for-cause}
use Rattle.st_rounds.proofs.laws.rounds_end_for_their_cause.Goals as goal

pub returns : goal.returns
returns c = ends-for-cause (record {
  over = c.runs_end_for_their_cause.ensures.over;
  full = c.runs_end_for_their_cause.ensures.full;
})
