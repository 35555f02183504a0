-- A call is refused by the first ErrorID whose condition holds, by the law of results.
use Rattle.motion_laws.proofs.error_ids.Calls.{refusals_first}
use Rattle.motion_laws.proofs.refusal_laws.refusals_are_the_first.Goals as goal

pub returns : goal.returns
returns c = record { first = refusals_first c.results_are_told.ensures.results }
