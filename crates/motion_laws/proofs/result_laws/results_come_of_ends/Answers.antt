-- Results come of ends, by what each entry makes of an instance.
use Rattle.motion_laws.proofs.results.Replied.{results_come}
use Rattle.motion_laws.proofs.result_laws.results_come_of_ends.Goals as goal

pub returns : goal.returns
returns c = record { results = results_come c.entries_make_outcomes.ensures.outcomes }
