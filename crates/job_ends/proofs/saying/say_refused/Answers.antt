-- A refusal was said, or there was no memory for its line.
use Rattle.job_ends.proofs.PlanLaws.{said}
use Rattle.job_ends.proofs.saying.say_refused.Goals as goal

pub returns : goal.returns
returns g c = said _ _ _ _ _ _ c.refused_line.ensures c.say.ensures
