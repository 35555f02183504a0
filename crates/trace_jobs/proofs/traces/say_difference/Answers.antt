-- A difference was said, or there was no memory for its lines.
use Rattle.std.proofs.Common.{refl}
use Rattle.job_ends.proofs.PlanLaws.{said}
use Rattle.trace_jobs.specs.Verified.{tells_legal}
use Rattle.trace_jobs.proofs.EndLaws.{said-not}
use Rattle.trace_jobs.proofs.traces.say_difference.Goals as goal

pub returns : goal.returns
returns g c = record {
  legal = said-not tells_legal refl refl _ _ _ _ _ refl c.say.ensures;
  ends = said _ _ _ _ _ _ c.illegal_lines-lines.ensures
      c.say.ensures;
}
