-- A legal trace was reported, or there was no memory for its line.
use Rattle.std.proofs.Common.{refl}
use Rattle.job_ends.proofs.PlanLaws.{said}
use Rattle.trace_jobs.specs.Verified.{tells_illegal}
use Rattle.trace_jobs.proofs.EndLaws.{said-not}
use Rattle.trace_jobs.proofs.traces.say_legal.Goals as goal

pub returns : goal.returns
returns g c = record {
  illegal = said-not tells_illegal refl refl _ _ _ _ _ refl c.say.ensures;
  ends = said _ _ _ _ _ _ c.legal_line-line.ensures
      c.say.ensures;
}
