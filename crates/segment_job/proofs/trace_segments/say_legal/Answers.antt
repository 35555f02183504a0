-- A legal trace segment was reported, or there was no memory for it.
use Rattle.job_ends.proofs.PlanLaws.{said}
use Rattle.segment_job.proofs.trace_segments.say_legal.Goals as goal

pub returns : goal.returns
returns g c =
    said _ _ _ _ _ _ c.legal_text-text.ensures c.say.ensures
