-- A bench with room enough.
use Rattle.std.proofs.Common.{ap, subst, sym}
use Rattle.bench_job.specs.Causes.{RunCause}
use Rattle.bench_job.specs.Plans.{status_of}
use Rattle.job_ends.specs.Courses.{CauseBy}
use Rattle.job_ends.specs.Readings.{reading_in}
use Rattle.job_ends.specs.declared.status.Status.TheVariants as status
use Rattle.bench_job.proofs.laws.room_leads_to_ok.Goals as goal

pub returns : goal.returns
returns c = λ text h.
    subst (λ r. CauseBy (reading_in 1 r) RunCause status.Ok) (sym h.reading)
    (ap status_of (c.room_is_enough.ensures.ending h.bench h.enough))
