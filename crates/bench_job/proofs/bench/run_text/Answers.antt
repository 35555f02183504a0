-- The trace of a text's run was written, a text is refused, or there was no memory for one.
use Rattle.std.proofs.Common.{ap, refl, sym}
use Rattle.job_ends.proofs.OverLaws.{refused-ends}
use Rattle.job_ends.proofs.PlanLaws.{early}
use Rattle.job_ends.specs.Plans.{plan_of_reading}
use Rattle.job_ends.specs.declared.status.Status.TheVariants as status
use Rattle.bench_job.specs.Plans.{plan_of_bench}
use Rattle.job_ends.proofs.Statuses.{same-plan}
use Rattle.bench_job.proofs.EndLaws.{ended, refused-why, runs-none, runs-other, runs-read}
use Rattle.bench_job.proofs.bench.run_text.Goals as goal

pub returns-in-Ok : goal.returns-in-Ok
returns-in-Ok g c =
    ended c.runs_are_in_step.ensures _ _ _ _ _
    (same-plan _ _ _ _ _
    (sym (ap (plan_of_reading plan_of_bench 1 c.args.name.now) c.in-Ok.ensures.exact))
    c.run_bench.ensures.ends)
    (runs-read _ _ _ c.in-Ok.ensures.exact c.run_bench.ensures.runs)

pub returns-in-Err-Refused : goal.returns-in-Err-Refused
returns-in-Err-Refused g c =
    let refused = c.in-Err-Refused.refused in
    let why = refused-why _ _ refused c.in-Err-Refused.field-0-is c.in-Err-Refused.ensures.exact in
    ended c.runs_are_in_step.ensures _ _ _ _ _
    (refused-ends _ _ plan_of_bench c.args.name.now _ refused _ why
    (rw c.in-Err-Refused.field-0-is at c.say_refused.ensures)) (runs-none _ _ _ why)

pub returns-in-Err-OutOfMemory : goal.returns-in-Err-OutOfMemory
returns-in-Err-OutOfMemory g c =
    ended c.runs_are_in_step.ensures _ _ _ _ _
    (early _ _ _ _ (record { status = refl; output = refl }))
    (runs-other _ status.OutOfMemory refl)
