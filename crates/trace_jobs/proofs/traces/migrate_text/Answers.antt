-- The trace was verified, its text is refused, or there was no memory for it.
use Rattle.std.proofs.Common.{refl}
use Rattle.job_ends.proofs.OverLaws.{read-ends, refused-ends}
use Rattle.job_ends.proofs.PlanLaws.{early}
use Rattle.trace_jobs.specs.Plans.{plan_of_migrate}
use Rattle.trace_jobs.proofs.EndLaws.{verifies-none, verifies-other, verifies-read, migrate-ended, refused-why}
use Rattle.trace_jobs.proofs.traces.migrate_text.Goals as goal

pub returns-in-Ok : goal.returns-in-Ok
returns-in-Ok g c =
    let r = c.in-Ok.ensures.reading in
    migrate-ended _ _ _ _ _
    (read-ends _ _ plan_of_migrate c.args.name.now _ r.0 _ r.1
    (c.migrate_trace.ensures.ends r.0 r.2))
    (verifies-read _ _ _ r.1 (c.migrate_trace.ensures.verified r.0 r.2))

pub returns-in-Err-Refused : goal.returns-in-Err-Refused
returns-in-Err-Refused g c =
    let why = refused-why _ _ _ c.in-Err-Refused.field-0-is c.in-Err-Refused.ensures.reading in
    migrate-ended _ _ _ _ _
    (refused-ends _ _ plan_of_migrate c.args.name.now _ _ _ why c.say_refused.ensures)
    (verifies-none _ _ _ why)

pub returns-in-Err-OutOfMemory : goal.returns-in-Err-OutOfMemory
returns-in-Err-OutOfMemory g c =
    migrate-ended _ _ _ _ _
    (early _ _ _ _ (record { status = refl; output = refl }))
    (verifies-other _ _ refl refl)
