-- The report was written, the text is refused, or there was no memory for it.
use Rattle.std.specs.Prelude.{Err, refl}
use Rattle.std.proofs.Common.{subst}
use Rattle.job_ends.proofs.OverLaws.{read-ends, refused-ends}
use Rattle.job_ends.proofs.PlanLaws.{early}
use Rattle.trace_text.specs.reading.Reading.{ReadsBy, trace_of}
use Rattle.scope_job.specs.Plans.{plan_of_scope}
use Rattle.scope_job.proofs.scoping.scope_text.Goals as goal

pub returns-in-Ok : goal.returns-in-Ok
returns-in-Ok g c =
    read-ends _ _ plan_of_scope c.args.name.now _ _ _ c.in-Ok.ensures.reading c.scope_trace.ensures

pub returns-in-Err-Refused : goal.returns-in-Err-Refused
returns-in-Err-Refused g c =
    refused-ends _ _ plan_of_scope c.args.name.now _ _ _
    (subst (λ f. ReadsBy (trace_of c.args.text.now) (Err f)) c.in-Err-Refused.field-0-is
    c.in-Err-Refused.ensures.reading) c.say_refused.ensures

pub returns-in-Err-OutOfMemory : goal.returns-in-Err-OutOfMemory
returns-in-Err-OutOfMemory g c = early _ _ _ _ (record { status = refl; output = refl })
