-- There was no memory for the report.
use Rattle.std.specs.Prelude.{refl}
use Rattle.job_ends.proofs.PlanLaws.{early}
use Rattle.scope_job.proofs.scoping.scope_trace.Goals as goal

pub returns-in-Err : goal.returns-in-Err
returns-in-Err g c = early _ _ _ _ (record { status = refl; output = refl })
