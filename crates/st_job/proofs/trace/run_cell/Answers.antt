-- The trace of the run was written, or there was no memory for the run.
use Rattle.std.proofs.Common.{refl}
use Rattle.job_ends.proofs.PlanLaws.{early}
use Rattle.job_ends.specs.declared.status.Status.TheVariants as status
use Rattle.st_rounds.specs.Controllers.{cell_of}
use Rattle.st_job.proofs.TraceLaws.{traced-run, untraced}
use Rattle.st_job.proofs.trace.run_cell.Goals as goal

pub returns-in_default-clause-ends : goal.returns-in_default-clause-ends
returns-in_default-clause-ends g c =
    early _ _ _ _ (record { status = refl; output = refl })

pub returns-in_default-clause-traced : goal.returns-in_default-clause-traced
returns-in_default-clause-traced g c =
    untraced (cell_of c.args.cell.now) status.OutOfMemory refl

pub returns-clause-traced : goal.returns-clause-traced
returns-clause-traced g c =
    let ran = c.in-Ok.ran in
    λ t. traced-run _ ran.kernel ran.drives.items ran.ending c.in-Ok.ensures.made
    c.in-Ok.ensures.legal c.trace_is_read_back.ensures
