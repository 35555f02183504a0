-- The trace of the run was written and is read again, or there was no memory for the run.
use Rattle.std.proofs.Common.{refl}
use Rattle.job_ends.proofs.PlanLaws.{early}
use Rattle.bench_job.proofs.EndLaws.{runs-bench, traced-run}
use Rattle.bench_job.proofs.bench.run_bench.Goals as goal

pub returns-clause-runs : goal.returns-clause-runs
returns-clause-runs g c =
    let ran = c.in-Ok.ran in
    runs-bench _ _ (traced-run _ ran.kernel ran.drives.items ran.ending c.in-Ok.ensures.made
    c.in-Ok.ensures.legal c.trace_is_read_again.ensures)

pub returns-in_default-clause-ends : goal.returns-in_default-clause-ends
returns-in_default-clause-ends g c =
    early _ _ _ _ (record { status = refl; output = refl })
