-- Each status of the job comes of its cause.
-- for: run_text
use Rattle.std.specs.Prelude.{◌≡◌, refl, ℕ, true, Result, Ok, Err, List}
use Rattle.bench_run.specs.Run.{run_of}
use Rattle.bench_run.specs.declared.bench.RunFault.{RunFault}
use Rattle.bench_run.specs.declared.bench.RunFault.TheVariants.{CyclesOver, HistoryFull}
use Rattle.bench_text.specs.BenchState.{BenchState}
use Rattle.bench_text.specs.Reading.{bench_of}
use Rattle.job_ends.specs.Causes.{EndsFor, is_told}
use Rattle.job_ends.specs.Courses.{CauseBy}
use Rattle.job_ends.specs.Ends.{EndsBy}
use Rattle.job_ends.specs.Plans.{plan_of_reading}
use Rattle.job_ends.specs.Readings.{reading_in}
use Rattle.job_ends.specs.declared.status.Status.{Status}
use Rattle.motion_history.specs.declared.refused.TextRefused.{TextRefused}
use Rattle.trace_text.specs.writing.Writes.{Output}
use Rattle.bench_job.specs.Causes.{BenchCause, RunCause}
use Rattle.bench_job.specs.Plans.{bench_plan, plan_of_bench, status_of}

told-run : (w : Result (Unit {0}) RunFault) → is_told (status_of w) ≡ true
told-run (Ok u) = refl
told-run (Err CyclesOver) = refl
told-run (Err HistoryFull) = refl

told : (name : List ℕ) (reading : Result BenchState TextRefused) →
    is_told (plan_of_reading plan_of_bench 1 name reading).status ≡ true
told name (Ok b) = told-run (run_of b).ending
told name (Err r) = refl

caused : (name : List ℕ) (reading : Result BenchState TextRefused) →
    CauseBy (reading_in 1 reading) RunCause (plan_of_reading plan_of_bench 1 name reading).status
caused name (Ok b) = refl
caused name (Err r) = refl

alone : (name : List ℕ) (reading : Result BenchState TextRefused) (other : Status) →
    CauseBy (reading_in 1 reading) RunCause other →
    (plan_of_reading plan_of_bench 1 name reading).status ≡ other
alone name (Ok b) other h = h
alone name (Err r) other h = h

-- so the job ends for its cause
pub ends-for : (name text : List ℕ) (old new : Output) (s : Status) →
    EndsBy old new (bench_plan name text) s →
    EndsFor old new (bench_plan name text) (BenchCause text) s
ends-for name text old new s e = record {
  ends = e;
  told = told name (bench_of text);
  caused = λ f. caused name (bench_of text);
  alone = λ f. alone name (bench_of text);
}
