-- How the job ends. This project's profile.
use Rattle.std.specs.Prelude.{◌≡◌, ℕ, true, Option, Ok, List}
use Rattle.bench_text.specs.Reading.{bench_of}
use Rattle.job_ends.specs.Causes.{EndsFor, is_traced}
use Rattle.job_ends.specs.declared.status.Status.{Status}
use Rattle.outside.specs.Told.{FileMap, HasFile}
use Rattle.trace_text.specs.writing.Writes.{Output}
use Rattle.bench_job.specs.Causes.{BenchCause}
use Rattle.bench_job.specs.Headline.{Headline, RunsBy}
use Rattle.bench_job.specs.Plans.{bench_plan}

-- it ended by the plan of the text, for its cause; and where the status stands for a trace, the run
-- is legal, its trace is read again, and the headline holds of what was written, in whichever files
-- the text is
pub record EndsByBench (name text : List ℕ) (old new : Output) (s : Status) : Type 0 where
  pub by : EndsFor old new (bench_plan name text) (BenchCause text) s
  pub runs : RunsBy (λ b. bench_of text ≡ Ok b) s
  pub headline : (files : Option FileMap) → HasFile files name text → is_traced s ≡ true →
      Headline files name old.told new.told
