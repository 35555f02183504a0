-- How the job ends. This project's profile.
use Rattle.std.specs.Prelude.{◌≡◌, ℕ, Option, List}
use Rattle.job_ends.specs.Courses.{Says}
use Rattle.job_ends.specs.Ends.{EndsBy}
use Rattle.job_ends.specs.Files.{EndsByFile}
use Rattle.job_ends.specs.declared.status.Status.{Status}
use Rattle.job_ends.specs.declared.status.Status.TheVariants as status
use Rattle.outside.specs.Told.{FileMap}
use Rattle.trace_text.specs.reading.Reading.{trace_of}
use Rattle.trace_text.specs.writing.Writes.{Output}
use Rattle.scope_job.specs.Causes.{scope_job}
use Rattle.scope_job.specs.Plans.{most_bytes, plan_of_scope}
use Rattle.scope_job.specs.Scoped.{Scoped}

-- the file gives no trace, or it gives one, and the job ended by the plan of the trace
abbrev pub Course : Option FileMap → Type 0 → List ℕ → Output → Output → Status → Type 0
Course told rose name old new s =
    EndsByFile told rose name most_bytes trace_of
    (λ t. EndsBy old new (plan_of_scope t) s) old new s

-- how the job ends by its file, and what that says of its status
pub record EndsByScope (told : Option FileMap) (rose : Type 0) (name : List ℕ) (old new : Output)
    (s : Status) : Type 0 where
  pub course : Course told rose name old new s
  pub says : Says told rose (scope_job name) old new s
  -- on Ok the report of the file's trace was written
  pub scoped : s ≡ status.Ok → Scoped told name old.told new.told
