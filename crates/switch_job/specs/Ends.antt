-- How the job ends. This project's profile.
use Rattle.std.specs.Prelude.{◌≡◌, ◌⊎◌, ℕ, Option, List, false}
use Rattle.job_ends.specs.Causes.{is_fault}
use Rattle.job_ends.specs.Courses.{Says}
use Rattle.job_ends.specs.Ends.{EndsBy}
use Rattle.job_ends.specs.declared.status.Status.{Status}
use Rattle.job_ends.specs.declared.status.Status.TheVariants as status
use Rattle.outside.specs.Told.{FileMap}
use Rattle.trace_text.specs.writing.Writes.{Output}
use Rattle.switch_job.specs.Causes.{switch_job}
use Rattle.switch_job.specs.Given.{GivesBoth, NoBoth, TellsLegal}
use Rattle.switch_job.specs.Plans.{plan_of_switches}
use Rattle.switch_job.specs.Switched.{Switched}
use Rattle.switch_job.specs.declared.reading.Both.{Both}

-- how it ends where the files give a trace and switches on its axes: by the plan of both, and
-- unless a fault came the trace was verified
pub record EndsByBoth (told : Option FileMap) (trace file : List ℕ) (old new : Output) (s : Status)
    : Type 0 where
  pub both : Both
  pub gives : GivesBoth told trace file both
  pub ends : EndsBy old new (plan_of_switches both.trace both.switches) s
  pub legal : is_fault s ≡ false → TellsLegal both.trace

-- how it ends: the files don't give both, or they do
abbrev pub Course : Option FileMap → Type 0 → List ℕ → List ℕ → Output → Output → Status → Type 0
Course told rose trace file old new s =
    NoBoth told rose trace file old new s ⊎ EndsByBoth told trace file old new s

-- how the job ends by its files, and what that says of its status
pub record EndsBySwitches (told : Option FileMap) (rose : Type 0) (trace file : List ℕ)
    (old new : Output) (s : Status) : Type 0 where
  pub course : Course told rose trace file old new s
  pub says : Says told rose (switch_job trace file) old new s
  -- on Ok the lines of the edges of the file's switches in a legal trace were written
  pub switched : s ≡ status.Ok → Switched told trace file old.told new.told
