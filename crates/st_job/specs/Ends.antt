-- How the job ends. This project's profile.
use Rattle.std.specs.Prelude.{◌≡◌, ◌⊎◌, ℕ, Option, List, true}
use Rattle.job_ends.specs.Causes.{is_traced}
use Rattle.job_ends.specs.Courses.{Says}
use Rattle.job_ends.specs.Ends.{EndsBy}
use Rattle.job_ends.specs.declared.status.Status.{Status}
use Rattle.outside.specs.Told.{FileMap}
use Rattle.trace_text.specs.writing.Writes.{Output}
use Rattle.st_job.specs.Causes.{st_job}
use Rattle.st_rounds.specs.Controllers.{cell_of}
use Rattle.st_job.specs.Given.{GivesController, NoController}
use Rattle.st_job.specs.Headline.{StHeadline}
use Rattle.st_job.specs.Again.{IsTracedRun}
use Rattle.st_job.specs.Plans.{plan_of}
use Rattle.st_rounds.specs.declared.cell.Controller.{Controller}

-- how it ends where the files give a machine and its program: by the plan of its run, and where
-- there is a trace the run is legal, and its trace is read back
pub record EndsByBoth (told : Option FileMap) (config program : List ℕ) (old new : Output)
    (s : Status) : Type 0 where
  pub cell : Controller
  pub gives : GivesController told config program cell
  pub ends : EndsBy old new (plan_of (cell_of cell)) s
  pub traced : is_traced s ≡ true → IsTracedRun (cell_of cell)

-- how it ends: the files give no controller, or they give one
abbrev pub Course : Option FileMap → Type 0 → List ℕ → List ℕ → Output → Output → Status → Type 0
Course told rose config program old new s =
    NoController told rose config program old new s ⊎
    EndsByBoth told config program old new s

-- how the job ends by its files, and what that says of its status
pub record EndsBySt (told : Option FileMap) (rose : Type 0) (config program : List ℕ)
    (old new : Output) (s : Status) : Type 0 where
  pub course : Course told rose config program old new s
  pub says : Says told rose (st_job config program) old new s
  -- where it stands for a trace, the headline holds of what was written
  pub headline : is_traced s ≡ true → StHeadline told config program old.told new.told s
