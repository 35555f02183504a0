-- How a job over files ends, by what they give it.
-- for: crates above
use Rattle.std.specs.Prelude.{◌≡◌, ◌⊎◌, ℕ, true, false, Option, IfSome, IsSomeAnd, Result, Ok, Err}
use Rattle.outside.specs.Told.{FileMap}
use Rattle.trace_text.specs.writing.Writes.{Output}
use Rattle.job_ends.specs.Causes.{is_fault}
use Rattle.job_ends.specs.Ends.{EndsBy, EndsEarly}
use Rattle.job_ends.specs.Plans.{Plan}
use Rattle.job_ends.specs.declared.status.Status.{Status}
use Rattle.job_ends.specs.declared.status.Status.TheVariants as status
use Rattle.job_ends.specs.Courses.{IsAbout, Job, decides}

-- files lead to what is reported of them; that one can't be read also comes where reading failed
abbrev pub IsReportOf : {A : Type 0} → Option FileMap → Type 0 → (FileMap → Result A Status) →
    Status → Type 0
IsReportOf told rose reading (status.ReadFault word) =
    rose ⊎ IsSomeAnd told (λ files. reading files ≡ Err (status.ReadFault word))
IsReportOf told rose reading s = IfSome told (λ files. reading files ≡ Err s)

-- the files gave nothing, and it was reported of one of them
pub record EndsReported {A : Type 0} (told : Option FileMap) (rose : Type 0) (files : ℕ)
    (reading : FileMap → Result A Status) (old new : Output) (s : Status) : Type 0 where
  pub plan : Plan
  pub ends : EndsBy old new plan s
  pub about : IsAbout files plan.status
  pub report : IsReportOf told rose reading plan.status

-- what a job shows of what was given: it ended by a plan with one of its statuses; and where no
-- fault came, that has its cause if files decide it, and no other that they decide has one
pub record EndsGiven (j : Job) (a : j.Given) (old new : Output) (s : Status) : Type 0 where
  pub plan : Plan
  pub ends : EndsBy old new plan s
  pub own : j.Own plan.status
  pub unfaulted : is_fault plan.status ≡ false
  pub caused : is_fault s ≡ false → decides j.whole plan.status ≡ true → j.Cause a plan.status
  pub alone : is_fault s ≡ false → (other : Status) → decides j.whole other ≡ true →
      j.Cause a other → plan.status ≡ other

-- how a job ends: memory ran out before, its files gave nothing, or they gave something
abbrev pub EndsOver : Option FileMap → Type 0 → Job → Output → Output → Status → Type 0
EndsOver told rose j old new s =
    (EndsEarly old new s ⊎ EndsReported told rose j.files j.reading old new s) ⊎
    ((a : j.Given) × IfSome told (λ files. j.reading files ≡ Ok a) × EndsGiven j a old new s)
