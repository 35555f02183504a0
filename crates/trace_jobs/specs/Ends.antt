-- How the jobs end. This project's profile.
use Rattle.std.specs.Prelude.{◌≡◌, ℕ, Option, Ok, List}
use Rattle.job_ends.specs.Causes.{EndsFor}
use Rattle.job_ends.specs.declared.status.Status.{Status}
use Rattle.job_ends.specs.declared.status.Status.TheVariants as status
use Rattle.outside.specs.Told.{FileMap, HasFile}
use Rattle.trace_text.specs.reading.Reading.{trace_of}
use Rattle.trace_text.specs.writing.Writes.{Output}
use Rattle.trace_jobs.specs.Causes.{CheckCause, MigrateCause}
use Rattle.trace_jobs.specs.Verified.{JudgesBy}
use Rattle.trace_jobs.specs.Migrated.{Migrated}
use Rattle.trace_jobs.specs.Plans.{check_plan, migrate_plan}

-- a text was checked: it ended by the plan of the text, for its cause, and the trace is verified as
-- the status gives
pub record EndsByCheck (name text : List ℕ) (old new : Output) (s : Status) : Type 0 where
  pub by : EndsFor old new (check_plan name text) (CheckCause text) s
  pub verified : JudgesBy (λ t. trace_of text ≡ Ok t) s

-- a text was migrated: so it is, and on Ok the trace that was read was written, in whichever files
-- the text is
pub record EndsByMigrate (name text : List ℕ) (old new : Output) (s : Status) : Type 0 where
  pub by : EndsFor old new (migrate_plan name text) (MigrateCause text) s
  pub verified : JudgesBy (λ t. trace_of text ≡ Ok t) s
  pub migrated : (files : Option FileMap) → HasFile files name text → s ≡ status.Ok →
      Migrated files name old.told new.told
