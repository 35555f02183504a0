-- What is said of how the program ends, by what was asked: what was written stands for, and the
-- cause of each status. This project's profile.
use Rattle.std.specs.Prelude.{◌≡◌, ◌⊎◌, ℕ, true, Option, Some, None, IsSomeAnd, List}
use Rattle.std.specs.Result.{IsOk}
use Rattle.bench_job.specs.Headline.{Headline}
use Rattle.command_words.specs.Requests.{Request, of_file, of_load, of_report, of_run, of_scope, of_switches, of_tasks}
use Rattle.command_words.specs.declared.request.Job.{Job}
use Rattle.command_words.specs.declared.request.Job.TheVariants.{Bench, Check, Migrate}
use Rattle.job_ends.specs.Causes.{is_traced}
use Rattle.job_ends.specs.Courses.{Says}
use Rattle.job_ends.specs.declared.status.Status.{Status}
use Rattle.job_ends.specs.declared.status.Status.TheVariants as status
use Rattle.load_job.specs.Ends.{LoadLine}
use Rattle.motion_cli.specs.Causes.{HasRoom, job_of}
use Rattle.outside.specs.Faults.{Rose}
use Rattle.outside.specs.Told.{FileMap}
use Rattle.run_job.specs.Causes.{run_job}
use Rattle.run_job.specs.Headline.{RunHeadline}
use Rattle.scope_job.specs.Scoped.{Scoped}
use Rattle.st_job.specs.Causes.{st_job}
use Rattle.st_job.specs.Headline.{StHeadline}
use Rattle.switch_job.specs.Switched.{Switched}
use Rattle.trace_jobs.specs.Migrated.{Migrated}
use Rattle.trace_text.specs.writing.Writes.{Output}

-- what was written stands for: a trace for `bench` is that of a bench, and on Ok `migrate` wrote
-- the trace that was read again
abbrev pub FileStands : Option FileMap → Job → List ℕ → Option (List ℕ) → Option (List ℕ) →
    Status → Type 0
FileStands told Bench name old new s = is_traced s ≡ true → Headline told name old new
FileStands told Check name old new s = Unit {0}
FileStands told Migrate name old new s = s ≡ status.Ok → Migrated told name old new

-- a trace for `run` is that of a run, and for `st` that of tasks in Structured Text; on Ok `gen`
-- wrote the line of the load that the seed generates, `switches` the edges of the switches in a
-- legal trace, and `scope` the report of a trace
abbrev pub Stands : Option FileMap → (ℕ → Type 0) → Request → Option (List ℕ) →
    Option (List ℕ) → Status → Type 0
Stands told Started (of_file r) old new s = FileStands told r.job r.name old new s
Stands told Started (of_run r) old new s =
    is_traced s ≡ true → RunHeadline told r.config r.program old new Started s
Stands told Started (of_load seed) old new s = s ≡ status.Ok → LoadLine seed old new
Stands told Started (of_tasks r) old new s =
    is_traced s ≡ true → StHeadline told r.config r.program old new s
Stands told Started (of_report (of_switches trace switches)) old new s =
    s ≡ status.Ok → Switched told trace switches old new
Stands told Started (of_report (of_scope trace)) old new s =
    s ≡ status.Ok → Scoped told trace old new

-- the files give what can be run to an end: a bench with room enough, a plant, tasks; a load needs
-- none
abbrev pub GivesRun : Option FileMap → Request → Type 0
GivesRun told (of_file r) = IsSomeAnd told (λ files. IsSomeAnd (files r.name) (HasRoom r.job))
GivesRun told (of_run r) =
    IsSomeAnd told (λ files. IsOk ((run_job ⊥ r.config r.program).reading files))
GivesRun told (of_load seed) = Unit {0}
GivesRun told (of_tasks r) =
    IsSomeAnd told (λ files. IsOk ((st_job r.config r.program).reading files))
GivesRun told (of_report r) = ⊥

-- no thread that the request needs was refused: a run alone starts threads by the spawner
abbrev pub NoneUnstarted : Type 0 → Request → Type 0
NoneUnstarted unstarted (of_run r) = unstarted → ⊥
NoneUnstarted unstarted _ = Unit {0}

-- it was run to its end: a bench and a load to Ok, a run and tasks to a trace
abbrev pub RanToEnd : Request → Status → Type 0
RanToEnd (of_run r) s = is_traced s ≡ true
RanToEnd (of_tasks r) s = is_traced s ≡ true
RanToEnd _ s = s ≡ status.Ok

-- by the request, the reported files, the counts of faults and what was written, a status says this
pub record IsSaidOf (told : Option FileMap) (rose unstarted : Type 0) (Started : ℕ → Type 0)
    (r : Request) (old new : Output) (s : Status) : Type 0 where
  -- what was written stands for what was asked
  pub written : Stands told Started r old.told new.told s
  -- each status that the files decide comes exactly of its cause, ReadFault and WriteFault only
  -- where theirs is, and no status but the request's, so never Usage
  pub says : Says told rose (job_of unstarted r) old new s
  -- a thread was refused
  pub thread_refused : s ≡ status.ThreadRefused → unstarted
  -- what can be run to its end is
  pub complete : GivesRun told r → (rose → ⊥) → NoneUnstarted unstarted r →
      (Rose old.count new.count → ⊥) → RanToEnd r s ⊎ (s ≡ status.OutOfMemory)

-- words that are no request end with Usage, or writing its line failed, or memory ran out
abbrev pub IsSaid : Option FileMap → Type 0 → Type 0 → (ℕ → Type 0) → Option Request → Output →
    Output → Status → Type 0
IsSaid told rose unstarted Started None old new s = (s ≡ status.Usage) ⊎
    (((s ≡ status.WriteFault) × Rose old.count new.count) ⊎ (s ≡ status.OutOfMemory))
IsSaid told rose unstarted Started (Some r) old new s =
    IsSaidOf told rose unstarted Started r old new s
