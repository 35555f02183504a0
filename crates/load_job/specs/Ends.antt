-- How the job ends. This project's profile.
use Rattle.std.specs.Prelude.{◌≡◌, ℕ, true, Option, Ok, List, length}
use Rattle.std.specs.Io.KnownBytes.{Appends}
use Rattle.bench_run.specs.InStep.{TakesAnswers}
use Rattle.bench_run.specs.LegalRun.{IsLegalRun}
use Rattle.bench_run.specs.Run.{run_of}
use Rattle.job_ends.specs.Causes.{EndsFor}
use Rattle.job_ends.specs.Courses.{Job}
use Rattle.job_ends.specs.Plans.{Plan}
use Rattle.job_ends.specs.declared.status.Status.{Status}
use Rattle.job_ends.specs.declared.status.Status.TheVariants as status
use Rattle.load_job.specs.Load.{generated_bench}
use Rattle.load_job.specs.Machine.{machine}
use Rattle.motion_history.specs.Entries.{Entry}
use Rattle.motion_kernel.specs.Histories.{IsLegal}
use Rattle.motion_laws.specs.Headline.{KeepsHeadline}
use Rattle.trace_text.specs.writing.Writes.{Output}
use Rattle.load_job.specs.Lines.{load_line}

-- what a seed leads to: the line of the run of its load
abbrev pub load_plan : ℕ → Plan
load_plan seed = record {
  status = status.Ok;
  text = load_line seed (run_of (generated_bench seed)).history;
}

-- the line that was written is that of a load: of the one history that all events of the generated
-- bench make, one after another
pub record LoadLine (seed : ℕ) (old new : Option (List ℕ)) : Type 0 where
  -- the events of the generated bench make this history, in which the drives answer in step
  pub history : List Entry
  pub events : history ≡ (run_of (generated_bench seed)).history
  pub answers : TakesAnswers (generated_bench seed) history
  -- they are all made, in 14,001 entries
  pub ending : (run_of (generated_bench seed)).ending ≡ Ok tt
  pub entries : length history ≡ 14001
  -- each of its replies and rows is the PLCopen machine's; its axes keep their limits, their moves
  -- arrive, and their drives are given their setpoints
  pub legal : IsLegal machine history
  pub motion : KeepsHeadline machine history
  -- what was written is the line of all this
  pub written : Appends old new (load_line seed history)

-- the cause of each status: a load is always run to its end
abbrev pub LoadCause : Status → Type 0
LoadCause status.Ok = Unit {0}
LoadCause _ = ⊥

-- the job over no files: it leads to Ok
abbrev pub load_job : Job
load_job = record {
  Given = Unit {0};
  files = 0;
  reading = λ files. Ok tt;
  Cause = λ given. LoadCause;
  whole = true;
  Own = λ s. s ≡ status.Ok;
}

-- it ended by the plan of the seed, for its cause; and on Ok the run is legal, and the line that
-- was written is that of the load
pub record EndsByLoad (seed : ℕ) (old new : Output) (s : Status) : Type 0 where
  pub by : EndsFor old new (load_plan seed) LoadCause s
  pub legal : s ≡ status.Ok → IsLegalRun (generated_bench seed)
  pub line : s ≡ status.Ok → LoadLine seed old.told new.told
