-- Why the program ends with a status that its files decide, by what was asked. This project's
-- profile.
use Rattle.std.specs.Prelude.{◌≤◌, ℕ, Bool, true, false, List, length}
use Rattle.bench_job.specs.Causes.{BenchCause, HasRoomFor}
use Rattle.command_words.specs.Requests.{Request, of_file, of_load, of_report, of_run, of_scope, of_switches, of_tasks}
use Rattle.command_words.specs.declared.request.Job.TheVariants.{Bench, Check, Migrate}
use Rattle.command_words.specs.declared.request.Job as words
use Rattle.job_ends.specs.Courses.{Job, text_job}
use Rattle.job_ends.specs.declared.status.Status.{Status}
use Rattle.load_job.specs.Ends.{load_job}
use Rattle.motion_cli.specs.Plans.{most_of}
use Rattle.run_job.specs.Causes.{run_job}
use Rattle.scope_job.specs.Causes.{scope_job}
use Rattle.segment_job.specs.Begins.{begins_as_trace_segment}
use Rattle.segment_job.specs.Causes.{TraceSegmentCause}
use Rattle.st_job.specs.Causes.{st_job}
use Rattle.switch_job.specs.Causes.{switch_job}
use Rattle.trace_jobs.specs.Causes.{CheckCause, MigrateCause}

-- the cause of each status where a text is checked: as a trace segment where it begins as one, else
-- as a trace
abbrev pub VerifyingCause : Bool → List ℕ → Status → Type 0
VerifyingCause true text = TraceSegmentCause text
VerifyingCause false text = CheckCause text

-- the cause of each status of a job with a text
abbrev pub TextCause : words.Job → List ℕ → Status → Type 0
TextCause Bench text = BenchCause text
TextCause Check text = VerifyingCause (begins_as_trace_segment text) text
TextCause Migrate text = MigrateCause text

-- the job over files that each request is; a run may also end because a thread was refused
abbrev pub job_of : Type 0 → Request → Job
job_of unstarted (of_file r) = text_job r.name (most_of r.job) (TextCause r.job)
job_of unstarted (of_run r) = run_job unstarted r.config r.program
job_of unstarted (of_load seed) = load_job
job_of unstarted (of_tasks r) = st_job r.config r.program
job_of unstarted (of_report (of_switches trace switches)) = switch_job trace switches
job_of unstarted (of_report (of_scope trace)) = scope_job trace

-- a text has a reading as a bench that is to be run, for whose events there are room and cycles
-- enough
abbrev pub HasRoom : words.Job → List ℕ → Type 0
HasRoom Bench text = (length text ≤ most_of Bench) × HasRoomFor text
HasRoom Check text = ⊥
HasRoom Migrate text = ⊥
