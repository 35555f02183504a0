-- How the program ends by a file, and what that says of its status.
-- for: top
use Rattle.std.specs.Prelude.{◌≡◌, ℕ, Bool, true, false, Option, List}
use Rattle.std.proofs.Common.{inl, inr, ap, subst}
use Rattle.bench_job.specs.Plans.{bench_plan}
use Rattle.command_words.specs.Requests.{FileJob}
use Rattle.command_words.specs.declared.request.Job.{Job}
use Rattle.command_words.specs.declared.request.Job.TheVariants.{Bench, Check, Migrate}
use Rattle.job_ends.proofs.OverLaws.{for-given, text-read, text-says}
use Rattle.job_ends.proofs.PlanLaws.{traced-unfaulted}
use Rattle.job_ends.proofs.Statuses.{traced-wordless}
use Rattle.job_ends.specs.Causes.{EndsFor, is_fault}
use Rattle.job_ends.specs.Courses.{Says, text_job, word_of}
use Rattle.job_ends.specs.Files.{EndsByText, IsText, NoText}
use Rattle.job_ends.specs.Plans.{Plan}
use Rattle.job_ends.specs.declared.status.Status.{Status}
use Rattle.outside.specs.Told.{FileMap}
use Rattle.segment_job.specs.Begins.{begins_as_trace_segment}
use Rattle.trace_jobs.specs.Plans.{check_plan, migrate_plan}
use Rattle.trace_text.specs.writing.Writes.{Output}
use Rattle.motion_cli.specs.Causes.{TextCause, VerifyingCause}
use Rattle.motion_cli.specs.Ends.{EndsByJob, EndsByVerifying}
use Rattle.motion_cli.specs.Plans.{most_of}
use Rattle.motion_cli.specs.Said.{FileStands}

-- how a job with a file ended
abbrev pub EndsByFileJob : Option FileMap → Type 0 → FileJob → Output → Output → Status → Type 0
EndsByFileJob told rose r old new s =
    EndsByText told rose r.name (most_of r.job) (λ text. EndsByJob r.job r.name text old new s)
    old new s

-- ---- the file was read, or not

pub text-ended : (told : Option FileMap) (rose : Type 0) (r : FileJob) (most : ℕ) (text : List ℕ)
    (old mid new : Output) (s : Status) → most ≡ most_of r.job → mid ≡ old →
    IsText told r.name most text → EndsByJob r.job r.name text mid new s →
    EndsByFileJob told rose r old new s
text-ended told rose r most text old mid new s size same is e = inr (
  text,
  subst (λ n. IsText told r.name n text) size is,
  subst (λ o. EndsByJob r.job r.name text o new s) same e,
)

pub none-ended : (told : Option FileMap) (rose : Type 0) (r : FileJob) (most : ℕ)
    (old new : Output) (s : Status) → most ≡ most_of r.job →
    NoText told rose 1 r.name most old new s → EndsByFileJob told rose r old new s
none-ended told rose r most old new s size h =
    inl (subst (λ n. NoText told rose 1 r.name n old new s) size h)

-- a text is verified as it begins
pub verified-as : (is trace_segment : Bool) (name text : List ℕ) (old new : Output) (s : Status) →
    is ≡ trace_segment → EndsByVerifying is name text old new s →
    EndsByVerifying trace_segment name text old new s
verified-as is trace_segment name text old new s e =
    subst (λ b. EndsByVerifying b name text old new s) e

-- ---- it ended by a plan, for its cause

record EndsBySome (old new : Output) (Cause : Status → Type 0) (s : Status) : Type 0 where
  pub plan : Plan
  pub by : EndsFor old new plan Cause s

verified-for : (trace_segment : Bool) (name text : List ℕ) (old new : Output) (s : Status) →
    EndsByVerifying trace_segment name text old new s →
    EndsBySome old new (VerifyingCause trace_segment text) s
verified-for true name text old new s e = record { plan = e.plan; by = e.by }
verified-for false name text old new s e = record { plan = check_plan name text; by = e.by }

ends-for : (job : Job) (name text : List ℕ) (old new : Output) (s : Status) →
    EndsByJob job name text old new s → EndsBySome old new (TextCause job text) s
ends-for Bench name text old new s e = record { plan = bench_plan name text; by = e.by }
ends-for Check name text old new s e =
    verified-for (begins_as_trace_segment text) name text old new s e
ends-for Migrate name text old new s e = record { plan = migrate_plan name text; by = e.by }

pub file-says : (told : Option FileMap) (rose : Type 0) (r : FileJob) (old new : Output)
    (s : Status) → EndsByFileJob told rose r old new s →
    Says told rose (text_job r.name (most_of r.job) (TextCause r.job)) old new s
file-says told rose r old new s e =
    text-says told rose r.name (most_of r.job) (TextCause r.job) _ old new s (λ text ends.
    let by = ends-for r.job r.name text old new s ends in
    for-given r.name text (most_of r.job) (TextCause r.job) old new by.plan s by.by) e

-- ---- what was written stands for

pub file-stands : (told : Option FileMap) (rose : Type 0) (job : Job) (name : List ℕ)
    (old new : Output) (s : Status) →
    EndsByFileJob told rose (record { job = job; name = name }) old new s →
    FileStands told job name old.told new.told s
file-stands told rose Bench name old new s e = λ t.
    text-read told rose name (most_of Bench) _ old new s _ (traced-unfaulted s t)
    (traced-wordless s t) (λ text is by. by.headline told is.file t) e
file-stands told rose Check name old new s e = tt
file-stands told rose Migrate name old new s e = λ h.
    text-read told rose name (most_of Migrate) _ old new s _ (ap is_fault h) (ap word_of h)
    (λ text is by. by.migrated told is.file h) e
