-- What is said of how the program ends, by how it ended.
-- for: top
use Rattle.std.specs.Prelude.{◌≡◌, ◌⊎◌, ◌<◌, refl, ℕ, if◌then◌else◌, Bool, true, false, Option, Some, None, IfSome, IsSomeAnd, Ok, Err, List}
use Rattle.std.specs.Result.{IsOk, is_ok}
use Rattle.std.proofs.Common.{◌∙◌, inl, inr, sym, ap, arith, subst}
use Rattle.bench_job.specs.Causes.{BenchCause, HasRoomFor}
use Rattle.command_words.specs.Requests.{FileJob, Request, of_file, of_load, of_report, of_run, of_scope, of_switches, of_tasks}
use Rattle.command_words.specs.declared.request.Job.{Job}
use Rattle.command_words.specs.declared.request.Job.TheVariants.{Bench, Check, Migrate}
use Rattle.job_ends.proofs.CourseLaws.{says, says-early, told-unfaulted}
use Rattle.job_ends.proofs.PlanLaws.{Statuses, statuses}
use Rattle.job_ends.proofs.Readings.{short-text}
use Rattle.job_ends.proofs.Statuses.{apart}
use Rattle.job_ends.specs.Causes.{is_fault, is_told, is_traced}
use Rattle.job_ends.proofs.Endings.{EndsGiven}
use Rattle.job_ends.specs.Courses.{CauseBy, IsEndOf, Says, word_of}
use Rattle.job_ends.specs.Ends.{EndsEarly}
use Rattle.job_ends.specs.Readings.{text_in}
use Rattle.job_ends.specs.declared.status.Status.{Status}
use Rattle.job_ends.specs.declared.status.Status.TheVariants as status
use Rattle.load_job.specs.Ends.{EndsByLoad, load_job, load_plan}
use Rattle.outside.specs.Faults.{Rose}
use Rattle.outside.specs.Told.{FileMap}
use Rattle.trace_text.specs.writing.Writes.{Output}
use Rattle.motion_cli.proofs.FileLaws.{EndsByFileJob, file-says, file-stands}
use Rattle.motion_cli.specs.Causes.{HasRoom, TextCause, job_of}
use Rattle.motion_cli.specs.Ends.{EndsByRequest}
use Rattle.motion_cli.specs.Plans.{most_of, usage_plan}
use Rattle.motion_cli.specs.Said.{FileStands, GivesRun, IsSaid, IsSaidOf, NoneUnstarted, RanToEnd, Stands}

-- files of which something holds are known
known-files : (told : Option FileMap) (P : FileMap → Type 0) → IsSomeAnd told P →
    (files : FileMap) × (told ≡ Some files) × P files
known-files None P h = absurd h
known-files (Some files) P h = (files, refl, h)

-- ---- no thread is refused but to a run

own-thread : (unstarted : Type 0) (r : Request) → (job_of unstarted r).Own status.ThreadRefused →
    unstarted
own-thread unstarted (of_file r) h = absurd (let bad : false ≡ true = h in cc)
own-thread unstarted (of_run r) (inl h) = h.1
own-thread unstarted (of_run r) (inr h) = absurd (let bad : false ≡ true = h in cc)
own-thread unstarted (of_load seed) h =
    absurd (let bad : status.ThreadRefused ≡ status.Ok = h in cc)
own-thread unstarted (of_tasks r) h = absurd (let bad : false ≡ true = h in cc)
own-thread unstarted (of_report (of_switches trace switches)) h =
    absurd (let bad : false ≡ true = h in cc)
own-thread unstarted (of_report (of_scope trace)) h =
    absurd (let bad : status.ThreadRefused ≡ status.Ok = h in cc)

thread-by : (unstarted : Type 0) (r : Request) (s : Status) → IsEndOf (job_of unstarted r) s →
    s ≡ status.ThreadRefused → unstarted
thread-by unstarted r s (inl e) h =
    absurd (let bad : status.WriteFault ≡ status.ThreadRefused = sym e ∙ h in cc)
thread-by unstarted r s (inr (inl e)) h =
    absurd (let bad : status.OutOfMemory ≡ status.ThreadRefused = sym e ∙ h in cc)
thread-by unstarted r s (inr (inr (inl about))) h =
    absurd (let some : 0 < word_of s = about.some in
    let none : word_of s ≡ 0 = ap word_of h in omega (arith, some, none))
thread-by unstarted r s (inr (inr (inr own))) h =
    own-thread unstarted r (subst (job_of unstarted r).Own h own)

-- what is said of any request, by what its job says
said-of : (told : Option FileMap) (rose unstarted : Type 0) (Started : ℕ → Type 0) (r : Request)
    (old new : Output) (s : Status) → Stands told Started r old.told new.told s →
    Says told rose (job_of unstarted r) old new s →
    (GivesRun told r → (rose → ⊥) → NoneUnstarted unstarted r → (Rose old.count new.count → ⊥) →
    RanToEnd r s ⊎ (s ≡ status.OutOfMemory)) →
    IsSaidOf told rose unstarted Started r old new s
said-of told rose unstarted Started r old new s stands by complete = record {
  written = stands;
  says = by;
  thread_refused = thread-by unstarted r s by.kind;
  complete = complete;
}

-- ---- where memory ran out

no-ok : (s : Status) → s ≡ status.OutOfMemory → s ≡ status.Ok → ⊥
no-ok s h e = let bad : status.OutOfMemory ≡ status.Ok = sym h ∙ e in cc

no-trace : (s : Status) → s ≡ status.OutOfMemory → is_traced s ≡ true → ⊥
no-trace s h t = let bad : false ≡ true = sym (ap is_traced h) ∙ t in cc

early-file : (told : Option FileMap) (job : Job) (name : List ℕ) (old new : Output) (s : Status) →
    s ≡ status.OutOfMemory → FileStands told job name old.told new.told s
early-file told Bench name old new s h = λ t. absurd (no-trace s h t)
early-file told Check name old new s h = tt
early-file told Migrate name old new s h = λ e. absurd (no-ok s h e)

early-stands : (told : Option FileMap) (Started : ℕ → Type 0) (r : Request) (old new : Output)
    (s : Status) → s ≡ status.OutOfMemory → Stands told Started r old.told new.told s
early-stands told Started (of_file r) old new s h = early-file told r.job r.name old new s h
early-stands told Started (of_run r) old new s h = λ t. absurd (no-trace s h t)
early-stands told Started (of_load seed) old new s h = λ e. absurd (no-ok s h e)
early-stands told Started (of_tasks r) old new s h = λ t. absurd (no-trace s h t)
early-stands told Started (of_report (of_switches trace switches)) old new s h =
    λ e. absurd (no-ok s h e)
early-stands told Started (of_report (of_scope trace)) old new s h = λ e. absurd (no-ok s h e)

-- ---- a job with a file

-- a bench with room enough is read, and leads to Ok
room-reads : (job : Job) (o : Option (List ℕ)) → IsSomeAnd o (HasRoom job) →
    IsOk (text_in (most_of job) 1 o)
room-reads Bench None h = absurd h
room-reads Bench (Some text) h =
    ap (λ (long : Bool). is_ok (if long then Err (status.TooLong 1) else Ok text))
    (short-text (most_of Bench) text h.0)
room-reads Check None h = absurd h
room-reads Check (Some text) h = absurd h
room-reads Migrate None h = absurd h
room-reads Migrate (Some text) h = absurd h

enough : ((text : List ℕ) → HasRoomFor text → BenchCause text status.Ok) → (job : Job)
    (o : Option (List ℕ)) → IsSomeAnd o (HasRoom job) →
    CauseBy (text_in (most_of job) 1 o) (TextCause job) status.Ok
enough law Bench None h = absurd h
enough law Bench (Some text) h =
    subst (λ (long : Bool). CauseBy (if long then Err (status.TooLong 1) else Ok text) BenchCause
    status.Ok) (sym (short-text (most_of Bench) text h.0)) (law text h.1)
enough law Check None h = absurd h
enough law Check (Some text) h = absurd h
enough law Migrate None h = absurd h
enough law Migrate (Some text) h = absurd h

-- a status comes, unless a fault does
unless-fault : (s wanted : Status) → (s ≡ wanted) ⊎ (is_fault s ≡ true) →
    (is_told s ≡ true) ⊎ (s ≡ status.OutOfMemory) → (s ≡ wanted) ⊎ (s ≡ status.OutOfMemory)
unless-fault s wanted (inl h) f = inl h
unless-fault s wanted (inr h) (inl t) = absurd (apart is_fault s s h (told-unfaulted s t) refl)
unless-fault s wanted (inr h) (inr m) = inr m

file-said : ((text : List ℕ) → HasRoomFor text → BenchCause text status.Ok) →
    (told : Option FileMap) (rose unstarted : Type 0) (Started : ℕ → Type 0) (r : FileJob)
    (old new : Output) (s : Status) → EndsByFileJob told rose r old new s →
    IsSaidOf told rose unstarted Started (of_file r) old new s
file-said law told rose unstarted Started r old new s e =
    let by = file-says told rose r old new s e in
    said-of told rose unstarted Started (of_file r) old new s
    (file-stands told rose r.job r.name old new s e) by
    (λ gives f u w.
    let k = known-files told (λ files. IsSomeAnd (files r.name) (HasRoom r.job)) gives in
    unless-fault s status.Ok
    ((by.comes k.0 status.Ok k.1 refl).always (enough law r.job (k.0 r.name) k.2))
    (by.given k.0 k.1 (room-reads r.job (k.0 r.name) k.2) f w))

-- ---- a run

-- where no thread was refused it has a trace
all-started : (unstarted : Type 0) (s : Status) → (unstarted → ⊥) →
    (((s ≡ status.ThreadRefused) × unstarted) ⊎ (is_traced s ≡ true)) ⊎ (s ≡ status.OutOfMemory) →
    (is_traced s ≡ true) ⊎ (s ≡ status.OutOfMemory)
all-started unstarted s u (inl (inl h)) = absurd (u h.1)
all-started unstarted s u (inl (inr t)) = inl t
all-started unstarted s u (inr m) = inr m

-- ---- a load

none-read : (told : Option FileMap) → IfSome told (λ files. load_job.reading files ≡ Ok tt)
none-read None = tt
none-read (Some files) = refl

load-shown : (seed : ℕ) (old new : Output) (s : Status) → EndsByLoad seed old new s →
    EndsGiven load_job tt old new s
load-shown seed old new s e = record {
  plan = load_plan seed;
  ends = e.by.ends;
  own = refl;
  unfaulted = refl;
  caused = λ f d. tt;
  alone = λ f other d. e.by.alone f other;
}

load-done : (s : Status) (writing : Type 0) → (writing → ⊥) → Statuses s status.Ok writing →
    (s ≡ status.Ok) ⊎ (s ≡ status.OutOfMemory)
load-done s writing w (inl h) = inl h
load-done s writing w (inr (inl h)) = absurd (w h.1)
load-done s writing w (inr (inr h)) = inr h

-- ---- whatever was asked

pub said : ((text : List ℕ) → HasRoomFor text → BenchCause text status.Ok) →
    (told : Option FileMap) (rose unstarted : Type 0) (Started : ℕ → Type 0)
    (asked : Option Request) (old new : Output) (s : Status) →
    EndsByRequest told rose unstarted Started asked old new s →
    IsSaid told rose unstarted Started asked old new s
said law told rose unstarted Started None old new s e = statuses old new usage_plan s e
said law told rose unstarted Started (Some (of_file r)) old new s e =
    file-said law told rose unstarted Started r old new s e
said law told rose unstarted Started (Some (of_run r)) old new s e =
    said-of told rose unstarted Started (of_run r) old new s e.headline e.says (λ gives f u w.
    let k = known-files told _ gives in
    all-started unstarted s u (e.says.given k.0 k.1 k.2 f w))
said law told rose unstarted Started (Some (of_load seed)) old new s e =
    said-of told rose unstarted Started (of_load seed) old new s e.line
    (says told rose load_job old new s (inr (tt, none-read told, load-shown seed old new s e)))
    (λ gives f u w. load-done s (Rose old.count new.count) w
    (statuses old new (load_plan seed) s e.by.ends))
said law told rose unstarted Started (Some (of_tasks r)) old new s e =
    said-of told rose unstarted Started (of_tasks r) old new s e.headline e.says (λ gives f u w.
    let k = known-files told _ gives in e.says.given k.0 k.1 k.2 f w)
said law told rose unstarted Started (Some (of_report (of_switches trace switches))) old new s e =
    said-of told rose unstarted Started (of_report (of_switches trace switches)) old new s
    e.switched
    e.says (λ gives f u w. absurd gives)
said law told rose unstarted Started (Some (of_report (of_scope trace))) old new s e =
    said-of told rose unstarted Started (of_report (of_scope trace)) old new s e.scoped e.says
    (λ gives f u w. absurd gives)

-- and where there was no memory to read the words
pub said-early : (told : Option FileMap) (rose unstarted : Type 0) (Started : ℕ → Type 0)
    (asked : Option Request) (old new : Output) (s : Status) → EndsEarly old new s →
    IsSaid told rose unstarted Started asked old new s
said-early told rose unstarted Started None old new s e = inr (inr e.status)
said-early told rose unstarted Started (Some r) old new s e =
    said-of told rose unstarted Started r old new s
    (early-stands told Started r old new s e.status)
    (says-early told rose (job_of unstarted r) old new s e) (λ gives f u w. inr e.status)
