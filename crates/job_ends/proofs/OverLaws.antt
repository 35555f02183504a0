-- The ends of jobs over one file are ends by what their files give.
-- for: crates above
use Rattle.std.specs.Prelude.{◌≡◌, ℕ, false, Option, Result, Ok, Err, List}
use Rattle.std.proofs.Common.{inl, inr, sym, ap, subst, lit<, lit≤}
use Rattle.motion_history.specs.declared.refused.TextRefused.{TextRefused}
use Rattle.outside.specs.Told.{FileMap}
use Rattle.trace_text.specs.writing.Writes.{Output}
use Rattle.job_ends.proofs.CourseLaws.{none-given, says, told-unfaulted}
use Rattle.job_ends.proofs.Readings.{given, no-reading, no-text, text-there}
use Rattle.job_ends.specs.Causes.{EndsFor, is_fault}
use Rattle.job_ends.proofs.Endings.{EndsGiven}
use Rattle.job_ends.specs.Courses.{Says, file_job, text_job, word_of}
use Rattle.job_ends.specs.Ends.{EndsBy}
use Rattle.job_ends.specs.Files.{EndsByFile, EndsByText, IsText}
use Rattle.job_ends.specs.Plans.{Plan, plan_of_reading, refused_plan}
use Rattle.job_ends.specs.Readings.{file_in, text_in}
use Rattle.job_ends.specs.declared.status.Status.{Status}

-- ---- one file and its text

-- what an end by a text says, where the job shows it of the text
pub text-says : (told : Option FileMap) (rose : Type 0) (name : List ℕ) (most : ℕ)
    (Cause : List ℕ → Status → Type 0) (Ends : List ℕ → Type 0) (old new : Output) (s : Status) →
    ((text : List ℕ) → Ends text → EndsGiven (text_job name most Cause) text old new s) →
    EndsByText told rose name most Ends old new s →
    Says told rose (text_job name most Cause) old new s
text-says told rose name most Cause Ends old new s show (inl h) =
    says told rose (text_job name most Cause) old new s
    (inl (no-text told rose 1 most 1 name _ old new s (lit< tt) (lit≤ tt) (λ files is x e. e) h))
text-says told rose name most Cause Ends old new s show (inr (text, is, e)) =
    says told rose (text_job name most Cause) old new s
    (inr (text, text-there told most 1 name text is, show text e))

-- where it ended with a status that is about no file and no fault, there is a text
pub text-read : (told : Option FileMap) (rose : Type 0) (name : List ℕ) (most : ℕ)
    (Ends : List ℕ → Type 0) (old new : Output) (s : Status) (Said : Type 0) →
    is_fault s ≡ false → word_of s ≡ 0 →
    ((text : List ℕ) → IsText told name most text → Ends text → Said) →
    EndsByText told rose name most Ends old new s → Said
text-read told rose name most Ends old new s Said f n say (inl h) =
    absurd (none-given told rose 1 (λ files. text_in most 1 (files name)) old new s
    (no-text told rose 1 most 1 name _ old new s (lit< tt) (lit≤ tt) (λ files is x e. e) h) f n)
text-read told rose name most Ends old new s Said f n say (inr (text, is, e)) = say text is e

-- a job that ended by a plan, for its cause, shows this
pub for-given : (name text : List ℕ) (most : ℕ) (Cause : List ℕ → Status → Type 0)
    (old new : Output) (plan : Plan) (s : Status) → EndsFor old new plan (Cause text) s →
    EndsGiven (text_job name most Cause) text old new s
for-given name text most Cause old new plan s e = record {
  plan = plan;
  ends = e.ends;
  own = e.told;
  unfaulted = told-unfaulted plan.status e.told;
  caused = λ f d. e.caused f;
  alone = λ f other d. e.alone f other;
}

-- ---- one file and its reading

-- what an end by a reading says, where the job shows it of what was read
pub file-says : {A : Type 0} (told : Option FileMap) (rose : Type 0) (name : List ℕ) (most : ℕ)
    (read : List ℕ → Result A TextRefused) (Cause : A → Status → Type 0) (Own : Status → Type 0)
    (Ends : A → Type 0) (old new : Output) (s : Status) →
    ((a : A) → Ends a → EndsGiven (file_job name most read Cause Own) a old new s) →
    EndsByFile told rose name most read Ends old new s →
    Says told rose (file_job name most read Cause Own) old new s
file-says told rose name most read Cause Own Ends old new s show (inl h) =
    says told rose (file_job name most read Cause Own) old new s
    (inl (no-reading told rose 1 most 1 name read _ old new s (lit< tt) (lit≤ tt)
    (λ files is x e. e) h))
file-says told rose name most read Cause Own Ends old new s show (inr (a, g, e)) =
    says told rose (file_job name most read Cause Own) old new s
    (inr (a, given told most 1 name read (λ text x. Unit {0}) a g, show a e))

-- where it ended with a status that is about no file and no fault, something was read
pub file-read : {A : Type 0} (told : Option FileMap) (rose : Type 0) (name : List ℕ) (most : ℕ)
    (read : List ℕ → Result A TextRefused) (Ends : A → Type 0) (old new : Output) (s : Status)
    (Said : Type 0) → is_fault s ≡ false → word_of s ≡ 0 →
    ((a : A) (text : List ℕ) → IsText told name most text → read text ≡ Ok a → Ends a → Said) →
    EndsByFile told rose name most read Ends old new s → Said
file-read told rose name most read Ends old new s Said f n say (inl h) =
    absurd (none-given told rose 1 (λ files. file_in most 1 read (files name)) old new s
    (no-reading told rose 1 most 1 name read _ old new s (lit< tt) (lit≤ tt)
    (λ files is x e. e) h) f n)
file-read told rose name most read Ends old new s Said f n say (inr (a, g, e)) =
    say a g.text g.is_text g.read e

-- a job that ended by the plan of its text's reading
pub by-reading : {A : Type 0} (told : Option FileMap) (rose : Type 0) (name text : List ℕ)
    (most : ℕ)
    (read : List ℕ → Result A TextRefused) (plan : A → Plan) (old new : Output) (s : Status)
    (r : Result A TextRefused) → IsText told name most text → read text ≡ r →
    EndsBy old new (plan_of_reading plan 1 name r) s →
    EndsByFile told rose name most read (λ a. EndsBy old new (plan a) s) old new s
by-reading told rose name text most read plan old new s (Ok a) is e ends =
    inr (a, record { text = text; is_text = is; read = e; means = tt }, ends)
by-reading told rose name text most read plan old new s (Err r) is e ends =
    inl (inr (record { text = text; is_text = is; refused = r; read = e; ends = ends }))

-- ---- the plan of a reading

-- a text that is refused ends by its reading's plan
pub refused-ends : {A : Type 0} (old new : Output) (plan : A → Plan) (name : List ℕ)
    (reading : Result A TextRefused) (r : TextRefused) (s : Status) → reading ≡ Err r →
    EndsBy old new (refused_plan 1 name r) s →
    EndsBy old new (plan_of_reading plan 1 name reading) s
refused-ends old new plan name reading r s e =
    subst (λ p. EndsBy old new p s) (sym (ap (plan_of_reading plan 1 name) e))

-- and one that is read by that of what was read
pub read-ends : {A : Type 0} (old new : Output) (plan : A → Plan) (name : List ℕ)
    (reading : Result A TextRefused) (a : A) (s : Status) → reading ≡ Ok a →
    EndsBy old new (plan a) s → EndsBy old new (plan_of_reading plan 1 name reading) s
read-ends old new plan name reading a s e =
    subst (λ p. EndsBy old new p s) (sym (ap (plan_of_reading plan 1 name) e))
