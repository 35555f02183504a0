-- What two files that were read, or weren't, say of the end of a job.
-- for: crates above
use Rattle.std.specs.Prelude.{◌≡◌, ◌⊎◌, false, Bool, ℕ, Option, Some, None, IfSome, IfErr, Result, Ok, Err, List}
use Rattle.std.proofs.Common.{◌∙◌, inl, inr, ap, subst, lit<, lit≤}
use Rattle.line_text.specs.Reading.{◌>>=◌}
use Rattle.motion_history.specs.declared.refused.TextRefused.{TextRefused}
use Rattle.outside.specs.Faults.{Rose}
use Rattle.outside.specs.Told.{FileMap}
use Rattle.trace_text.specs.writing.Writes.{Output}
use Rattle.job_ends.proofs.CourseLaws.{none-given, says}
use Rattle.job_ends.proofs.Readings.{given, no-reading}
use Rattle.job_ends.specs.Causes.{is_fault}
use Rattle.job_ends.proofs.Endings.{EndsGiven, EndsReported}
use Rattle.job_ends.specs.Courses.{Says, both_job, word_of}
use Rattle.job_ends.specs.Ends.{EndsEarly}
use Rattle.job_ends.specs.Files.{GivesReading, NoBoth, NoReading}
use Rattle.job_ends.specs.Readings.{both_by, file_in}
use Rattle.job_ends.specs.declared.status.Status.{Status}

-- both are wanting where the first is
first-wanting : {A B : Type 0} (f : Result A Status) (g : A → Result B Status) (s : Status) →
    f ≡ Err s → both_by f g ≡ Err s
unfolding both_by
first-wanting f g s e = ap (λ r. r >>= λ a. g a >>= λ b. Ok (a, b)) e

-- and where the second is
second-wanting : {A B : Type 0} (f : Result A Status) (g : A → Result B Status) (a : A)
    (s : Status) →
    f ≡ Ok a → g a ≡ Err s → both_by f g ≡ Err s
unfolding both_by
second-wanting f g a s is e =
    ap (λ r. r >>= λ x. g x >>= λ b. Ok (x, b)) is ∙ ap (λ r. r >>= λ b. Ok (a, b)) e

-- they are there where each is
both-given : {A B : Type 0} (f : Result A Status) (g : A → Result B Status) (a : A) (b : B) →
    f ≡ Ok a → g a ≡ Ok b → both_by f g ≡ Ok (a, b)
unfolding both_by
both-given f g a b is e =
    ap (λ r. r >>= λ x. g x >>= λ y. Ok (x, y)) is ∙ ap (λ r. r >>= λ y. Ok (a, y)) e

pub both-there : {A B : Type 0} (told : Option FileMap) (first second : List ℕ) (most next : ℕ)
    (read : List ℕ → Result A TextRefused) (Means : List ℕ → A → Type 0)
    (read_by : A → List ℕ → Result B TextRefused) (MeansBy : List ℕ → B → Type 0) (a : A) (b : B) →
    GivesReading told first most read Means a →
    GivesReading told second next (read_by a) MeansBy b →
    IfSome told (λ files. both_by (file_in most 1 read (files first))
    (λ x. file_in next 2 (read_by x) (files second)) ≡ Ok (a, b))
both-there None first second most next read Means read_by MeansBy a b g h = tt
both-there (Some files) first second most next read Means read_by MeansBy a b g h =
    both-given (file_in most 1 read (files first))
    (λ x. file_in next 2 (read_by x) (files second)) a b
    (given (Some files) most 1 first read Means a g)
    (given (Some files) next 2 second (read_by a) MeansBy b h)

-- files that don't give both were reported by a plan, or memory ran out
pub no-both : {A B : Type 0} (told : Option FileMap) (rose : Type 0) (first second : List ℕ)
    (most next : ℕ) (read : List ℕ → Result A TextRefused) (Means : List ℕ → A → Type 0)
    (read_by : A → List ℕ → Result B TextRefused) (old new : Output) (s : Status) →
    NoBoth told rose first second most next read Means read_by old new s → EndsEarly old new s ⊎
    EndsReported told rose 2 (λ files. both_by (file_in most 1 read (files first))
    (λ a. file_in next 2 (read_by a) (files second))) old new s
no-both told rose first second most next read Means read_by old new s (inl h) =
    no-reading told rose 2 most 1 first read _ old new s (lit< tt) (lit≤ tt)
    (λ files is x e. first-wanting (file_in most 1 read (files first))
    (λ a. file_in next 2 (read_by a) (files second)) x e) h
no-both told rose first second most next read Means read_by old new s (inr (a, g, h)) =
    no-reading told rose 2 next 2 second (read_by a) _ old new s (lit< tt) (lit≤ tt)
    (λ files is x e. second-wanting (file_in most 1 read (files first))
    (λ b. file_in next 2 (read_by b) (files second)) a x
    (subst (λ t. IfSome t (λ f. file_in most 1 read (f first) ≡ Ok a)) is
    (given told most 1 first read Means a g)) e) h

-- what an end by two files says, where the job shows it of what they give
pub both-says : {A B : Type 0} (told : Option FileMap) (rose : Type 0) (first second : List ℕ)
    (most next : ℕ) (read : List ℕ → Result A TextRefused) (Means : List ℕ → A → Type 0)
    (read_by : A → List ℕ → Result B TextRefused) (Cause : A × B → Status → Type 0) (whole : Bool)
    (Own : Status → Type 0) (Ends : Type 0) (old new : Output) (s : Status) →
    (Ends → (x : A × B) × IfSome told (λ files. both_by (file_in most 1 read (files first))
    (λ a. file_in next 2 (read_by a) (files second)) ≡ Ok x) ×
    EndsGiven (both_job first most read second next read_by Cause whole Own) x old new s) →
    NoBoth told rose first second most next read Means read_by old new s ⊎ Ends →
    Says told rose (both_job first most read second next read_by Cause whole Own) old new s
both-says told rose first second most next read Means read_by Cause whole Own Ends old new s show
    (inl h) =
    says told rose (both_job first most read second next read_by Cause whole Own) old new s
    (inl (no-both told rose first second most next read Means read_by old new s h))
both-says told rose first second most next read Means read_by Cause whole Own Ends old new s show
    (inr e) =
    says told rose (both_job first most read second next read_by Cause whole Own) old new s
    (inr (show e))

-- where it ended with a status that is about no file and no fault, both were given
pub both-read : {A B : Type 0} (told : Option FileMap) (rose : Type 0) (first second : List ℕ)
    (most next : ℕ) (read : List ℕ → Result A TextRefused) (Means : List ℕ → A → Type 0)
    (read_by : A → List ℕ → Result B TextRefused) (Ends : Type 0) (old new : Output) (s : Status) →
    is_fault s ≡ false → word_of s ≡ 0 →
    NoBoth told rose first second most next read Means read_by old new s ⊎ Ends → Ends
both-read told rose first second most next read Means read_by Ends old new s f n (inl h) =
    absurd (none-given told rose 2 _ old new s
    (no-both told rose first second most next read Means read_by old new s h) f n)
both-read told rose first second most next read Means read_by Ends old new s f n (inr e) = e

-- the second file was read after the first, which left files and output as they were
pub second-none : {A B C : Type 0} (told told1 : Option FileMap) (n n1 n2 : ℕ)
    (first second : List ℕ) (most next : ℕ) (read : List ℕ → Result A TextRefused)
    (Means : List ℕ → A → Type 0) (read_by : A → List ℕ → Result B TextRefused) (a : A)
    (old old1 new : Output) (r : Result C Status) → told1 ≡ told → n1 ≡ n → old1 ≡ old →
    GivesReading told first most read Means a →
    IfErr r (NoReading told1 (Rose n1 n2) 2 second next (read_by a) old1 new) →
    IfErr r (NoBoth told (Rose n n2) first second most next read Means read_by old new)
second-none told told1 n n1 n2 first second most next read Means read_by a old old1 new
    (Ok c) e1 e2 e3 g h = h
second-none told told1 n n1 n2 first second most next read Means read_by a old old1 new
    (Err s) e1 e2 e3 g h =
    inr (
      a,
      g,
      subst (λ m. NoReading m (Rose n n2) 2 second next (read_by a) old new s) e1
          (subst (λ k. NoReading told1 (Rose k n2) 2 second next (read_by a) old new s) e2
          (subst (λ o. NoReading told1 (Rose n1 n2) 2 second next (read_by a) o new s) e3 h)),
    )
