-- What a file gives a job. This project's profile.
use Rattle.std.specs.Prelude.{◌≡◌, ◌≤◌, ◌⊎◌, ℕ, Option, Result, Ok, Err, List, length}
use Rattle.motion_history.specs.declared.refused.TextRefused.{TextRefused}
use Rattle.outside.specs.Told.{FileMap, HasFile, IsLonger, LacksFile}
use Rattle.trace_text.specs.writing.Writes.{Output}
use Rattle.job_ends.specs.Ends.{EndsBy, EndsEarly}
use Rattle.job_ends.specs.Plans.{refused_plan, too_long_plan, unread_plan}
use Rattle.job_ends.specs.declared.status.Status.{Status}

-- a file has this text, of at most this many bytes
pub record IsText (told : Option FileMap) (name : List ℕ) (most : ℕ) (text : List ℕ) : Type 0 where
  pub file : HasFile told name text
  pub within : length text ≤ most

-- a file gives no text, and it was said why: it couldn't be read, or it is longer than it may be;
-- or memory ran out
abbrev pub NoText : Option FileMap → Type 0 → ℕ → List ℕ → ℕ → Output → Output → Status → Type 0
NoText told rose word name most old new s =
    ((rose ⊎ LacksFile told name) × EndsBy old new (unread_plan word name) s) ⊎
    ((IsLonger told name most × EndsBy old new (too_long_plan word name) s) ⊎ EndsEarly old new s)

-- a file has a text that is refused, and it was said so
pub record IsRefusedText {A : Type 0} (told : Option FileMap) (word : ℕ) (name : List ℕ) (most : ℕ)
    (reading : List ℕ → Result A TextRefused) (old new : Output) (s : Status) : Type 0 where
  pub text : List ℕ
  pub is_text : IsText told name most text
  pub refused : TextRefused
  pub read : reading text ≡ Err refused
  pub ends : EndsBy old new (refused_plan word name refused) s

-- a file gives no reading: it gives no text, or one that is refused
abbrev pub NoReading : {A : Type 0} → Option FileMap → Type 0 → ℕ → List ℕ → ℕ →
    (List ℕ → Result A TextRefused) → Output → Output → Status → Type 0
NoReading told rose word name most reading old new s =
    NoText told rose word name most old new s ⊎
    IsRefusedText told word name most reading old new s

-- a file gives this reading, which its text means
pub record GivesReading {A : Type 0} (told : Option FileMap) (name : List ℕ) (most : ℕ)
    (reading : List ℕ → Result A TextRefused) (Means : List ℕ → A → Type 0) (x : A) : Type 0 where
  pub text : List ℕ
  pub is_text : IsText told name most text
  pub read : reading text ≡ Ok x
  pub means : Means text x

-- how a job ends by one file: it gives no reading, or it gives one, and the job ended by that
abbrev pub EndsByFile : {A : Type 0} → Option FileMap → Type 0 → List ℕ → ℕ →
    (List ℕ → Result A TextRefused) → (A → Type 0) → Output → Output → Status → Type 0
EndsByFile {A = A} told rose name most read Ends old new s =
    NoReading told rose 1 name most read old new s ⊎
    ((a : A) × GivesReading told name most read (λ text x. Unit {0}) a × Ends a)

-- how one ends by the text of a file: it gives none, or it gives one, and the job ended by that
abbrev pub EndsByText : Option FileMap → Type 0 → List ℕ → ℕ → (List ℕ → Type 0) → Output → Output →
    Status → Type 0
EndsByText told rose name most Ends old new s =
    NoText told rose 1 name most old new s ⊎
    ((text : List ℕ) × IsText told name most text × Ends text)

-- two files don't give what is read in them: the first gives no reading, or it gives one by which
-- the second gives none
abbrev pub NoBoth : {A B : Type 0} → Option FileMap → Type 0 → (first second : List ℕ) →
    (most next : ℕ) → (List ℕ → Result A TextRefused) → (List ℕ → A → Type 0) →
    (A → List ℕ → Result B TextRefused) → Output → Output → Status → Type 0
NoBoth {A = A} told rose first second most next read Means read_by old new s =
    NoReading told rose 1 first most read old new s ⊎
    ((a : A) × GivesReading told first most read Means a ×
    NoReading told rose 2 second next (read_by a) old new s)
