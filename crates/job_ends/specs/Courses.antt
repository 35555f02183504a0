-- A job over files: what its files give it, and what its end says of its status. This project's
-- profile.
use Rattle.std.specs.Prelude.{◌≡◌, ◌⊎◌, ◌<◌, ◌≤◌, ℕ, Bool, true, false, not, Option, Some, IsSomeAnd, Result, Ok, Err, List}
use Rattle.std.specs.Result.{IsOk}
use Rattle.motion_history.specs.declared.refused.TextRefused.{TextRefused}
use Rattle.outside.specs.Faults.{Rose}
use Rattle.outside.specs.Told.{FileMap}
use Rattle.trace_text.specs.writing.Writes.{Output}
use Rattle.job_ends.specs.Causes.{ComesExactly, is_fault, is_told}
use Rattle.job_ends.specs.Readings.{both_by, file_in, is_of_text, text_in}
use Rattle.job_ends.specs.declared.status.Status.{Status}
use Rattle.job_ends.specs.declared.status.Status.TheVariants as status

-- ---- what a job over files is

-- a job over files
pub record Job : Type 1 where
  -- what its files give it
  pub Given : Type 0
  -- how many they are: those of the words from 1 on
  pub files : ℕ
  -- what they are read as; or what is reported of the first of them that gives nothing
  pub reading : FileMap → Result Given Status
  -- the cause of each status that is decided by what they give
  pub Cause : Given → Status → Type 0
  -- whether the files decide every status that is no fault, or only those about a file's text
  pub whole : Bool
  -- the statuses that it may end with by what they give
  pub Own : Status → Type 0

-- a job over the text of one file, of at most this many bytes
abbrev pub text_job : List ℕ → ℕ → (List ℕ → Status → Type 0) → Job
text_job name most Cause = record {
  Given = List ℕ;
  files = 1;
  reading = λ files. text_in most 1 (files name);
  Cause = Cause;
  whole = true;
  Own = λ s. is_told s ≡ true;
}

-- a job over one file that is read so
abbrev pub file_job : {A : Type 0} → List ℕ → ℕ → (List ℕ → Result A TextRefused) →
    (A → Status → Type 0) → (Status → Type 0) → Job
file_job {A = A} name most read Cause Own = record {
  Given = A;
  files = 1;
  reading = λ files. file_in most 1 read (files name);
  Cause = Cause;
  whole = true;
  Own = Own;
}

-- a job over two files, the second of which is read by what the first gives
abbrev pub both_job : {A B : Type 0} → List ℕ → ℕ → (List ℕ → Result A TextRefused) → List ℕ → ℕ →
    (A → List ℕ → Result B TextRefused) → (A × B → Status → Type 0) → Bool → (Status → Type 0) → Job
both_job {A = A} {B = B} first most read second next read_by Cause whole Own = record {
  Given = A × B;
  files = 2;
  reading = λ files. both_by (file_in most 1 read (files first))
      (λ a. file_in next 2 (read_by a) (files second));
  Cause = Cause;
  whole = whole;
  Own = Own;
}

-- whether the files decide a status: where they decide the whole, every one that is no fault, else
-- those about a file's text
abbrev pub decides : Bool → Status → Bool
decides true s = not (is_fault s)
decides false s = is_of_text s

-- the cause of a status by what files are read as: what is reported of them, or of what they give
abbrev pub CauseBy : {A : Type 0} → Result A Status → (A → Status → Type 0) → Status → Type 0
CauseBy (Ok a) Cause wanted = Cause a wanted
CauseBy (Err s) Cause wanted = s ≡ wanted

-- the number of the word whose file a status is about, or 0 where it is about none
abbrev pub word_of : Status → ℕ
word_of (status.ReadFault word) = word
word_of (status.TooLong word) = word
word_of (status.TextRefused word place rule) = word
word_of _ = 0

-- a status is about a file of one of this many words
pub record IsAbout (files : ℕ) (s : Status) : Type 0 where
  pub some : 0 < word_of s
  pub within : word_of s ≤ files

-- ---- what its end says of its status

-- the statuses of a job: writing failed, memory ran out, it is about a file, or is the job's own
abbrev pub IsEndOf : Job → Status → Type 0
IsEndOf j s = (s ≡ status.WriteFault) ⊎ ((s ≡ status.OutOfMemory) ⊎ (IsAbout j.files s ⊎ j.Own s))

-- what the end of a job says of its status
pub record Says (told : Option FileMap) (rose : Type 0) (j : Job) (old new : Output) (s : Status)
    : Type 0 where
  -- each status that the files decide comes exactly of its cause
  pub comes : (files : FileMap) (wanted : Status) → told ≡ Some files →
      decides j.whole wanted ≡ true →
      ComesExactly s wanted (CauseBy (j.reading files) j.Cause wanted)
  -- a file couldn't be read only where reading failed, or the files lack it
  pub read_fault : (word : ℕ) → s ≡ status.ReadFault word → rose ⊎
      IsSomeAnd told (λ files. j.reading files ≡ Err (status.ReadFault word))
  -- writing failed only where the count of its faults rose
  pub write_fault : s ≡ status.WriteFault → Rose old.count new.count
  -- where no file is lacking and no count of faults rose, no fault comes but out of memory
  pub faultless : (files : FileMap) → told ≡ Some files →
      ((word : ℕ) → j.reading files ≡ Err (status.ReadFault word) → ⊥) → (rose → ⊥) →
      (Rose old.count new.count → ⊥) → (is_fault s ≡ false) ⊎ (s ≡ status.OutOfMemory)
  -- and where the files give something, it is a status of the job by that, or memory ran out
  pub given : (files : FileMap) → told ≡ Some files → IsOk (j.reading files) → (rose → ⊥) →
      (Rose old.count new.count → ⊥) → j.Own s ⊎ (s ≡ status.OutOfMemory)
  -- it is one of the job's statuses
  pub kind : IsEndOf j s
