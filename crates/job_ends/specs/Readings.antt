-- What the file of a word is read as, and the statuses that are about its text. This project's
-- profile.
use Rattle.std.specs.Prelude.{ℕ, nat_lt, if◌then◌else◌, Bool, true, false, Option, Some, None, Result, Ok, Err, List, length}
use Rattle.line_text.specs.Reading.{◌>>=◌}
use Rattle.motion_history.specs.declared.refused.TextRefused.{TextRefused}
use Rattle.job_ends.specs.declared.status.Status.{Status}
use Rattle.job_ends.specs.declared.status.Status.TheVariants as status

-- the text of a word's file, of at most this many bytes; or what is reported where it isn't there
-- or is too long
abbrev pub text_in : ℕ → ℕ → Option (List ℕ) → Result (List ℕ) Status
text_in most word None = Err (status.ReadFault word)
text_in most word (Some text) =
    if nat_lt most (length text) then Err (status.TooLong word) else Ok text

-- what the text of a word's file is read as, or where and by which rule it is refused
abbrev pub reading_in : {A : Type 0} → ℕ → Result A TextRefused → Result A Status
reading_in word (Ok x) = Ok x
reading_in word (Err r) = Err (status.TextRefused word r.place r.rule)

-- what the file of a word is read as, where it is there and is not too long
abbrev pub file_in : {A : Type 0} → ℕ → ℕ → (List ℕ → Result A TextRefused) → Option (List ℕ) →
    Result A Status
file_in most word read file = text_in most word file >>= λ text. reading_in word (read text)

-- what two files are read as, the second by the first; or what is reported of the first of them that
-- gives none
unfoldable pub both_by : {A B : Type 0} → Result A Status → (A → Result B Status) →
    Result (A × B) Status
both_by first second = do
  a ← first
  b ← second a
  Ok (a, b)

-- the statuses that are about a file's text
abbrev pub is_of_text : Status → Bool
is_of_text (status.TooLong word) = true
is_of_text (status.TextRefused word place rule) = true
is_of_text _ = false
