-- What a file that was read, or wasn't, says of the status of a job.
-- for: crates above
use Rattle.std.specs.Prelude.{◌≡◌, ◌⊎◌, ◌≤◌, ◌<◌, ℕ, nat_lt, if◌then◌else◌, true, false, Bool, Option, Some, None, IfSome, IsSomeAnd, Result, Ok, Err, List, length}
use Rattle.std.proofs.Common.{◌∙◌, inl, inr, ap, arith, refl}
use Rattle.std.proofs.lemmas.Bool.{cases_Bool, ltb-false, ltb-true}
use Rattle.line_text.specs.Reading.{◌>>=◌}
use Rattle.motion_history.specs.declared.refused.TextRefused.{TextRefused}
use Rattle.outside.specs.Told.{FileMap, IsLonger, LacksFile}
use Rattle.trace_text.specs.writing.Writes.{Output}
use Rattle.job_ends.proofs.Endings.{EndsReported, IsReportOf}
use Rattle.job_ends.specs.Ends.{EndsEarly}
use Rattle.job_ends.specs.Files.{GivesReading, IsText, NoReading, NoText}
use Rattle.job_ends.specs.Plans.{refused_plan, too_long_plan, unread_plan}
use Rattle.job_ends.specs.Readings.{file_in, reading_in, text_in}
use Rattle.job_ends.specs.declared.status.Status.{Status}
use Rattle.job_ends.specs.declared.status.Status.TheVariants as status

-- ---- the text of a file

pub short-text : (most : ℕ) (text : List ℕ) → length text ≤ most → nat_lt most (length text) ≡ false
short-text most text within = elim (cases_Bool (nat_lt most (length text))) [
  | inl long ↦
      let beyond : most < length text = ltb-true most (length text) long in
      absurd (omega (arith, within, beyond))
  | inr short ↦ short
]

pub long-text : (most : ℕ) (text : List ℕ) → most < length text → nat_lt most (length text) ≡ true
long-text most text beyond = elim (cases_Bool (nat_lt most (length text))) [
  | inl long ↦ long
  | inr short ↦
      let within : length text ≤ most = ltb-false most (length text) short in
      absurd (omega (arith, within, beyond))
]

text-given : (files : FileMap) (most word : ℕ) (name text : List ℕ) →
    IsText (Some files) name most text → text_in most word (files name) ≡ Ok text
text-given files most word name text is =
    ap (text_in most word) is.file
    ∙ ap (λ (b : Bool). if b then Err (status.TooLong word) else Ok text)
    (short-text most text is.within)

text-longer : (most word : ℕ) (o : Option (List ℕ)) → IsSomeAnd o (λ text. most < length text) →
    text_in most word o ≡ Err (status.TooLong word)
text-longer most word None long = absurd long
text-longer most word (Some text) long =
    ap (λ (b : Bool). if b then Err (status.TooLong word) else Ok text) (long-text most text long)

-- ---- a file that gives something

pub text-there : (told : Option FileMap) (most word : ℕ) (name text : List ℕ) →
    IsText told name most text → IfSome told (λ files. text_in most word (files name) ≡ Ok text)
text-there None most word name text is = tt
text-there (Some files) most word name text is = text-given files most word name text is

pub given : {A : Type 0} (told : Option FileMap) (most word : ℕ) (name : List ℕ)
    (read : List ℕ → Result A TextRefused) (Means : List ℕ → A → Type 0) (x : A) →
    GivesReading told name most read Means x →
    IfSome told (λ files. file_in most word read (files name) ≡ Ok x)
given None most word name read Means x g = tt
given (Some files) most word name read Means x g =
    ap (λ t. t >>= λ y. reading_in word (read y)) (text-given files most word name g.text g.is_text)
    ∙ ap (reading_in word) g.read

-- ---- a file that gives nothing

-- where known files lead to a report, so does another reading of them
abbrev pub LeadsOn : {A B : Type 0} → Option FileMap → (FileMap → Result A Status) →
    (FileMap → Result B Status) → Type 0
LeadsOn told f g = (files : FileMap) → told ≡ Some files → (x : Status) → f files ≡ Err x →
    g files ≡ Err x

lacked : {A : Type 0} (told : Option FileMap) (rose : Type 0) (most word : ℕ) (name : List ℕ)
    (reading : FileMap → Result A Status) →
    LeadsOn told (λ files. text_in most word (files name)) reading → rose ⊎ LacksFile told name →
    IsReportOf told rose reading (status.ReadFault word)
lacked told rose most word name reading on (inl h) = inl h
lacked None rose most word name reading on (inr h) = absurd h
lacked (Some files) rose most word name reading on (inr h) =
    inr (on files refl (status.ReadFault word) (ap (text_in most word) h))

longer : {A : Type 0} (told : Option FileMap) (most word : ℕ) (name : List ℕ)
    (reading : FileMap → Result A Status) →
    LeadsOn told (λ files. text_in most word (files name)) reading → IsLonger told name most →
    IfSome told (λ files. reading files ≡ Err (status.TooLong word))
longer None most word name reading on h = tt
longer (Some files) most word name reading on h =
    on files refl (status.TooLong word) (text-longer most word (files name) h)

refused : {A B : Type 0} (told : Option FileMap) (most word : ℕ) (name text : List ℕ)
    (read : List ℕ → Result A TextRefused) (reading : FileMap → Result B Status) (r : TextRefused) →
    LeadsOn told (λ files. file_in most word read (files name)) reading →
    IsText told name most text → read text ≡ Err r →
    IfSome told (λ files. reading files ≡ Err (status.TextRefused word r.place r.rule))
refused None most word name text read reading r on is e = tt
refused (Some files) most word name text read reading r on is e =
    on files refl (status.TextRefused word r.place r.rule)
    (ap (λ t. t >>= λ x. reading_in word (read x)) (text-given files most word name text is)
    ∙ ap (reading_in word) e)

-- a file without a text was reported by a plan, or memory ran out
pub no-text : {A : Type 0} (told : Option FileMap) (rose : Type 0) (many most word : ℕ)
    (name : List ℕ) (reading : FileMap → Result A Status) (old new : Output) (s : Status) →
    0 < word → word ≤ many → LeadsOn told (λ files. text_in most word (files name)) reading →
    NoText told rose word name most old new s →
    EndsEarly old new s ⊎ EndsReported told rose many reading old new s
no-text told rose many most word name reading old new s some within on (inl h) = inr (record {
  plan = unread_plan word name;
  ends = h.1;
  about = record { some = some; within = within };
  report = lacked told rose most word name reading on h.0;
})
no-text told rose many most word name reading old new s some within on (inr (inl h)) =
    inr (record {
      plan = too_long_plan word name;
      ends = h.1;
      about = record { some = some; within = within };
      report = longer told most word name reading on h.0;
    })
no-text told rose many most word name reading old new s some within on (inr (inr h)) = inl h

-- and so was one without a reading
pub no-reading : {A B : Type 0} (told : Option FileMap) (rose : Type 0) (many most word : ℕ)
    (name : List ℕ) (read : List ℕ → Result A TextRefused) (reading : FileMap → Result B Status)
    (old new : Output) (s : Status) → 0 < word → word ≤ many →
    LeadsOn told (λ files. file_in most word read (files name)) reading →
    NoReading told rose word name most read old new s →
    EndsEarly old new s ⊎ EndsReported told rose many reading old new s
no-reading told rose many most word name read reading old new s some within on (inl h) =
    no-text told rose many most word name reading old new s some within
    (λ files is x e. on files is x (ap (λ t. t >>= λ text. reading_in word (read text)) e)) h
no-reading told rose many most word name read reading old new s some within on (inr h) =
    inr (record {
      plan = refused_plan word name h.refused;
      ends = h.ends;
      about = record { some = some; within = within };
      report = refused told most word name h.text read reading h.refused on h.is_text h.read;
    })
