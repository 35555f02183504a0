-- No text that is a trace begins as trace segments do: its first record would have the kind of a
-- trace segment, and that is no header.
-- for: trace_segments_and_traces_begin_apart
use Rattle.std.specs.Prelude.{◌≡◌, refl, ℕ, zero, suc, ◌+◌, Bool, true, false, Option, Some, None, Result, Ok, Err, List, [], ◌∷◌, ◌++◌, codes, if◌then◌else◌, length}
use Rattle.std.specs.Result.{is_ok}
use Rattle.std.proofs.Common.{◌∙◌, ap, inl, inr, subst, sym}
use Rattle.std.proofs.lemmas.Bool.{cases_Bool}
use Rattle.std.proofs.lemmas.Bool.Decides.{Decides-eqb}
use Rattle.std.proofs.lemmas.Slice.Eq.{starts_is}
use Rattle.csv.specs.Machine.{Read, field_after, fields_after, is_end, next_record, step}
use Rattle.csv.specs.Reading.{default_config, records_from, records_next, strip_bom}
use Rattle.csv.specs.declared.parser.Action.{Action}
use Rattle.csv.specs.declared.parser.Action.TheVariants as act
use Rattle.csv.specs.declared.parser.Config.{Config}
use Rattle.csv.specs.declared.parser.State.{State}
use Rattle.csv.specs.declared.parser.State.TheVariants as st
use Rattle.trace_columns.specs.Records.{records_of}
use Rattle.line_text.specs.Reading.{◌>>=◌, at_line}
use Rattle.line_text.specs.Rules.{broken_unless}
use Rattle.line_text.specs.Texts.{says}
use Rattle.line_text.specs.declared.reader.LineRefused.{LineRefused}
use Rattle.machine_words.specs.Rules.{refused_by}
use Rattle.trace_text.specs.Records.{header_fields}
use Rattle.trace_text.specs.TraceState.{TraceState}
use Rattle.trace_text.specs.reading.Reading.{are_same, ending, header_meaning, letter, meaning, opening, reading_of, trace_of, twelve_meaning}
use Rattle.segment_job.specs.Apart.{TracesBeginOtherwise}
use Rattle.segment_job.specs.Begins.{begins_as_trace_segment}

-- ---- the first record of a text

-- fields begin with this one
abbrev Heads : List ℕ → List (List ℕ) → Type 0
Heads first [] = ⊥
Heads first (x ∷ xs) = x ≡ first

-- a record that was read begins with this field
abbrev ReadHeads : List ℕ → Option Read → Type 0
ReadHeads first None = Unit {0}
ReadHeads first (Some p) = Heads first p.0

-- one byte more
step-keeps : (cfg : Config) (first : List ℕ) (more : List (List ℕ)) (field : List ℕ) (c : ℕ)
    (rest : List ℕ) → ((s : State) (fields : List (List ℕ)) (at : List ℕ) →
    ReadHeads first (next_record cfg s (first ∷ fields) at rest)) → (t : State × Action) →
    ReadHeads first (if is_end t.1 then Some (fields_after t.1 (first ∷ more) field, t.0, rest)
    else next_record cfg t.0 (fields_after t.1 (first ∷ more) field) (field_after t.1 c field) rest)
step-keeps cfg first more field c rest keeps (s, act.Skip) = keeps s more field
step-keeps cfg first more field c rest keeps (s, act.Copy) = keeps s more (field ++ c ∷ [])
step-keeps cfg first more field c rest keeps (s, act.EndField) = keeps s (more ++ field ∷ []) []
step-keeps cfg first more field c rest keeps (s, act.EndRecord) = refl

end-keeps : (first : List ℕ) (more : List (List ℕ)) (field : List ℕ) (b : Bool) →
    ReadHeads first (if b then Some ((first ∷ more) ++ field ∷ [], st.StartRecord, []) else None)
end-keeps first more field true = refl
end-keeps first more field false = tt

-- the first field of a record stays
record-keeps : (cfg : Config) (first rest : List ℕ) (s : State) (more : List (List ℕ))
    (field : List ℕ) → ReadHeads first (next_record cfg s (first ∷ more) field rest)
unfolding next_record
record-keeps cfg first [] s more field = end-keeps first more field _
record-keeps cfg first (c ∷ rest) s more field =
    step-keeps cfg first more field c rest
    (λ t fields at. record-keeps cfg first rest t fields at) (step cfg s c)

first-read : (rest : List ℕ) → ReadHeads (codes "segment")
    (next_record default_config st.StartRecord [] [] (codes "segment," ++ rest))
unfolding next_record
first-read rest = record-keeps default_config (codes "segment") rest st.StartField [] []

-- ---- the records of a text

-- the first record, if there is one, begins with the kind of a trace segment
abbrev FirstHeads : List (List (List ℕ)) → Type 0
FirstHeads [] = Unit {0}
FirstHeads (first ∷ more) = Heads (codes "segment") first

next-headers : (more : State → List ℕ → List (List (List ℕ))) (o : Option Read) →
    ReadHeads (codes "segment") o → FirstHeads (records_next more o)
next-headers more None h = tt
next-headers more (Some p) h = h

from-headers : (n : ℕ) (text : List ℕ) →
    ReadHeads (codes "segment") (next_record default_config st.StartRecord [] [] text) →
    FirstHeads (records_from default_config n st.StartRecord text)
unfolding records_from
from-headers zero text h = tt
from-headers (suc n) text h = next-headers (records_from default_config n) _ h

text-headers : (rest : List ℕ) → FirstHeads (records_of (codes "segment," ++ rest))
unfolding records_of strip_bom
text-headers rest =
    from-headers (length (codes "segment," ++ rest) + 1) (codes "segment," ++ rest) (first-read rest)

-- ---- such records are no trace

bind-fails : {A B E : Type 0} (r : Result A E) (f : A → Result B E) → is_ok r ≡ false →
    is_ok (r >>= f) ≡ false
bind-fails (Ok x) f h = absurd (let bad : true ≡ false = h in cc)
bind-fails (Err e) f h = refl

then-fails : {A B E : Type 0} (r : Result A E) (f : A → Result B E) →
    ((x : A) → is_ok (f x) ≡ false) → is_ok (r >>= f) ≡ false
then-fails (Ok x) f h = h x
then-fails (Err e) f h = refl

line-fails : {A : Type 0} (n : ℕ) (r : Result A ℕ) → is_ok r ≡ false → is_ok (at_line n r) ≡ false
line-fails n (Ok x) h = h
line-fails n (Err e) h = refl

unless-fails : (b : Bool) (n : ℕ) → b ≡ false → is_ok (broken_unless b n) ≡ false
unless-fails true n h = h
unless-fails false n h = refl

no-header : (xs : List (List ℕ)) → are_same (codes "segment" ∷ xs) header_fields ≡ false
unfolding says
no-header xs = refl

header-fails : (fields : List (List ℕ)) → Heads (codes "segment") fields →
    is_ok (twelve_meaning opening fields) ≡ false
unfolding twelve_meaning header_meaning opening
header-fails [] h = absurd h
header-fails (x ∷ xs) h =
    bind-fails _ _ (unless-fails _ _
    (ap (λ y. are_same (y ∷ xs) header_fields) h ∙ no-header xs))

first-fails : (fields : List (List ℕ)) → Heads (codes "segment") fields →
    is_ok (meaning opening fields) ≡ false
unfolding meaning
first-fails fields h = then-fails _ _ (λ x. header-fails fields h)

rows-fail : (rows : List (List (List ℕ))) → FirstHeads rows → is_ok (reading_of rows) ≡ false
unfolding reading_of ending opening
rows-fail [] h = refl
rows-fail (first ∷ more) h =
    bind-fails _ _ (bind-fails _ _ (line-fails 1 (meaning opening first) (first-fails first h)))

refused-fails : {A : Type 0} (r : Result A LineRefused) → is_ok r ≡ false →
    is_ok (refused_by letter r) ≡ false
refused-fails (Ok x) h = h
refused-fails (Err e) h = refl

text-fails : (text rest : List ℕ) → text ≡ codes "segment," ++ rest → is_ok (trace_of text) ≡ false
unfolding trace_of
text-fails text rest is =
    refused-fails (reading_of (records_of text)) (rows-fail (records_of text)
    (subst (λ x. FirstHeads (records_of x)) (sym is) (text-headers rest)))

no-trace : (text : List ℕ) (t : TraceState) → trace_of text ≡ Ok t →
    begins_as_trace_segment text ≡ true → ⊥
unfolding begins_as_trace_segment
no-trace text t is h =
    let begins = (starts_is Decides-eqb text (codes "segment,") _ refl).0 h in
    let bad : true ≡ false = sym (ap is_ok is) ∙ text-fails text _ begins in cc

pub traces-begin : TracesBeginOtherwise
traces-begin text t is = elim (cases_Bool (begins_as_trace_segment text)) [
  | inl begins ↦ absurd (no-trace text t is begins)
  | inr other ↦ other
]
