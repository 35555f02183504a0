-- Records that are taken while the first entries are held apart.
-- for: read_trace, read_within_room
use Rattle.std.specs.Prelude.{◌≡◌, refl, ℕ, Bool, true, false, Option, Some, None, Result, Ok, Err, List, [], ◌∷◌, ◌++◌, length}
use Rattle.std.specs.Borrow.{Bor}
use Rattle.std.specs.List.{AllByRecursion}
use Rattle.std.proofs.Common.{◌∙◌, sym, ap, subst, append_assoc, inl, inr}
use Rattle.std.proofs.lemmas.Bool.{cases_Bool}
use Rattle.csv.specs.declared.reader.Reader.{Reader}
use Rattle.line_text.specs.Reading.{Takes, at_line}
use Rattle.line_text.specs.declared.reader.LineFault.{LineFault}
use Rattle.line_text.specs.declared.reader.LineFault.TheVariants as line
use Rattle.trace_columns.specs.Records.{records_of}
use Rattle.line_text.proofs.Results.{ok_is}
use Rattle.machine_words.specs.Rules.{refused_by, told_as}
use Rattle.motion_history.specs.Setup.{IsSetup}
use Rattle.motion_history.specs.declared.refused.TextFault.{TextFault}
use Rattle.motion_history.specs.declared.refused.TextFault.TheVariants as fault
use Rattle.trace_text.specs.Held.{IsHeldOf, ReadsHeld}
use Rattle.trace_text.specs.TraceKept.{IsEntryRead, IsTraceKept}
use Rattle.trace_text.specs.TraceState.{TraceState}
use Rattle.trace_text.specs.reading.Holding.{BeginsWith, IsHeldSoFar, StandsAt, TakesApart}
use Rattle.trace_text.specs.reading.Reading.{ReadsBy, ending, is_ended, letter, meaning, opening, reading_of, records_meaning, trace_of}
use Rattle.trace_text.specs.reading.RuleNumbers.{too_short}
use Rattle.trace_text.specs.reading.SoFar.{SoFar}
use Rattle.trace_text.specs.declared.found.FoundEntry.{FoundEntry}
use Rattle.trace_text.proofs.read.Alike.{Alike, meaning-alike, with_found}
use Rattle.trace_text.proofs.read.ReadingKept.{trace-kept}
use Rattle.trace_text.proofs.read.RecordLoop.{IsUnderWay}

-- ---- one record

alike-ok : (es : List FoundEntry) (r : Result SoFar ℕ) (s : SoFar) → Alike es (Ok s) r → (t : SoFar) × (r ≡ Ok t) × BeginsWith es t s
alike-ok es (Ok t) s h = (t, refl, h)
alike-ok es (Err rule) s h = absurd h

alike-err : (es : List FoundEntry) (r : Result SoFar ℕ) (rule : ℕ) → Alike es (Err rule) r → r ≡ Err rule
alike-err es (Ok t) rule h = absurd h
alike-err es (Err other) rule h = ap Err h

first-of : (es more : List FoundEntry) (t s : SoFar) → BeginsWith (es ++ more) t s → BeginsWith es t s
first-of es more t s h = record { more = more ++ h.more; is = h.is ∙ ap (with_found s) (append_assoc es more h.more) }

-- a record leads the trace on as it leads the reader on
pub taken-apart : (whole now new : SoFar) (first : Option (List FoundEntry)) (fields : List (List ℕ)) (answer : Result (Unit {0}) LineFault) →
    StandsAt whole now first → Takes (meaning now fields) new answer → TakesApart (meaning whole fields) new first answer
taken-apart whole now new None fields (Ok u) at t = (new, ap (λ s. meaning s fields) at ∙ t, refl)
taken-apart whole now new None fields (Err (line.Rule rule)) at t = ap (λ s. meaning s fields) at ∙ t
taken-apart whole now new None fields (Err line.OutOfMemory) at t = tt
taken-apart whole now new (Some es) fields (Ok u) at t =
    let both : Alike (es ++ at.more) (Ok new) (meaning (with_found now (es ++ at.more)) fields) =
    subst (λ r. Alike (es ++ at.more) r (meaning (with_found now (es ++ at.more)) fields)) t (meaning-alike (es ++ at.more) now fields) in
    let x = alike-ok (es ++ at.more) (meaning (with_found now (es ++ at.more)) fields) new both in
    (x.0, ap (λ s. meaning s fields) at.is ∙ x.1, first-of es at.more x.0 new x.2)
taken-apart whole now new (Some es) fields (Err (line.Rule rule)) at t =
    let both : Alike (es ++ at.more) (Err rule) (meaning (with_found now (es ++ at.more)) fields) =
    subst (λ r. Alike (es ++ at.more) r (meaning (with_found now (es ++ at.more)) fields)) t (meaning-alike (es ++ at.more) now fields) in
    ap (λ s. meaning s fields) at.is ∙ alike-err (es ++ at.more) (meaning (with_found now (es ++ at.more)) fields) rule both
taken-apart whole now new (Some es) fields (Err line.OutOfMemory) at t = tt

-- and so where more entries are then set apart
pub then-apart : (reading : Result SoFar ℕ) (now new : SoFar) (first later : Option (List FoundEntry)) (answer : Result (Unit {0}) LineFault) →
    TakesApart reading now first answer → ((whole : SoFar) → StandsAt whole now first → StandsAt whole new later) → TakesApart reading new later answer
then-apart reading now new first later (Ok u) t stays = (t.0, t.1, stays t.0 t.2)
then-apart reading now new first later (Err (line.Rule rule)) t stays = t
then-apart reading now new first later (Err line.OutOfMemory) t stays = tt

-- so it is with more of them
pub record GoesOn (records : List (List (List ℕ))) (opening now : SoFar) (first : Option (List FoundEntry)) (place : ℕ) (rdr : Reader (Bor (List ℕ))) : Type 0 where
  pub whole : SoFar
  pub stands : StandsAt whole now first
  pub under : IsUnderWay records opening whole place rdr

-- ---- the end

-- the entries that were read are among those of the whole
first-read : {X : Type 0} (P : X → Type 0) (xs more : List X) → AllByRecursion P (xs ++ more) → AllByRecursion P xs
first-read P [] more all = tt
first-read P (x ∷ xs) more all = (all.0, first-read P xs more all.1)

-- a trace that is held
abbrev held_end : SoFar → TraceState
held_end s = record { version = s.version; command = s.command; config = s.setup; found = s.found; drives = s.drives }

ending-is : (s : SoFar) → is_ended s ≡ true → ending s ≡ Ok (held_end s)
unfolding ending
ending-is s is = rw is refl

ending-not : (s : SoFar) → is_ended s ≡ false → ending s ≡ Err too_short
unfolding ending
ending-not s is = rw is refl

-- the reader has what the whole is
whole-is : (within_room : Bool) (whole now : SoFar) (records : List (List (List ℕ))) (h : IsHeldSoFar within_room whole now) → records_meaning 0 opening records ≡ Ok whole →
    records_meaning 0 opening records ≡ Ok (with_found now (now.found ++ h.more))
whole-is within_room whole now records h e = e ∙ ap Ok h.is

-- what a reader holds keeps what every trace does
pub held-kept : (within_room : Bool) (whole now : SoFar) (records : List (List (List ℕ))) (t : TraceState) → IsHeldSoFar within_room whole now → records_meaning 0 opening records ≡ Ok whole → ending now ≡ Ok t → IsSetup t.config → IsTraceKept t
held-kept within_room whole now records t h e end setup = elim (cases_Bool (is_ended now)) [
  | inl ended ↦
      let is : held_end now ≡ t = ok_is (ending now) (held_end now) t (ending-is now ended) end in
      let all : SoFar = with_found now (now.found ++ h.more) in
      let k = trace-kept all records (held_end all) (whole-is within_room whole now records h e) (ending-is all ended) (subst (λ (x : TraceState). IsSetup x.config) (sym is) setup) in
      subst IsTraceKept is (record {
        machine = k.machine;
        entries = first-read (IsEntryRead now.version now.setup) now.found h.more k.entries;
        as_many = k.as_many;
        drives = k.drives;
      })
  | inr fails ↦ let bad : Err too_short ≡ Ok t = sym (ending-not now fails) ∙ end in absurd (cc bad)
]

-- the reading of a text is the end where its records lead
pub reading-is : (text : List ℕ) (s : SoFar) (last : ℕ) → records_meaning 0 opening (records_of text) ≡ Ok s → last ≡ length (records_of text) → trace_of text ≡ refused_by letter (at_line last (ending s))
unfolding trace_of reading_of
reading-is text s last e is = rw (e, is) refl

-- what a reader holds of a trace is read so
pub held-reads : (text : List ℕ) (within_room : Bool) (whole now : SoFar) (last : ℕ) (answer : Result TraceState TextFault) → IsHeldSoFar within_room whole now → records_meaning 0 opening (records_of text) ≡ Ok whole → last ≡ length (records_of text) →
    ReadsBy (refused_by letter (at_line last (ending now))) answer → ReadsHeld (trace_of text) answer
held-reads text within_room whole now last (Ok trace) h e is reads = elim (cases_Bool (is_ended now)) [
  | inl ended ↦
      let all : SoFar = with_found now (now.found ++ h.more) in
      let read = reading-is text all last (whole-is within_room whole now (records_of text) h e) is in
      let here : Ok (held_end now) ≡ Ok trace = ap (λ r. refused_by letter (at_line last r)) (sym (ending-is now ended)) ∙ reads in
      let same : held_end now ≡ trace = cc here in (
        held_end all,
        read ∙ ap (λ r. refused_by letter (at_line last r)) (ending-is all ended),
        subst (IsHeldOf (held_end all)) same (record { more = h.more; is = refl; spent = h.spent }),
      )
  | inr fails ↦ let bad : Err (told_as letter (record { line = last; rule = too_short })) ≡ Ok trace = ap (λ r. refused_by letter (at_line last r)) (sym (ending-not now fails)) ∙ reads in absurd (cc bad)
]
held-reads text within_room whole now last (Err (fault.Refused r)) h e is reads = elim (cases_Bool (is_ended now)) [
  | inl ended ↦ let bad : Ok (held_end now) ≡ Err r = ap (λ x. refused_by letter (at_line last x)) (sym (ending-is now ended)) ∙ reads in absurd (cc bad)
  | inr fails ↦
      let all : SoFar = with_found now (now.found ++ h.more) in
      let read = reading-is text all last (whole-is within_room whole now (records_of text) h e) is in
      read ∙ ap (λ x. refused_by letter (at_line last x)) (ending-not all fails) ∙ ap (λ x. refused_by letter (at_line last x)) (sym (ending-not now fails)) ∙ reads
]
held-reads text within_room whole now last (Err fault.OutOfMemory) h e is reads = tt
