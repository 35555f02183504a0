-- A header that is read is spelled as what was read of it, and so is a text.
-- for: headers_are_read_back
use Rattle.std.specs.Prelude.{◌≡◌, refl, ℕ, ◌+◌, ◌-◌, ◌<◌, ◌≤◌, ◌^◌, ◌==◌, ◌&&◌, true, Some, Result, Ok, Err, List, [], ◌∷◌, ◌++◌, codes, decimal, length, map}
use Rattle.std.specs.List.{flat_map}
use Rattle.std.specs.Option.{ok_or}
use Rattle.std.proofs.Common.{◌∙◌, ap, arith, subst, sym}
use Rattle.std.proofs.lemmas.Bool.{and_parts, eqb-true}
use Rattle.line_text.proofs.Results.{bind_ok, found, holds, line-ok}
use Rattle.line_text.specs.Lines.{lines_of}
use Rattle.line_text.specs.Reading.{at_line}
use Rattle.line_text.specs.Rules.{broken_unless}
use Rattle.line_text.specs.Texts.{says}
use Rattle.line_text.specs.declared.reader.LineRefused.{LineRefused}
use Rattle.machine_words.proofs.Given.{if_some}
use Rattle.machine_words.specs.Rules.{refused_by}
use Rattle.motion_history.specs.Setup.{IsSetup, Setup}
use Rattle.motion_history.specs.declared.refused.TextRefused.{TextRefused}
use Rattle.motion_kernel.specs.Machine.{Machine}
use Rattle.motion_kernel.specs.Segments.{IsEarly}
use Rattle.motion_kernel.specs.declared.segment.Before.{Before}
use Rattle.segment_text.specs.Held.{IsAxisOf, IsGroupOf, IsHeld, IsInstanceOf, IsMachineOf}
use Rattle.segment_text.specs.ReadBack.{IsTextOf}
use Rattle.segment_text.specs.Records.{trace_segment_fields}
use Rattle.segment_text.specs.Texts.{line_of}
use Rattle.segment_text.specs.TraceSegment.{header_text, lines_text, segment_text}
use Rattle.segment_text.specs.declared.trace_segment.TraceSegment.{TraceSegment}
use Rattle.segment_text.specs.reading.Befores.{before_of, counts_of}
use Rattle.segment_text.specs.reading.Columns.{count_of}
use Rattle.segment_text.specs.reading.Lines.{fields_in, is_whole, lines_meaning, unread}
use Rattle.segment_text.specs.reading.Reading.{before_meaning, halves_of, header_of, letter, machine_meaning, parts_of, segment_header_meaning, trace_segment_of}
use Rattle.segment_text.specs.reading.RuleNumbers.{no_blank_line, no_trace_segment, too_short}
use Rattle.segment_text.proofs.back.Columns.{unsigned-only}
use Rattle.segment_text.proofs.back.Lists.{first-all}
use Rattle.segment_text.proofs.back.Parts.{AreRead, IsPart, lines-next, none-read, nothing-read, read_records}
use Rattle.segment_text.proofs.back.Text.{ended, halves-found, line-spelled, lines-spelled}
use Rattle.segment_text.proofs.back.Whole.{header-lines, records}
use Rattle.trace_columns.proofs.NumberLaws.{same-bytes}
use Rattle.trace_text.proofs.read.ColumnRanges.{opt-both}
use Rattle.trace_text.specs.reading.Reading.{trace_of}

-- ---- the first line

record IsFirst (fields : List (List ℕ)) (b : Before) : Type 0 where
  spelled : trace_segment_fields b ≡ fields
  early : IsEarly b

below : (n : ℕ) → n ≤ 2 ^ 63 - 1 → n < 2 ^ 63
below n l = omega (arith, l)

first-spelled : (word version x y z : List ℕ) (b : Before) → word ≡ codes "segment" → version ≡ codes "1" →
    decimal b.segments ≡ x → decimal b.entries ≡ y → decimal b.cycles ≡ z → trace_segment_fields b ≡ word ∷ version ∷ x ∷ y ∷ z ∷ []
first-spelled word version x y z b p q u v w = λ i. (sym p) i ∷ (sym q) i ∷ u i ∷ v i ∷ w i ∷ []

first-only : (fields : List (List ℕ)) (b : Before) → before_of fields ≡ Some b → IsFirst fields b
unfolding before_of counts_of says
first-only (word ∷ version ∷ x ∷ y ∷ z ∷ []) b h =
    let t = if_some (says word (codes "segment") && says version (codes "1")) (counts_of x y z) b h in
    let words = and_parts (says word (codes "segment")) (says version (codes "1")) t.0 in
    let segments = opt-both (count_of x) _ b t.1 in
    let entries = opt-both (count_of y) _ b segments.2 in
    let cycles = opt-both (count_of z) _ b entries.2 in
    let same : record { segments = segments.0; entries = entries.0; cycles = cycles.0 } ≡ b = cc cycles.2 in
    let u = unsigned-only (2 ^ 63 - 1) x segments.0 segments.1 in
    let v = unsigned-only (2 ^ 63 - 1) y entries.0 entries.1 in
    let w = unsigned-only (2 ^ 63 - 1) z cycles.0 cycles.1 in
    subst (IsFirst (word ∷ version ∷ x ∷ y ∷ z ∷ [])) same (record {
      spelled = first-spelled word version x y z _ (same-bytes word (codes "segment") words.0) (same-bytes version (codes "1") words.1) u.spelled v.spelled w.spelled;
      early = record { segments = below segments.0 u.is; entries = below entries.0 v.is; cycles = below cycles.0 w.is };
    })
first-only _ b h = absurd (cc h)

some-first : (fields : List (List ℕ)) (b : Before) → before_of fields ≡ Some b → fields ≡ [] → ⊥
unfolding before_of
some-first [] b h e = cc h
some-first (x ∷ xs) b h e = cc e

-- ---- the lines

-- lines of a header are read
record IsReadFrom (s : Setup) (lines : List (List ℕ)) (b : Before) (m : Machine) : Type 0 where
  spelled : flat_map ended lines ≡ header_text b m
  is : IsHeld s b m

machine-held : (s : Setup) (m : Machine) → IsSetup s → IsPart s m → is_whole s m ≡ true → IsMachineOf s m
unfolding is_whole
machine-held s m setup part whole =
    let tests = and_parts ((length m.axes == length s.axes) && (length m.groups == length s.groups)) (length m.instances == length s.blocks) whole in
    let objects = and_parts (length m.axes == length s.axes) (length m.groups == length s.groups) tests.0 in
    let axes = eqb-true (length m.axes) (length s.axes) objects.0 in
    let groups = eqb-true (length m.groups) (length s.groups) objects.1 in
    let instances = eqb-true (length m.instances) (length s.blocks) tests.1 in
    record {
      sized = record { setup = setup; axes = axes; groups = groups; queues = part.lists; instances = instances };
      axes = first-all IsAxisOf s.axes m.axes part.axes axes;
      groups = first-all IsGroupOf s.groups m.groups part.groups groups;
      queues = part.queues;
      instances = first-all IsInstanceOf s.blocks m.instances part.instances instances;
    }

lines-only : (s : Setup) (lines : List (List ℕ)) (b : Before) (m : Machine) → IsSetup s → segment_header_meaning s lines ≡ Ok (b, m) → IsReadFrom s lines b m
unfolding segment_header_meaning before_meaning machine_meaning records lines_text
lines-only s [] b m setup h = absurd (cc h)
lines-only s (first ∷ more) b m setup h =
    let one = bind_ok (before_meaning first) _ (b, m) h in
    let two = bind_ok (machine_meaning s more) _ (b, m) one.2 in
    let read = bind_ok (lines_meaning s 1 (unread s) more) _ two.0 two.1 in
    let ends = bind_ok (at_line (length more + 1) (broken_unless (is_whole s read.0) too_short)) _ two.0 read.2 in
    let pair : (one.0, two.0) ≡ (b, m) = cc two.2 in
    let same-before : one.0 ≡ b = ap (λ (p : Before × Machine). p.0) pair in
    let there : read.0 ≡ two.0 = cc ends.2 in
    let same : read.0 ≡ m = there ∙ ap (λ (p : Before × Machine). p.1) pair in
    let whole = holds (is_whole s read.0) too_short ends.0 (line-ok (broken_unless (is_whole s read.0) too_short) (length more + 1) ends.0 ends.1) in
    let counts = found (before_of (fields_in first)) no_trace_segment one.0 (line-ok (ok_or (before_of (fields_in first)) no_trace_segment) 1 one.0 one.1) in
    let begins = first-only (fields_in first) one.0 counts in
    let lines = lines-next s 1 more (unread s) read.0 (nothing-read s) read.1 in
    let line = line-spelled first (some-first (fields_in first) one.0 counts) in
    let text : flat_map ended (first ∷ more) ≡ header_text one.0 read.0 =
    ap (λ t. t ++ flat_map ended more) (line ∙ ap line_of (sym begins.spelled))
    ∙ ap (λ t. line_of (trace_segment_fields one.0) ++ t)
    (lines.spelled ∙ ap lines_text (sym (lines.records ∙ ap (λ t. t ++ map fields_in more) (none-read s))))
    ∙ sym (header-lines one.0 read.0) in
    subst (λ n. IsReadFrom s (first ∷ more) b n) same
    (subst (λ c. IsReadFrom s (first ∷ more) c read.0) same-before
    (record { spelled = text; is = record { before = begins.early; machine = machine-held s read.0 setup lines.part whole } }))

-- ---- the text

refused-ok : {A : Type 0} (r : Result A LineRefused) (x : A) → refused_by letter r ≡ Ok x → r ≡ Ok x
refused-ok (Ok y) x h = let same : y ≡ x = cc h in ap Ok same
refused-ok (Err e) x h = absurd (cc h)

pub text-only : (text : List ℕ) (p : TraceSegment) → IsSetup p.trace.config → trace_segment_of text ≡ Ok p → IsTextOf text p
unfolding trace_segment_of parts_of header_of segment_text
text-only text p setup h =
    let halves = bind_ok (refused_by letter (at_line 0 (ok_or (halves_of text) no_blank_line))) _ p h in
    let header : List ℕ = halves.0.0 in
    let behind : List ℕ = halves.0.1 in
    let trace = bind_ok (trace_of behind) _ p halves.2 in
    let read = bind_ok (refused_by letter (segment_header_meaning trace.0.config (lines_of header))) _ p trace.2 in
    let same : record { before = read.0.0; machine = read.0.1; trace = trace.0 } ≡ p = cc read.2 in
    let parts = found (halves_of text) no_blank_line halves.0 (line-ok (ok_or (halves_of text) no_blank_line) 0 halves.0 (refused-ok (at_line 0 (ok_or (halves_of text) no_blank_line)) halves.0 halves.1)) in
    let is = halves-found text header behind parts in
    let of : IsSetup trace.0.config = subst (λ (q : TraceSegment). IsSetup q.trace.config) (sym same) setup in
    let lines = lines-only trace.0.config (lines_of header) read.0.0 read.0.1 of (refused-ok (segment_header_meaning trace.0.config (lines_of header)) read.0 read.1) in
    let header_is : header ≡ header_text read.0.0 read.0.1 =
    sym (ap (λ t. flat_map ended (lines_of t)) is.header_is ∙ lines-spelled is.before ∙ sym is.header_is) ∙ lines.spelled in
    subst (IsTextOf text) same (record {
      behind = behind;
      halves = subst (λ t. halves_of text ≡ Some (t, behind)) header_is parts;
      is = subst (λ t. text ≡ t ++ 10 ∷ behind) header_is is.is;
      trace = trace.1;
      held = lines.is;
    })
