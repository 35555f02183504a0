-- Each text that is a trace segment begins as trace segments do.
-- for: trace_segments_and_traces_begin_apart
use Rattle.std.specs.Prelude.{◌≡◌, refl, ℕ, ◌+◌, ◌&&◌, if◌then◌else◌, Bool, true, false, Option, Some, None, option_and_then, Result, Ok, Err, List, [], ◌∷◌, ◌++◌, codes, drop, nat_le, take}
use Rattle.std.specs.List.{count_by, join_with_byte, slice_split}
use Rattle.std.specs.Option.{ok_or}
use Rattle.std.specs.Result.{is_ok}
use Rattle.std.proofs.Common.{◌∙◌, ap, append_assoc, subst, sym}
use Rattle.std.proofs.lemmas.Bool.Decides.{Decides-eqb}
use Rattle.std.proofs.lemmas.List.{take-append-drop}
use Rattle.std.proofs.lemmas.List.Splits.{join_with_byte-slice_split}
use Rattle.std.proofs.lemmas.Slice.Eq.{bytes_eq-Decides, starts_is}
use Rattle.line_text.specs.Lines.{is_end, lines_of, without_empty_end}
use Rattle.line_text.specs.Reading.{◌>>=◌, at_line}
use Rattle.line_text.specs.Texts.{says}
use Rattle.line_text.specs.declared.reader.LineRefused.{LineRefused}
use Rattle.machine_words.specs.Rules.{refused_by}
use Rattle.motion_history.specs.Setup.{Setup}
use Rattle.motion_history.specs.declared.refused.TextRefused.{TextRefused}
use Rattle.motion_kernel.specs.Machine.{Machine}
use Rattle.motion_kernel.specs.declared.segment.Before.{Before}
use Rattle.segment_text.specs.declared.trace_segment.TraceSegment.{TraceSegment}
use Rattle.segment_text.specs.reading.Befores.{before_of, counts_of}
use Rattle.segment_text.specs.reading.Lines.{fields_in, is_comma}
use Rattle.segment_text.specs.reading.Reading.{before_meaning, blank_line_from, halves_of, segment_header_meaning, header_of, letter, parts_of, trace_segment_of}
use Rattle.segment_text.specs.reading.RuleNumbers.{no_blank_line, no_trace_segment}
use Rattle.trace_text.specs.TraceState.{TraceState}
use Rattle.trace_text.specs.reading.Reading.{trace_of}
use Rattle.segment_job.specs.Apart.{TraceSegmentsBeginSo}
use Rattle.segment_job.specs.Begins.{begins_as_trace_segment}

-- a text begins with the kind of a trace segment and its comma
record HasBeginning (text : List ℕ) : Type 0 where
  pub behind : List ℕ
  pub is : text ≡ codes "segment," ++ behind

longer : (xs ys : List ℕ) → HasBeginning xs → HasBeginning (xs ++ ys)
longer xs ys h = record {
  behind = h.behind ++ ys;
  is = ap (λ t. t ++ ys) h.is ∙ append_assoc (codes "segment,") h.behind ys;
}

-- what comes of two steps comes of the first
first-ok : {A B E : Type 0} (r : Result A E) (f : A → Result B E) → is_ok (r >>= f) ≡ true →
    is_ok r ≡ true
first-ok (Ok x) f h = refl
first-ok (Err e) f h = h

-- ---- the first line of a header

said : (word text : List ℕ) → says word text ≡ true → word ≡ text
unfolding says
said word text h = (bytes_eq-Decides word text).0 h

by-test : (b : Bool) (all : List (List ℕ)) (word : List ℕ) (more : List (List ℕ)) →
    (if b then all else []) ≡ word ∷ more → all ≡ word ∷ more
by-test true all word more e = e
by-test false all word more e = absurd (cc)

-- a line that has fields is split at its commas
split-at-commas : (line word : List ℕ) (more : List (List ℕ)) → fields_in line ≡ word ∷ more →
    slice_split is_comma line ≡ word ∷ more
unfolding fields_in
split-at-commas line word more e =
    by-test (nat_le (count_by is_comma line) 63) (slice_split is_comma line) word more e

line-begins : (line word version : List ℕ) (more : List (List ℕ)) →
    fields_in line ≡ word ∷ version ∷ more → word ≡ codes "segment" → HasBeginning line
line-begins line word version more split is = record {
  behind = join_with_byte 44 (version ∷ more);
  is = sym (join_with_byte-slice_split 44 line) ∙ ap (join_with_byte 44) (split-at-commas line word (version ∷ more) split)
      ∙ ap (λ w. w ++ 44 ∷ join_with_byte 44 (version ∷ more)) is;
}

first-holds : (x y : Bool) (o : Option Before) →
    is_ok (at_line 1 (ok_or (if x && y then o else None) no_trace_segment)) ≡ true → x ≡ true
first-holds true y o h = refl
first-holds false y o h = h

fields-begin : (line : List ℕ) (fields : List (List ℕ)) → fields_in line ≡ fields →
    is_ok (at_line 1 (ok_or (before_of fields) no_trace_segment)) ≡ true → HasBeginning line
unfolding before_of
fields-begin line [] is h = absurd (let bad : false ≡ true = h in cc)
fields-begin line (a ∷ []) is h = absurd (let bad : false ≡ true = h in cc)
fields-begin line (a ∷ b ∷ []) is h = absurd (let bad : false ≡ true = h in cc)
fields-begin line (a ∷ b ∷ c ∷ []) is h = absurd (let bad : false ≡ true = h in cc)
fields-begin line (a ∷ b ∷ c ∷ d ∷ []) is h = absurd (let bad : false ≡ true = h in cc)
fields-begin line (a ∷ b ∷ c ∷ d ∷ e ∷ []) is h =
    line-begins line a b (c ∷ d ∷ e ∷ []) is (said a (codes "segment")
    (first-holds (says a (codes "segment")) (says b (codes "1")) (counts_of c d e) h))
fields-begin line (a ∷ b ∷ c ∷ d ∷ e ∷ f ∷ more) is h =
    absurd (let bad : false ≡ true = h in cc)

before-begins : (line : List ℕ) → is_ok (before_meaning line) ≡ true → HasBeginning line
unfolding before_meaning
before-begins line h = fields-begin line (fields_in line) refl h

-- ---- the header

-- the first of some lines begins so
abbrev FirstBegins : List (List ℕ) → Type 0
FirstBegins [] = ⊥
FirstBegins (first ∷ more) = HasBeginning first

lines-begin : (s : Setup) (lines : List (List ℕ)) → is_ok (segment_header_meaning s lines) ≡ true →
    FirstBegins lines
unfolding segment_header_meaning
lines-begin s [] h = absurd (let bad : false ≡ true = h in cc)
lines-begin s (first ∷ more) h = before-begins first (first-ok (before_meaning first) _ h)

kept-first : (b : Bool) (part : List ℕ) → FirstBegins (if b then [] else part ∷ []) →
    HasBeginning part
kept-first true part h = absurd h
kept-first false part h = h

parts-begin : (parts : List (List ℕ)) → FirstBegins (without_empty_end parts) → FirstBegins parts
parts-begin [] h = h
parts-begin (part ∷ []) h = kept-first _ part h
parts-begin (part ∷ next ∷ parts) h = h

joined-begin : (parts : List (List ℕ)) → FirstBegins parts → HasBeginning (join_with_byte 10 parts)
joined-begin [] h = absurd h
joined-begin (part ∷ []) h = h
joined-begin (part ∷ next ∷ parts) h = longer part (10 ∷ join_with_byte 10 (next ∷ parts)) h

unrefused : {A : Type 0} (r : Result A LineRefused) → is_ok (refused_by letter r) ≡ true →
    is_ok r ≡ true
unrefused (Ok x) h = refl
unrefused (Err e) h = h

header-begins : (s : Setup) (header : List ℕ) → is_ok (header_of s header) ≡ true → HasBeginning header
unfolding header_of lines_of
header-begins s header h =
    subst HasBeginning (join_with_byte-slice_split 10 header)
    (joined-begin (slice_split is_end header) (parts-begin (slice_split is_end header)
    (lines-begin s (lines_of header) (unrefused (segment_header_meaning s (lines_of header)) h))))

-- ---- the text

-- the part before the blank line begins so
abbrev FrontBegins : Result (List ℕ × List ℕ) TextRefused → Type 0
FrontBegins (Ok h) = HasBeginning h.0
FrontBegins (Err r) = ⊥

-- a trace segment of its parts
abbrev trace_segment-by : TraceState → Before × Machine → TraceSegment
trace_segment-by t b = record { before = b.0; machine = b.1; trace = t }

behind-begins : (h : List ℕ × List ℕ) (r : Result TraceState TextRefused) →
    is_ok (r >>= λ t. header_of t.config h.0 >>= λ b. Ok (trace_segment-by t b)) ≡ true → HasBeginning h.0
behind-begins h (Ok t) e = header-begins t.config h.0 (first-ok (header_of t.config h.0) _ e)
behind-begins h (Err r) e = absurd (let bad : false ≡ true = e in cc)

front-begins : (r : Result (List ℕ × List ℕ) TextRefused) →
    is_ok (r >>= λ h. trace_of h.1 >>= λ t. header_of t.config h.0 >>= λ b. Ok (trace_segment-by t b)) ≡ true →
    FrontBegins r
front-begins (Ok h) e = behind-begins h (trace_of h.1) e
front-begins (Err r) e = absurd (let bad : false ≡ true = e in cc)

whole-begins : (text : List ℕ) (o : Option ℕ) → FrontBegins (refused_by letter (at_line 0
    (ok_or (option_and_then (λ end. Some (take end text, drop (end + 1) text)) o) no_blank_line))) →
    HasBeginning text
whole-begins text None h = absurd h
whole-begins text (Some end) h =
    subst HasBeginning (take-append-drop end text) (longer (take end text) (drop end text) h)

begins-as : (text : List ℕ) → HasBeginning text → begins_as_trace_segment text ≡ true
unfolding begins_as_trace_segment
begins-as text h = (starts_is Decides-eqb text (codes "segment,") _ refl).1 h.behind h.is

pub trace_segments-begin : TraceSegmentsBeginSo
unfolding trace_segment_of parts_of halves_of
trace_segments-begin text p is =
    begins-as text (whole-begins text (blank_line_from 0 text)
    (front-begins (parts_of text) (ap is_ok is)))
