-- A text is its lines, a line its fields, and a text with a blank line what stands before and after
-- it.
-- for: headers_are_read_back
use Rattle.std.specs.Prelude.{◌≡◌, refl, ℕ, zero, suc, ◌+◌, ◌≤◌, ◌==◌, ◌&&◌, nat_le, cond, if◌then◌else◌, Bool, true, false, Option, Some, None, List, [], ◌∷◌, ◌++◌, drop, length, take}
use Rattle.std.specs.List.{count_by, flat_map, join_with_byte, onto_first, slice_split}
use Rattle.std.proofs.Common.{◌∙◌, ap, append_assoc, arith, inl, inr, sym}
use Rattle.std.proofs.lemmas.Bool.{and_parts, cases_Bool, eqb-true}
use Rattle.std.proofs.lemmas.List.{append-nil}
use Rattle.std.proofs.lemmas.List.Splits.{join_with_byte-slice_split, length-slice_split}
use Rattle.line_text.specs.Lines.{is_end, lines_of, without_empty_end}
use Rattle.segment_text.specs.Texts.{fields_text, line_of}
use Rattle.segment_text.specs.reading.Lines.{fields_in, is_comma}
use Rattle.segment_text.specs.reading.Reading.{blank_line_from, halves_of}
use Rattle.trace_text.proofs.read.ColumnRanges.{opt-both}

-- by a test
pub pick : {A P : Type 0} (b : Bool) (x y v : A) → (if b then x else y) ≡ v → (b ≡ true → x ≡ v → P) → (b ≡ false → y ≡ v → P) → P
pick true x y v h f g = f refl h
pick false x y v h f g = g refl h

-- ---- a line

joined-fields : (field : List ℕ) (fields : List (List ℕ)) → join_with_byte 44 (field ∷ fields) ++ 10 ∷ [] ≡ line_of (field ∷ fields)
unfolding line_of fields_text
joined-fields field [] = refl
joined-fields field (f ∷ fs) =
    append_assoc field (44 ∷ join_with_byte 44 (f ∷ fs)) (10 ∷ [])
    ∙ ap (λ t. field ++ 44 ∷ t) (joined-fields f fs ∙ sym (append_assoc f (fields_text fs) (10 ∷ [])))

split-joined : (line : List ℕ) (parts : List (List ℕ)) → slice_split is_comma line ≡ parts → (parts ≡ [] → ⊥) → line ++ 10 ∷ [] ≡ line_of parts
split-joined line [] e some = absurd (some refl)
split-joined line (field ∷ fields) e some =
    ap (λ t. t ++ 10 ∷ []) (sym (join_with_byte-slice_split 44 line) ∙ ap (join_with_byte 44) e) ∙ joined-fields field fields

-- a line that has fields is that of its fields
pub line-spelled : (line : List ℕ) → (fields_in line ≡ [] → ⊥) → line ++ 10 ∷ [] ≡ line_of (fields_in line)
unfolding fields_in
line-spelled line some =
    pick (nat_le (count_by is_comma line) 63) (slice_split is_comma line) [] (fields_in line) refl
    (λ _ e. split-joined line (fields_in line) e some)
    (λ _ e. absurd (some (sym e)))

-- ---- lines

-- a line and its end
abbrev pub ended : List ℕ → List ℕ
ended line = line ++ 10 ∷ []

one-part-more : (b : Bool) (x : ℕ) (parts : List (List ℕ)) → 1 ≤ length parts →
    cond b ([] ∷ (parts ++ [] ∷ [])) (onto_first x (parts ++ [] ∷ [])) ≡ cond b ([] ∷ parts) (onto_first x parts) ++ [] ∷ []
one-part-more true x parts l = refl
one-part-more false x [] l = absurd (omega arith)
one-part-more false x (p ∷ ps) l = refl

split-end : (xs : List ℕ) → slice_split is_end (xs ++ 10 ∷ []) ≡ slice_split is_end xs ++ [] ∷ []
split-end [] = refl
split-end (x ∷ xs) =
    ap (λ t. cond (is_end x) ([] ∷ t) (onto_first x t)) (split-end xs)
    ∙ one-part-more (is_end x) x (slice_split is_end xs) (let n = length-slice_split is_end xs in omega (arith, n))

end-dropped : (parts : List (List ℕ)) → without_empty_end (parts ++ [] ∷ []) ≡ parts
end-dropped [] = refl
end-dropped (p ∷ []) = refl
end-dropped (p ∷ q ∷ qs) = ap (λ t. p ∷ t) (end-dropped (q ∷ qs))

parts-joined : (parts : List (List ℕ)) → 1 ≤ length parts → flat_map ended parts ≡ join_with_byte 10 parts ++ 10 ∷ []
parts-joined [] l = absurd (omega arith)
parts-joined (p ∷ []) l = append-nil (p ++ 10 ∷ [])
parts-joined (p ∷ q ∷ qs) l =
    ap (λ t. (p ++ 10 ∷ []) ++ t) (parts-joined (q ∷ qs) (omega arith))
    ∙ append_assoc p (10 ∷ []) (join_with_byte 10 (q ∷ qs) ++ 10 ∷ [])
    ∙ sym (append_assoc p (10 ∷ join_with_byte 10 (q ∷ qs)) (10 ∷ []))

-- a text that ends with an LF is its lines, each with its end
pub lines-spelled : (xs : List ℕ) → flat_map ended (lines_of (xs ++ 10 ∷ [])) ≡ xs ++ 10 ∷ []
unfolding lines_of
lines-spelled xs =
    let parts : List (List ℕ) = slice_split is_end xs in
    let lines : without_empty_end (slice_split is_end (xs ++ 10 ∷ [])) ≡ parts = ap without_empty_end (split-end xs) ∙ end-dropped parts in
    ap (flat_map ended) lines ∙ parts-joined parts (let n = length-slice_split is_end xs in omega (arith, n))
    ∙ ap (λ t. t ++ 10 ∷ []) (join_with_byte-slice_split 10 xs)

-- ---- a blank line

record HasBlank (n end : ℕ) (text : List ℕ) : Type 0 where
  before : List ℕ
  behind : List ℕ
  is : text ≡ before ++ 10 ∷ 10 ∷ behind
  place : end ≡ n + suc (length before)

blank-found : (n : ℕ) (text : List ℕ) (end : ℕ) → blank_line_from n text ≡ Some end → HasBlank n end text
blank-found n [] end h = absurd (cc h)
blank-found n (a ∷ []) end h = absurd (cc h)
blank-found n (a ∷ b ∷ more) end h =
    pick ((a == 10) && (b == 10)) (Some (n + 1)) (blank_line_from (n + 1) (b ∷ more)) (Some end) h
    (λ both e.
    let tests = and_parts (a == 10) (b == 10) both in
    let one : a ≡ 10 = eqb-true a 10 tests.0 in
    let two : b ≡ 10 = eqb-true b 10 tests.1 in
    let there : n + 1 ≡ end = cc e in
    record { before = []; behind = more; is = rw (one, two) refl; place = omega (arith, there) })
    (λ _ e.
    let found = blank-found (n + 1) (b ∷ more) end e in
    let place = found.place in
    record { before = a ∷ found.before; behind = found.behind; is = ap (λ t. a ∷ t) found.is; place = omega (arith, place) })

take-ended : (xs ys : List ℕ) (k : ℕ) → k ≡ suc (length xs) → take k (xs ++ 10 ∷ ys) ≡ xs ++ 10 ∷ []
take-ended [] ys k e = rw e refl
take-ended (x ∷ xs) ys zero e = absurd (omega arith)
take-ended (x ∷ xs) ys (suc k) e = ap (λ t. x ∷ t) (take-ended xs ys k (omega arith))

drop-ended : (xs ys : List ℕ) (k : ℕ) → k ≡ suc (suc (length xs)) → drop k (xs ++ 10 ∷ 10 ∷ ys) ≡ ys
drop-ended [] ys k e = rw e refl
drop-ended (x ∷ xs) ys zero e = absurd (omega arith)
drop-ended (x ∷ xs) ys (suc k) e = drop-ended xs ys k (omega arith)

-- a text with a blank line: its header ends with an LF, then comes another, and then what stands
-- behind
pub record HasHalves (text header behind : List ℕ) : Type 0 where
  pub before : List ℕ
  pub header_is : header ≡ before ++ 10 ∷ []
  pub is : text ≡ header ++ 10 ∷ behind

pub halves-found : (text header behind : List ℕ) → halves_of text ≡ Some (header, behind) → HasHalves text header behind
unfolding halves_of
halves-found text header behind h =
    let at = opt-both (blank_line_from 0 text) _ (header, behind) h in
    let end : ℕ = at.0 in
    let found = blank-found 0 text end at.1 in
    let place = found.place in
    let pair : (take end text, drop (end + 1) text) ≡ (header, behind) = cc at.2 in
    let first : header ≡ found.before ++ 10 ∷ [] =
    sym (ap (λ (p : List ℕ × List ℕ). p.0) pair) ∙ ap (take end) found.is ∙ take-ended found.before (10 ∷ found.behind) end (omega (arith, place)) in
    let second : behind ≡ found.behind =
    sym (ap (λ (p : List ℕ × List ℕ). p.1) pair) ∙ ap (drop (end + 1)) found.is ∙ drop-ended found.before found.behind (end + 1) (omega (arith, place)) in
    record {
      before = found.before;
      header_is = first;
      is = found.is ∙ sym (append_assoc found.before (10 ∷ []) (10 ∷ found.behind))
          ∙ ap (λ t. t ++ 10 ∷ found.behind) (sym first) ∙ ap (λ t. header ++ 10 ∷ t) (sym second);
    }
