-- Lines: the fields of a record's line are those of which it was made, and a line is made of its
-- fields.
-- for: headers_are_read_back
use Rattle.std.specs.Prelude.{◌≡◌, refl, ℕ, ◌+◌, ◌≤◌, ◌==◌, false, List, [], ◌∷◌, ◌++◌, length, map}
use Rattle.std.specs.List.{AllByRecursion, count_by, onto_first, slice_split}
use Rattle.std.proofs.Common.{◌∙◌, ap, append_assoc, arith, sym}
use Rattle.std.proofs.lemmas.Bool.{le-leb, ne_eqb}
use Rattle.std.proofs.lemmas.List.{append-nil}
use Rattle.std.proofs.lemmas.List.Splits.{length-slice_split, slice_split-cons_no, slice_split-cons_yes}
use Rattle.line_text.specs.Lines.{is_end, lines_of}
use Rattle.line_text.proofs.LineLaws.{without_empty_end-cons}
use Rattle.segment_text.specs.TraceSegment.{lines_text}
use Rattle.segment_text.specs.Texts.{fields_text, line_of}
use Rattle.segment_text.specs.reading.Lines.{fields_in, is_comma}
use Rattle.segment_text.proofs.back.Plain.{ArePlain, IsPlain}

-- the line of a record, without its end
pub unended : List (List ℕ) → List ℕ
unended [] = []
unended (kind ∷ fields) = kind ++ fields_text fields

no-mark : (mark : ℕ) → mark ≤ 44 → (b : ℕ) → 45 ≤ b → (b == mark) ≡ false
no-mark mark l b h = ne_eqb b mark (λ e. omega (arith, e, l, h))

split-whole : (mark : ℕ) → mark ≤ 44 → (xs : List ℕ) → IsPlain xs → slice_split (λ b. b == mark) xs ≡ xs ∷ []
split-whole mark l [] h = refl
split-whole mark l (x ∷ xs) h = slice_split-cons_no _ x xs (no-mark mark l x h.0) ∙ ap (onto_first x) (split-whole mark l xs h.1)

split-comma : (xs ys : List ℕ) → IsPlain xs → slice_split is_comma (xs ++ 44 ∷ ys) ≡ xs ∷ slice_split is_comma ys
split-comma [] ys h = slice_split-cons_yes is_comma 44 ys refl
split-comma (x ∷ xs) ys h = slice_split-cons_no is_comma x (xs ++ 44 ∷ ys) (no-mark 44 (omega arith) x h.0) ∙ ap (onto_first x) (split-comma xs ys h.1)

-- the fields of the line of a record
fields-split : (kind : List ℕ) (fields : List (List ℕ)) → IsPlain kind → ArePlain fields → slice_split is_comma (kind ++ fields_text fields) ≡ kind ∷ fields
unfolding fields_text
fields-split kind [] k h = ap (slice_split is_comma) (append-nil kind) ∙ split-whole 44 (omega arith) kind k
fields-split kind (f ∷ fs) k h = split-comma kind (f ++ fields_text fs) k ∙ ap (λ t. kind ∷ t) (fields-split f fs h.0 h.1)

pub fields-back : (kind : List ℕ) (fields : List (List ℕ)) → ArePlain (kind ∷ fields) → length (kind ∷ fields) ≤ 64 → fields_in (unended (kind ∷ fields)) ≡ kind ∷ fields
unfolding fields_in unended
fields-back kind fields h few =
    let split : slice_split is_comma (kind ++ fields_text fields) ≡ kind ∷ fields = fields-split kind fields h.0 h.1 in
    let count : count_by is_comma (kind ++ fields_text fields) + 1 ≡ length (kind ∷ fields) = sym (length-slice_split is_comma (kind ++ fields_text fields)) ∙ ap length split in
    let low : count_by is_comma (kind ++ fields_text fields) ≤ 63 = omega (arith, count, few) in
    rw (le-leb _ _ low) split

-- a line has no line feed
AreLow : List ℕ → Type 0
AreLow line = AllByRecursion (λ b. (b == 10) ≡ false) line

plain-low : (xs : List ℕ) → IsPlain xs → AreLow xs
unfolding AreLow
plain-low [] h = tt
plain-low (x ∷ xs) h = (no-mark 10 (omega arith) x h.0, plain-low xs h.1)

low-append : (xs ys : List ℕ) → AreLow xs → AreLow ys → AreLow (xs ++ ys)
unfolding AreLow
low-append [] ys p q = q
low-append (x ∷ xs) ys p q = (p.0, low-append xs ys p.1 q)

fields-low : (fields : List (List ℕ)) → ArePlain fields → AreLow (fields_text fields)
unfolding fields_text AreLow
fields-low [] h = tt
fields-low (f ∷ fs) h = (refl, low-append f (fields_text fs) (plain-low f h.0) (fields-low fs h.1))

unended-low : (r : List (List ℕ)) → ArePlain r → AreLow (unended r)
unfolding unended AreLow
unended-low [] h = tt
unended-low (kind ∷ fields) h = low-append kind (fields_text fields) (plain-low kind h.0) (fields-low fields h.1)

end-at : (xs ys : List ℕ) → AreLow xs → slice_split is_end (xs ++ 10 ∷ ys) ≡ xs ∷ slice_split is_end ys
unfolding AreLow
end-at [] ys h = slice_split-cons_yes is_end 10 ys refl
end-at (x ∷ xs) ys h = slice_split-cons_no is_end x (xs ++ 10 ∷ ys) h.0 ∙ ap (onto_first x) (end-at xs ys h.1)

line-ended : (r : List (List ℕ)) → line_of r ≡ unended r ++ 10 ∷ []
unfolding line_of unended
line-ended [] = refl
line-ended (kind ∷ fields) = sym (append_assoc kind (fields_text fields) (10 ∷ []))

-- the lines of records that are written one after the other
pub lines-back : (rs : List (List (List ℕ))) → AllByRecursion ArePlain rs → lines_of (lines_text rs) ≡ map unended rs
unfolding lines_text lines_of
lines-back [] h = refl
lines-back (r ∷ rs) h =
    let more : lines_of (lines_text rs) ≡ map unended rs = lines-back rs h.1 in
    let whole : line_of r ++ lines_text rs ≡ unended r ++ 10 ∷ lines_text rs =
    ap (λ t. t ++ lines_text rs) (line-ended r) ∙ append_assoc (unended r) (10 ∷ []) (lines_text rs) in
    rw (whole, end-at (unended r) (lines_text rs) (unended-low r h.0))
    (without_empty_end-cons (unended r) (slice_split is_end (lines_text rs)) (let n = length-slice_split is_end (lines_text rs) in omega (arith, n)) ∙ ap (λ t. unended r ∷ t) more)
