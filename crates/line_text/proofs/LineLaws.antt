-- The first line of a text, and those after it.
-- for: read_lines
use Rattle.std.proofs.Common.{◌≡◌, refl, ℕ, ◌+◌, ◌<◌, ◌≤◌, List, [], ◌∷◌, ◌++◌, Some, None, length, take, drop, ◌∙◌, ◌==◌, arith, true, false, Bool, inl, inr}
use Rattle.std.specs.Prelude.{nat_lt, suc}
use Rattle.std.proofs.Common.{eqb}
use Rattle.std.specs.List.{filter, position, position_or_len, slice_split}
use Rattle.std.proofs.lemmas.Bool.{cases_Bool, ltb-true, ltb-false, ne_eqb}
use Rattle.std.proofs.lemmas.List.Splits.{length-slice_split, slice_split_first}
use Rattle.line_text.specs.Lines.{is_end, lines_of, without_empty_end}
use Rattle.line_text.specs.Words.{is_word}

-- where the first one that passes stands
pub record IsFirstAt (p : ℕ → Bool) (xs : List ℕ) (i : ℕ) : Type 0 where
  pub is : position_or_len p xs ≡ i
  pub there : i < length xs

pub first_at : (p : ℕ → Bool) (xs : List ℕ) (i : ℕ) → position p xs ≡ Some i → IsFirstAt p xs i
first_at p xs i h =
    elim (cases_Bool (nat_lt (position_or_len p xs) (length xs))) [
      | inl yet ↦
          let is : position_or_len p xs ≡ i = let e : Some (position_or_len p xs) ≡ Some i = rw yet at h in cc in
          record { is = is; there = let l = ltb-true _ _ yet in omega (arith, l, is) }
      | inr none ↦ let e : None ≡ Some i = rw none at h in absurd (cc)
    ]

pub none_at : (p : ℕ → Bool) (xs : List ℕ) → position p xs ≡ None → length xs ≤ position_or_len p xs
none_at p xs h =
    elim (cases_Bool (nat_lt (position_or_len p xs) (length xs))) [
      | inl yet ↦ let e : Some (position_or_len p xs) ≡ None = rw yet at h in absurd (cc)
      | inr none ↦ ltb-false _ _ none
    ]

eqb_suc : (n : ℕ) → eqb (suc n) 0 ≡ false
eqb_suc n = ne_eqb (suc n) 0 (omega arith)

-- a part before others is kept
pub without_empty_end-cons : (part : List ℕ) (parts : List (List ℕ)) → 1 ≤ length parts → without_empty_end (part ∷ parts) ≡ part ∷ without_empty_end parts
without_empty_end-cons part [] h = absurd (omega arith)
without_empty_end-cons part (next ∷ parts) h = refl

-- an LF ends the first line, and the others stand after it
pub lines_of-first : (text : List ℕ) (i : ℕ) → position is_end text ≡ Some i → lines_of text ≡ take i text ∷ lines_of (drop (i + 1) text)
unfolding lines_of
lines_of-first text i h =
    let first = first_at is_end text i h in
    let split : slice_split is_end text ≡ take i text ∷ slice_split is_end (drop (i + 1) text) =
    rw (first.is) at (slice_split_first is_end text 0 (let a = first.is in let b = first.there in omega arith)) in
    rw split (without_empty_end-cons (take i text) (slice_split is_end (drop (i + 1) text)) (let n = length-slice_split is_end (drop (i + 1) text) in omega arith))

-- where nothing passes the parts are one
split_whole : (p : ℕ → Bool) (xs : List ℕ) → length xs ≤ position_or_len p xs → slice_split p xs ≡ xs ∷ []
split_whole p [] h = refl
split_whole p (x ∷ xs) h =
    elim (cases_Bool (p x)) [
      | inl passes ↦ let l : suc (length xs) ≤ 0 = rw passes at h in absurd (omega (arith, l))
      | inr fails ↦
          let l : suc (length xs) ≤ 1 + position_or_len p xs = rw fails at h in
          let more = split_whole p xs (omega arith) in
          rw (fails, more) refl
    ]

pub one_part : (text : List ℕ) → 1 ≤ length text → without_empty_end (text ∷ []) ≡ text ∷ []
one_part [] h = absurd (omega arith)
one_part (b ∷ bs) h = rw (eqb_suc (length bs)) refl

-- a text without LF is one line, where it has a byte
pub lines_of-whole : (text : List ℕ) → 1 ≤ length text → position is_end text ≡ None → lines_of text ≡ text ∷ lines_of []
unfolding lines_of
lines_of-whole text some none = rw (split_whole is_end text (none_at is_end text none)) (one_part text some)

pub lines_of-nil : lines_of [] ≡ []
unfolding lines_of
lines_of-nil = refl

-- a list without length is empty
pub is_nil : (bs : List ℕ) → true ≡ (length bs == 0) → bs ≡ []
is_nil [] h = refl
is_nil (b ∷ bs) h = let f : true ≡ false = h ∙ eqb_suc (length bs) in absurd (cc)

-- ---- words

-- a part before others
pub word-first : (part : List ℕ) (parts : List (List ℕ)) → filter is_word (part ∷ parts) ≡ filter is_word (part ∷ []) ++ filter is_word parts
word-first part parts =
    elim (cases_Bool (is_word part)) [
      | inl yet ↦ rw yet refl
      | inr none ↦ rw none refl
    ]
