-- What is found in a text is what it spells.
-- for: read_lines
use Rattle.std.proofs.Common.{◌≡◌, refl, ℕ, suc, ◌+◌, ◌≤◌, Bool, true, false, List, [], ◌∷◌, ◌++◌, length, sym, ◌∙◌, ap, subst, arith, inl, inr, lit≤}
use Rattle.std.specs.Prelude.{◌||◌, not}
use Rattle.std.specs.List.{before_first, filter, list_all, onto_first, position_or_len, slice_split}
use Rattle.std.proofs.lemmas.Bool.{and_parts, cases_Bool, eqb-true, ne_eqb, not-true, or_parts}
use Rattle.std.proofs.lemmas.List.Splits.{length-slice_split, slice_split-cons_no, slice_split-cons_yes}
use Rattle.line_text.specs.Lines.{is_end, lines_of, without_empty_end}
use Rattle.line_text.specs.Spelling.{AreSpelled, EndsWord, IsWord, SpellsLines, SpellsWords, blank, comment, is_plain, last_line, no_line, nothing, one_line, word}
use Rattle.line_text.specs.Words.{is_blank, is_comment, is_word, words_of}
use Rattle.line_text.proofs.LineLaws.{one_part, without_empty_end-cons}

-- ---- parts

-- items that all fail a test, and one after them that passes
pub split-at : (p : ℕ → Bool) (xs : List ℕ) (y : ℕ) (ys : List ℕ) → list_all (λ b. not (p b)) xs ≡ true → p y ≡ true →
    slice_split p (xs ++ y ∷ ys) ≡ xs ∷ slice_split p ys
split-at p [] y ys h here = slice_split-cons_yes p y ys here
split-at p (x ∷ xs) y ys h here =
    let parts = and_parts (not (p x)) (list_all (λ b. not (p b)) xs) h in
    slice_split-cons_no p x (xs ++ y ∷ ys) (not-true (p x) parts.0) ∙ ap (onto_first x) (split-at p xs y ys parts.1 here)

-- items that all fail a test
pub split-whole : (p : ℕ → Bool) (xs : List ℕ) → list_all (λ b. not (p b)) xs ≡ true → slice_split p xs ≡ xs ∷ []
split-whole p [] h = refl
split-whole p (x ∷ xs) h =
    let parts = and_parts (not (p x)) (list_all (λ b. not (p b)) xs) h in
    slice_split-cons_no p x xs (not-true (p x) parts.0) ∙ ap (onto_first x) (split-whole p xs parts.1)

-- ---- lines

lines-again : (text : List ℕ) (lines : List (List ℕ)) → SpellsLines text lines → lines_of text ≡ lines
unfolding lines_of
lines-again _ _ no_line = refl
lines-again _ _ (last_line line plain some) = rw (split-whole is_end line plain) (one_part line some)
lines-again _ _ (one_line line text lines plain more) =
    let again : without_empty_end (slice_split is_end text) ≡ lines = lines-again text lines more in
    rw (split-at is_end line 10 text plain refl) (without_empty_end-cons line (slice_split is_end text) (let n = length-slice_split is_end text in omega arith) ∙ ap (λ ls. line ∷ ls) again)

-- a text spells some lines
abbrev HasLines : List ℕ → Type 0
HasLines text = (lines : List (List ℕ)) × SpellsLines text lines

longer-line : (b : ℕ) (text : List ℕ) (lines : List (List ℕ)) → is_end b ≡ false → SpellsLines text lines → HasLines (b ∷ text)
longer-line b _ _ h no_line = ((b ∷ []) ∷ [], last_line (b ∷ []) (rw h refl) (lit≤ tt))
longer-line b _ _ h (last_line line plain some) = ((b ∷ line) ∷ [], last_line (b ∷ line) (rw (h, plain) refl) (omega arith))
longer-line b _ _ h (one_line line text lines plain more) = ((b ∷ line) ∷ lines, one_line (b ∷ line) text lines (rw (h, plain) refl) more)

spelled-lines : (text : List ℕ) → HasLines text
spelled-lines [] = ([], no_line)
spelled-lines (b ∷ text) =
    let more = spelled-lines text in
    elim (cases_Bool (is_end b)) [
      | inl ends ↦
          let lf : b ≡ 10 = eqb-true b 10 ends in
          let P : ℕ → Type 0 = λ c. HasLines (c ∷ text) in
          subst P (sym lf) ([] ∷ more.0, one_line [] text more.0 refl more.1)
      | inr other ↦ longer-line b text more.0 other more.1
    ]

-- ---- words

-- a byte before the first comment
pub before-no : (b : ℕ) (line : List ℕ) → is_comment b ≡ false → before_first is_comment (b ∷ line) ≡ b ∷ before_first is_comment line
before-no b line h =
    let n = position_or_len is_comment line in
    let e : 1 + n ≡ suc n = omega arith in
    rw (h, e) refl

pub before-here : (b : ℕ) (line : List ℕ) → is_comment b ≡ true → before_first is_comment (b ∷ line) ≡ []
before-here b line h = rw h refl

-- a blank begins no comment
pub blank-plain : (b : ℕ) → is_blank b ≡ true → is_comment b ≡ false
blank-plain b h =
    elim (cases_Bool (is_comment b)) [
      | inl here ↦
          let e : b ≡ 35 = eqb-true b 35 here in
          let bad : is_blank 35 ≡ true = subst (λ c. is_blank c ≡ true) e h in absurd (cc)
      | inr none ↦ none
    ]

words-blank : (b : ℕ) (line : List ℕ) → is_blank b ≡ true → words_of (b ∷ line) ≡ words_of line
unfolding words_of
words-blank b line h =
    ap (λ xs. filter is_word (slice_split is_blank xs)) (before-no b line (blank-plain b h))
    ∙ ap (filter is_word) (slice_split-cons_yes is_blank b (before_first is_comment line) h)

-- what stands before the comment of a word and more is the word and more
pub before-word : (w line : List ℕ) → list_all is_plain w ≡ true → before_first is_comment (w ++ line) ≡ w ++ before_first is_comment line
before-word [] line h = refl
before-word (b ∷ w) line h =
    let parts = and_parts (is_plain b) (list_all is_plain w) h in
    let none = (or_parts (is_blank b) (is_comment b) (not-true (is_blank b || is_comment b) parts.0)).1 in
    before-no b (w ++ line) none ∙ ap (λ xs. b ∷ xs) (before-word w line parts.1)

pub no-blanks : (w : List ℕ) → list_all is_plain w ≡ true → list_all (λ b. not (is_blank b)) w ≡ true
no-blanks [] h = refl
no-blanks (b ∷ w) h =
    let parts = and_parts (is_plain b) (list_all is_plain w) h in
    let none = (or_parts (is_blank b) (is_comment b) (not-true (is_blank b || is_comment b) parts.0)).0 in
    rw (none, no-blanks w parts.1) refl

kept-word : (w : List ℕ) (words : List (List ℕ)) → 1 ≤ length w → filter is_word (w ∷ words) ≡ w ∷ filter is_word words
kept-word [] words h = absurd (omega arith)
kept-word (b ∷ w) words h = rw (ne_eqb (suc (length w)) 0 (omega arith)) refl

pub append-nil : (w : List ℕ) → w ++ [] ≡ w
append-nil [] = refl
append-nil (b ∷ w) = ap (λ xs. b ∷ xs) (append-nil w)

-- a word that nothing follows before the comment
lone-word : (w rest : List ℕ) → IsWord w → before_first is_comment rest ≡ [] → words_of (w ++ rest) ≡ w ∷ []
unfolding words_of
lone-word w rest is none =
    let whole : before_first is_comment (w ++ rest) ≡ w = before-word w rest is.plain ∙ ap (λ xs. w ++ xs) none ∙ append-nil w in
    rw (whole, split-whole is_blank w (no-blanks w is.plain)) (kept-word w [] is.some)

words-none : (rest : List ℕ) → before_first is_comment rest ≡ [] → words_of rest ≡ []
unfolding words_of
words-none rest none = rw none refl

blank-here : (b : ℕ) → (is_blank b || is_comment b) ≡ true → is_comment b ≡ false → is_blank b ≡ true
blank-here b h none =
    elim (cases_Bool (is_blank b)) [
      | inl here ↦ here
      | inr other ↦ let bad : false ≡ true = rw (other, none) at h in absurd (cc)
    ]

-- a word before a blank
blank-behind : (w : List ℕ) (b : ℕ) (line : List ℕ) → IsWord w → is_blank b ≡ true → words_of (w ++ b ∷ line) ≡ w ∷ words_of line
unfolding words_of
blank-behind w b line is gap =
    let before : before_first is_comment (w ++ b ∷ line) ≡ w ++ b ∷ before_first is_comment line =
    before-word w (b ∷ line) is.plain ∙ ap (λ xs. w ++ xs) (before-no b line (blank-plain b gap)) in
    rw (before, split-at is_blank w b (before_first is_comment line) (no-blanks w is.plain) gap)
    (kept-word w (slice_split is_blank (before_first is_comment line)) is.some)

words-word : (w line : List ℕ) → IsWord w → EndsWord line → words_of (w ++ line) ≡ w ∷ words_of line
words-word w [] is ends = lone-word w [] is refl ∙ ap (λ ws. w ∷ ws) (sym (words-none [] refl))
words-word w (b ∷ line) is ends =
    elim (cases_Bool (is_comment b)) [
      | inl here ↦ lone-word w (b ∷ line) is (before-here b line here) ∙ ap (λ ws. w ∷ ws) (sym (words-none (b ∷ line) (before-here b line here)))
      | inr none ↦
          let gap : is_blank b ≡ true = blank-here b ends none in
          blank-behind w b line is gap ∙ ap (λ ws. w ∷ ws) (sym (words-blank b line gap))
    ]

words-again : (line : List ℕ) (words : List (List ℕ)) → SpellsWords line words → words_of line ≡ words
words-again _ _ nothing = words-none [] refl
words-again _ _ (comment b line here) = words-none (b ∷ line) (before-here b line here)
words-again _ _ (blank b line words here more) = words-blank b line here ∙ words-again line words more
words-again _ _ (word w line words is ends more) = words-word w line is ends ∙ ap (λ ws. w ∷ ws) (words-again line words more)

-- a line spells some words
abbrev HasWords : List ℕ → Type 0
HasWords line = (words : List (List ℕ)) × SpellsWords line words

one-byte : (b : ℕ) → is_plain b ≡ true → IsWord (b ∷ [])
one-byte b h = record { some = lit≤ tt; plain = rw h refl }

ends-comment : (b : ℕ) → is_comment b ≡ true → (is_blank b || is_comment b) ≡ true
ends-comment b h =
    elim (cases_Bool (is_blank b)) [
      | inl gap ↦ rw gap refl
      | inr none ↦ rw (none, h) refl
    ]

longer-word : (b : ℕ) (line : List ℕ) (words : List (List ℕ)) → is_plain b ≡ true → SpellsWords line words → HasWords (b ∷ line)
longer-word b _ _ h nothing = ((b ∷ []) ∷ [], word (b ∷ []) [] [] (one-byte b h) tt nothing)
longer-word b _ _ h (comment c line here) = ((b ∷ []) ∷ [], word (b ∷ []) (c ∷ line) [] (one-byte b h) (ends-comment c here) (comment c line here))
longer-word b _ _ h (blank c line words here more) = ((b ∷ []) ∷ words, word (b ∷ []) (c ∷ line) words (one-byte b h) (rw here refl) (blank c line words here more))
longer-word b _ _ h (word w line words is ends more) =
    ((b ∷ w) ∷ words, word (b ∷ w) line words (record { some = omega arith; plain = let p = is.plain in rw (h, p) refl }) ends more)

spelled-words : (line : List ℕ) → HasWords line
spelled-words [] = ([], nothing)
spelled-words (b ∷ line) =
    let more = spelled-words line in
    elim (cases_Bool (is_blank b)) [
      | inl here ↦ (more.0, blank b line more.0 here more.1)
      | inr other ↦ elim (cases_Bool (is_comment b)) [
        | inl here ↦ ([], comment b line here)
        | inr none ↦ longer-word b line more.0 (rw (other, none) refl) more.1
      ]
    ]

-- ---- both

pub are_spelled : AreSpelled
are_spelled = record {
  lines = λ text lines. (
    lines-again text lines,
    λ e. let s = spelled-lines text in subst (λ ls. SpellsLines text ls) (sym (lines-again text s.0 s.1) ∙ e) s.1,
  );
  words = λ line words. (
    words-again line words,
    λ e. let s = spelled-words line in subst (λ ws. SpellsWords line ws) (sym (words-again line s.0 s.1) ∙ e) s.1,
  );
}
