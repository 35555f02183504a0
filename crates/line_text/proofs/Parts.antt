-- The parts of a line, as a pass over its bytes gives them.
-- for: read_lines
use Rattle.std.proofs.Common.{◌≡◌, ℕ, ◌+◌, ◌-◌, ◌<◌, ◌≤◌, Bool, true, List, [], ◌∷◌, ◌++◌, length, take, drop, get_or, refl, sym, ap, subst, ◌∙◌, arith, inl, inr}
use Rattle.std.specs.Prelude.{◌==◌, ◌&&◌}
use Rattle.std.specs.List.{before_first, filter, list_all, slice_split}
use Rattle.std.proofs.Math.Bool.{and-true}
use Rattle.std.proofs.lemmas.Bool.{cases_Bool, eqb-true}
use Rattle.std.proofs.lemmas.Grind.{common_steps}
use Rattle.std.proofs.lemmas.List.{append_assoc, drop-drop, take-append-drop}
use Rattle.std.proofs.lemmas.List.Folds.{list_all-append, list_all_more}
use Rattle.line_text.specs.Spelling.{is_plain}
use Rattle.line_text.specs.Words.{is_blank, is_clean, is_comment, is_line_byte, is_word, words_of}
use Rattle.line_text.proofs.LineLaws.{word-first}
use Rattle.line_text.proofs.SpellingLaws.{append-nil, before-here, before-no, before-word, blank-plain, no-blanks, split-at, split-whole}

-- the part of a line from one place to another
abbrev pub part : List ℕ → ℕ → ℕ → List ℕ
part line start place = take (place - start) (drop start line)

-- the words so far stand before the part that is under way, which has plain bytes
pub record IsSoFar (line : List ℕ) (words : List (List ℕ)) (start place : ℕ) : Type 0 where
  pub before : start ≤ place
  pub plain : list_all is_plain (part line start place) ≡ true
  pub whole : words ++ words_of (drop start line) ≡ words_of line

-- a line before its first byte
pub none-so-far : (line : List ℕ) → IsSoFar line [] 0 0
none-so-far line = record { before = omega arith; plain = refl; whole = refl }

-- ---- one part

-- a part that a blank ends
part-blank : (w : List ℕ) (b : ℕ) (line : List ℕ) → list_all is_plain w ≡ true → is_blank b ≡ true →
    words_of (w ++ b ∷ line) ≡ filter is_word (w ∷ []) ++ words_of line
unfolding words_of
part-blank w b line plain gap =
    let before : before_first is_comment (w ++ b ∷ line) ≡ w ++ b ∷ before_first is_comment line =
    before-word w (b ∷ line) plain ∙ ap (λ xs. w ++ xs) (before-no b line (blank-plain b gap)) in
    rw (before, split-at is_blank w b (before_first is_comment line) (no-blanks w plain) gap)
    (word-first w (slice_split is_blank (before_first is_comment line)))

-- a part that the comment or the line's end ends
part-last : (w rest : List ℕ) → list_all is_plain w ≡ true → before_first is_comment rest ≡ [] →
    words_of (w ++ rest) ≡ filter is_word (w ∷ [])
unfolding words_of
part-last w rest plain none =
    let whole : before_first is_comment (w ++ rest) ≡ w = before-word w rest plain ∙ ap (λ xs. w ++ xs) none ∙ append-nil w in
    rw (whole, split-whole is_blank w (no-blanks w plain)) refl

-- ---- byte by byte

-- what is left from the part on is the part and what stands after it
cut : (line : List ℕ) (start place : ℕ) → start ≤ place → place ≤ length line → drop start line ≡ part line start place ++ drop place line
cut line start place before within =
    let behind : drop (place - start) (drop start line) ≡ drop place line =
    let at : start + (place - start) ≡ place = omega arith in drop-drop (place - start) start line ∙ ap (λ n. drop n line) at in
    sym (take-append-drop (place - start) (drop start line)) ∙ ap (λ ys. part line start place ++ ys) behind

-- the byte at a place stands before those after it
next : (line : List ℕ) (place : ℕ) → place < length line → drop place line ≡ get_or line place 0 ∷ drop (place + 1) line
next line place within = grind (arith, common_steps)

-- a plain byte more
pub plain-more : (line : List ℕ) (words : List (List ℕ)) (start place : ℕ) → place < length line → is_plain (get_or line place 0) ≡ true →
    IsSoFar line words start place → IsSoFar line words start (place + 1)
plain-more line words start place within plain s =
    let before = s.before in
    let next : place + 1 - start ≡ place - start + 1 = omega arith in
    let long : place - start < length (drop start line) = grind (arith, common_steps) in
    let at : get_or (drop start line) (place - start) 0 ≡ get_or line place 0 = grind (arith, common_steps) in
    let more = list_all_more is_plain (drop start line) (place - start) 0 long in
    record {
      before = omega arith;
      plain = rw next (more ∙ rw (s.plain, at, plain) refl);
      whole = s.whole;
    }

-- a blank more
pub blank-more : (line : List ℕ) (words new : List (List ℕ)) (start place : ℕ) → place < length line → is_blank (get_or line place 0) ≡ true →
    new ≡ words ++ filter is_word (part line start place ∷ []) →
    IsSoFar line words start place → IsSoFar line new (place + 1) (place + 1)
blank-more line words new start place within gap added s =
    let parts : drop start line ≡ part line start place ++ get_or line place 0 ∷ drop (place + 1) line =
    cut line start place s.before (omega arith) ∙ ap (λ xs. part line start place ++ xs) (next line place within) in
    let here = ap words_of parts ∙ part-blank (part line start place) (get_or line place 0) (drop (place + 1) line) s.plain gap in
    let none : place + 1 - (place + 1) ≡ 0 = omega arith in
    record {
      before = omega arith;
      plain = rw none refl;
      whole = rw added (append_assoc words (filter is_word (part line start place ∷ [])) (words_of (drop (place + 1) line)) ∙ ap (λ ws. words ++ ws) (sym here) ∙ s.whole);
    }

-- the words of a line whose last part ends at a place
pub all-words : (line : List ℕ) (words new : List (List ℕ)) (start place : ℕ) → place ≤ length line → before_first is_comment (drop place line) ≡ [] →
    new ≡ words ++ filter is_word (part line start place ∷ []) →
    IsSoFar line words start place → new ≡ words_of line
all-words line words new start place within none added s =
    let here = ap words_of (cut line start place s.before within) ∙ part-last (part line start place) (drop place line) s.plain none in
    added ∙ ap (λ ws. words ++ ws) (sym here) ∙ s.whole

-- no part is left where a comment begins
pub comment-here : (line : List ℕ) (place : ℕ) → place < length line → is_comment (get_or line place 0) ≡ true → before_first is_comment (drop place line) ≡ []
comment-here line place within here = rw (next line place within) (before-here (get_or line place 0) (drop (place + 1) line) here)

-- and none at the end
pub end-here : (line : List ℕ) (place : ℕ) → length line ≤ place → before_first is_comment (drop place line) ≡ []
end-here line place past =
    let none : drop place line ≡ [] = grind (arith, common_steps) in
    rw none refl

-- a line is clean where its bytes before a place are, and those from there on
pub both-clean : (line rest : List ℕ) (place : ℕ) (clean : Bool) → clean ≡ list_all is_line_byte (take place line) → rest ≡ drop place line →
    (clean && is_clean rest) ≡ is_clean line
unfolding is_clean
both-clean line rest place clean so_far is =
    let whole : take place line ++ drop place line ≡ line = grind (arith, common_steps) in
    rw (so_far, is) (sym (list_all-append is_line_byte (take place line) (drop place line)) ∙ ap (list_all is_line_byte) whole)

-- a byte more, which may stand in a line or not
pub clean-kept : (line : List ℕ) (place : ℕ) (clean new : Bool) → place < length line → new ≡ (clean && is_line_byte (get_or line place 0)) →
    clean ≡ list_all is_line_byte (take place line) → new ≡ list_all is_line_byte (take (place + 1) line)
clean-kept line place clean new within is so_far =
    is ∙ ap (λ b. b && is_line_byte (get_or line place 0)) so_far ∙ sym (list_all_more is_line_byte line place 0 within)

-- a byte more, which may stand in a line
pub clean-more : (line : List ℕ) (place : ℕ) (clean : Bool) → place < length line → is_line_byte (get_or line place 0) ≡ true →
    clean ≡ list_all is_line_byte (take place line) → clean ≡ list_all is_line_byte (take (place + 1) line)
clean-more line place clean within fits so_far =
    let same : clean ≡ (clean && is_line_byte (get_or line place 0)) = rw fits (sym (and-true clean)) in
    clean-kept line place clean clean within same so_far

-- a blank may stand in a line
pub blank-clean : (b : ℕ) → is_blank b ≡ true → is_line_byte b ≡ true
blank-clean b gap =
    let P : ℕ → Type 0 = λ c. is_line_byte c ≡ true in
    elim (cases_Bool (b == 32)) [
      | inl space ↦ subst P (sym (eqb-true b 32 space)) refl
      | inr other ↦ elim (cases_Bool (b == 9)) [
        | inl tab ↦ subst P (sym (eqb-true b 9 tab)) refl
        | inr neither ↦ let cr : (b == 13) ≡ true = rw (other, neither) at gap in subst P (sym (eqb-true b 13 cr)) refl
      ]
    ]
