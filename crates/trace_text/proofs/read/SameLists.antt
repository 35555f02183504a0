-- Lists of texts that are compared.
-- for: read_trace, read_within_room
use Rattle.std.proofs.Common.{◌≡◌, ℕ, suc, ◌+◌, ◌<◌, true, false, List, [], ◌∷◌, Bor, length, get_or, drop, refl, ap, add-one, inl, inr}
use Rattle.std.proofs.lemmas.Bool.{cases_Bool}
use Rattle.line_text.specs.Texts.{says, texts}
use Rattle.trace_text.specs.reading.Reading.{are_same}
use Rattle.line_text.proofs.Each.{word_at}
use Rattle.line_text.proofs.Texts.{nowhere}

-- lists of other lengths are not the same
pub unequal : (xs ys : List (List ℕ)) → (length xs ≡ length ys → ⊥) → are_same xs ys ≡ false
unequal [] [] n = absurd (n refl)
unequal [] (y ∷ ys) n = refl
unequal (x ∷ xs) [] n = refl
unequal (x ∷ xs) (y ∷ ys) n = elim (cases_Bool (says x y)) [
  | inl same ↦ rw same (unequal xs ys (λ e. n (ap suc e)))
  | inr other ↦ rw other refl
]

-- the rest decides where two texts are the same
pub same-more : (ws vs : List (Bor (List ℕ))) (i : ℕ) → i < length ws → i < length vs → says (get_or ws i nowhere).now (get_or vs i nowhere).now ≡ true →
    are_same (drop i (texts ws)) (drop i (texts vs)) ≡ are_same (drop (i + 1) (texts ws)) (drop (i + 1) (texts vs))
same-more ws vs i l k e = rw (word_at ws i l, word_at vs i k, e, add-one) refl

-- two other texts decide
pub same-stops : (ws vs : List (Bor (List ℕ))) (i : ℕ) → i < length ws → i < length vs → says (get_or ws i nowhere).now (get_or vs i nowhere).now ≡ false →
    are_same (drop i (texts ws)) (drop i (texts vs)) ≡ false
same-stops ws vs i l k e = rw (word_at ws i l, word_at vs i k, e) refl
