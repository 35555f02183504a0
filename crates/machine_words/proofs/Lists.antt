-- Lists with one more at their end, and texts of one part.
-- for: positions_of
use Rattle.std.proofs.Common.{◌≡◌, refl, ℕ, true, List, [], ◌∷◌, ◌++◌, ap, ◌∙◌}
use Rattle.std.specs.List.{AllByRecursion, list_all, onto_first, slice_split}
use Rattle.std.specs.Prelude.{not}
use Rattle.std.proofs.lemmas.Bool.{and_parts, not-true}
use Rattle.std.proofs.lemmas.List.Splits.{slice_split-cons_no}
use Rattle.machine_words.specs.Positions.{is_semicolon}

-- what holds of all, and of one more
pub all-push : {A : Type 0} (P : A → Type 0) (xs : List A) (x : A) → AllByRecursion P xs → P x → AllByRecursion P (xs ++ x ∷ [])
all-push P [] x h p = (p, tt)
all-push P (y ∷ ys) x h p = (h.0, all-push P ys x h.1 p)

-- a text without a semicolon is one part
pub one-part : (text : List ℕ) → list_all (λ b. not (is_semicolon b)) text ≡ true → slice_split is_semicolon text ≡ text ∷ []
one-part [] h = refl
one-part (b ∷ text) h =
    let parts = and_parts (not (is_semicolon b)) (list_all (λ b. not (is_semicolon b)) text) h in
    slice_split-cons_no is_semicolon b text (not-true (is_semicolon b) parts.0) ∙ ap (onto_first b) (one-part text parts.1)
