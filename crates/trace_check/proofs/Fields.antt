-- The twelve fields of a record by their places.
-- for: replay_from
use Rattle.std.proofs.Common.{◌≡◌, ℕ, List, [], ◌∷◌, length, refl, arith}
use Rattle.std.specs.Prelude.{slice_index_or, slice_set}

-- another last field
pub last-set : (xs : List (List ℕ)) (y : List ℕ) → length xs ≡ 12 →
    slice_index_or xs 0 [] ∷ slice_index_or xs 1 [] ∷ slice_index_or xs 2 [] ∷ slice_index_or xs 3 [] ∷ slice_index_or xs 4 [] ∷ slice_index_or xs 5 [] ∷ slice_index_or xs 6 [] ∷ slice_index_or xs 7 [] ∷ slice_index_or xs 8 [] ∷ slice_index_or xs 9 [] ∷ slice_index_or xs 10 [] ∷ y ∷ [] ≡ slice_set xs 11 y
last-set [] y n = absurd (omega (arith, n))
last-set (a ∷ []) y n = absurd (omega (arith, n))
last-set (a ∷ b ∷ []) y n = absurd (omega (arith, n))
last-set (a ∷ b ∷ c ∷ []) y n = absurd (omega (arith, n))
last-set (a ∷ b ∷ c ∷ d ∷ []) y n = absurd (omega (arith, n))
last-set (a ∷ b ∷ c ∷ d ∷ e ∷ []) y n = absurd (omega (arith, n))
last-set (a ∷ b ∷ c ∷ d ∷ e ∷ f ∷ []) y n = absurd (omega (arith, n))
last-set (a ∷ b ∷ c ∷ d ∷ e ∷ f ∷ g ∷ []) y n = absurd (omega (arith, n))
last-set (a ∷ b ∷ c ∷ d ∷ e ∷ f ∷ g ∷ h ∷ []) y n = absurd (omega (arith, n))
last-set (a ∷ b ∷ c ∷ d ∷ e ∷ f ∷ g ∷ h ∷ i ∷ []) y n = absurd (omega (arith, n))
last-set (a ∷ b ∷ c ∷ d ∷ e ∷ f ∷ g ∷ h ∷ i ∷ j ∷ []) y n = absurd (omega (arith, n))
last-set (a ∷ b ∷ c ∷ d ∷ e ∷ f ∷ g ∷ h ∷ i ∷ j ∷ k ∷ []) y n = absurd (omega (arith, n))
last-set (a ∷ b ∷ c ∷ d ∷ e ∷ f ∷ g ∷ h ∷ i ∷ j ∷ k ∷ l ∷ []) y n = refl
last-set (a ∷ b ∷ c ∷ d ∷ e ∷ f ∷ g ∷ h ∷ i ∷ j ∷ k ∷ l ∷ m ∷ more) y n = absurd (omega (arith, n))
