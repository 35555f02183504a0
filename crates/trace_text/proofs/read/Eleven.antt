-- Fields by their places.
-- for: read_trace, read_within_room
use Rattle.std.proofs.Common.{◌≡◌, ℕ, ◌<◌, ◌≤◌, List, [], ◌∷◌, Bor, length, get_or, refl, arith}
use Rattle.std.specs.Prelude.{slice_index_or}
use Rattle.line_text.specs.Texts.{texts}
use Rattle.line_text.proofs.Texts.{nowhere}

-- eleven fields
pub texts-eleven : (ws : List (Bor (List ℕ))) → 11 ≤ length ws → length ws < 12 →
    texts ws ≡ (get_or ws 0 nowhere).now ∷ (get_or ws 1 nowhere).now ∷ (get_or ws 2 nowhere).now ∷ (get_or ws 3 nowhere).now ∷ (get_or ws 4 nowhere).now ∷ (get_or ws 5 nowhere).now ∷ (get_or ws 6 nowhere).now ∷ (get_or ws 7 nowhere).now ∷ (get_or ws 8 nowhere).now ∷ (get_or ws 9 nowhere).now ∷ (get_or ws 10 nowhere).now ∷ []
texts-eleven [] l u = absurd (omega arith)
texts-eleven (a ∷ []) l u = absurd (omega arith)
texts-eleven (a ∷ b ∷ []) l u = absurd (omega arith)
texts-eleven (a ∷ b ∷ c ∷ []) l u = absurd (omega arith)
texts-eleven (a ∷ b ∷ c ∷ d ∷ []) l u = absurd (omega arith)
texts-eleven (a ∷ b ∷ c ∷ d ∷ e ∷ []) l u = absurd (omega arith)
texts-eleven (a ∷ b ∷ c ∷ d ∷ e ∷ f ∷ []) l u = absurd (omega arith)
texts-eleven (a ∷ b ∷ c ∷ d ∷ e ∷ f ∷ g ∷ []) l u = absurd (omega arith)
texts-eleven (a ∷ b ∷ c ∷ d ∷ e ∷ f ∷ g ∷ h ∷ []) l u = absurd (omega arith)
texts-eleven (a ∷ b ∷ c ∷ d ∷ e ∷ f ∷ g ∷ h ∷ i ∷ []) l u = absurd (omega arith)
texts-eleven (a ∷ b ∷ c ∷ d ∷ e ∷ f ∷ g ∷ h ∷ i ∷ j ∷ []) l u = absurd (omega arith)
texts-eleven (a ∷ b ∷ c ∷ d ∷ e ∷ f ∷ g ∷ h ∷ i ∷ j ∷ k ∷ []) l u = refl
texts-eleven (a ∷ b ∷ c ∷ d ∷ e ∷ f ∷ g ∷ h ∷ i ∷ j ∷ k ∷ m ∷ more) l u = absurd (omega arith)

-- twelve fields
pub twelve-fields : (xs : List (List ℕ)) → length xs ≡ 12 →
    slice_index_or xs 0 [] ∷ slice_index_or xs 1 [] ∷ slice_index_or xs 2 [] ∷ slice_index_or xs 3 [] ∷ slice_index_or xs 4 [] ∷ slice_index_or xs 5 [] ∷ slice_index_or xs 6 [] ∷ slice_index_or xs 7 [] ∷ slice_index_or xs 8 [] ∷ slice_index_or xs 9 [] ∷ slice_index_or xs 10 [] ∷ slice_index_or xs 11 [] ∷ [] ≡ xs
twelve-fields [] n = absurd (omega (arith, n))
twelve-fields (a ∷ []) n = absurd (omega (arith, n))
twelve-fields (a ∷ b ∷ []) n = absurd (omega (arith, n))
twelve-fields (a ∷ b ∷ c ∷ []) n = absurd (omega (arith, n))
twelve-fields (a ∷ b ∷ c ∷ d ∷ []) n = absurd (omega (arith, n))
twelve-fields (a ∷ b ∷ c ∷ d ∷ e ∷ []) n = absurd (omega (arith, n))
twelve-fields (a ∷ b ∷ c ∷ d ∷ e ∷ f ∷ []) n = absurd (omega (arith, n))
twelve-fields (a ∷ b ∷ c ∷ d ∷ e ∷ f ∷ g ∷ []) n = absurd (omega (arith, n))
twelve-fields (a ∷ b ∷ c ∷ d ∷ e ∷ f ∷ g ∷ h ∷ []) n = absurd (omega (arith, n))
twelve-fields (a ∷ b ∷ c ∷ d ∷ e ∷ f ∷ g ∷ h ∷ i ∷ []) n = absurd (omega (arith, n))
twelve-fields (a ∷ b ∷ c ∷ d ∷ e ∷ f ∷ g ∷ h ∷ i ∷ j ∷ []) n = absurd (omega (arith, n))
twelve-fields (a ∷ b ∷ c ∷ d ∷ e ∷ f ∷ g ∷ h ∷ i ∷ j ∷ k ∷ []) n = absurd (omega (arith, n))
twelve-fields (a ∷ b ∷ c ∷ d ∷ e ∷ f ∷ g ∷ h ∷ i ∷ j ∷ k ∷ l ∷ []) n = refl
twelve-fields (a ∷ b ∷ c ∷ d ∷ e ∷ f ∷ g ∷ h ∷ i ∷ j ∷ k ∷ l ∷ m ∷ more) n = absurd (omega (arith, n))
