-- Shares of a list.
-- for: reports_say_what_is_asked
use Rattle.std.proofs.Common.{◌≡◌, ℕ, zero, suc, ◌+◌, ◌-◌, ◌*◌, ◌<◌, ◌≤◌, List, [], ◌∷◌, ◌++◌, length, take, drop, get_or, Some, None, refl, ap, ◌∙◌, arith}
use Rattle.std.proofs.lemmas.List.{take_more}
use Rattle.std.specs.Prelude.{slice_get}
use Rattle.std.proofs.Math.Seq.{take-add}
use Rattle.std.proofs.Math.Nat.{le-div_iff_mul-le, div-mul-le_self, mul-div_left}
use Rattle.std.proofs.lemmas.Grind.{common_steps}
use Rattle.scope_report.specs.Cuts.{cut_at, between_cuts}

-- up to a later place there are the items up to an earlier one, and then those between
pub take-further : {X : Type 0} (a b : ℕ) (xs : List X) → a ≤ b →
    take b xs ≡ take a xs ++ between_cuts a b xs
take-further a b xs le =
    let e : b ≡ a + (b - a) = omega arith in
    ap (λ n. take n xs) e ∙ take-add a (b - a) xs

-- one place further there is one item more
pub cut-more : {X : Type 0} (from place : ℕ) (xs : List X) (d : X) → from ≤ place →
    place < length xs →
    between_cuts from (place + 1) xs ≡ between_cuts from place xs ++ get_or xs place d ∷ []
cut-more from place xs d le lt =
    grind (arith, common_steps, take_more (drop from xs) (place - from) d)

-- a later share begins no earlier
pub cut-further : (n w k : ℕ) → 0 < w → cut_at n w k ≤ cut_at n w (k + 1)
cut-further n w k some =
    (le-div_iff_mul-le some).1 (let h = div-mul-le_self (n * k) w in grind arith)

-- the last share ends at the end
pub cut-last : (n w : ℕ) → 0 < w → cut_at n w w ≡ n
cut-last n w some = mul-div_left n some

-- an item that is there
pub item-there : {X : Type 0} (xs : List X) (i : ℕ) (d : X) → i < length xs →
    slice_get xs i ≡ Some (get_or xs i d)
item-there (x ∷ xs) zero d lt = refl
item-there (x ∷ xs) (suc i) d lt = item-there xs i d (omega arith)
item-there [] i d lt = absurd (omega arith)

pub none-is-not : {X : Type 0} (a : X) → None ≡ Some a → ⊥
none-is-not a e = absurd (cc)
