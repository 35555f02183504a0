-- Small numbers, and zeros after them.
-- for: inputs_are_fit, positions_from
use Rattle.std.proofs.Common.{◌≡◌, ℕ, zero, suc, ◌-◌, ◌≤◌, ℤ, List, [], ◌∷◌, ◌++◌, length, drop, refl, ap, arith, lit≤}
use Rattle.std.specs.Prelude.{pos, replicate, slice_index_or, unsigned_abs}
use Rattle.std.specs.List.{AllByRecursion}
use Rattle.motion_numbers.specs.declared.TheConstants.{MOST_NUMBER}
use Rattle.machine_words.specs.Positions.{positions_from}

-- a number is at most 10^18 in size
abbrev pub IsSmall : ℤ → Type 0
IsSmall z = unsigned_abs z ≤ MOST_NUMBER

pub zero-small : IsSmall (pos 0)
zero-small = lit≤ tt

-- there is nothing but zeros among zeros
pub zeros-at : (k n : ℕ) → slice_index_or (replicate k (pos 0)) n (pos 0) ≡ pos 0
zeros-at zero n = refl
zeros-at (suc k) zero = refl
zeros-at (suc k) (suc n) = zeros-at k n

-- small numbers, and zeros after them
pub small-at : (zs : List ℤ) (k n : ℕ) → AllByRecursion IsSmall zs → IsSmall (slice_index_or (zs ++ replicate k (pos 0)) n (pos 0))
small-at [] k n h = rw (zeros-at k n) zero-small
small-at (z ∷ zs) k zero h = h.0
small-at (z ∷ zs) k (suc n) h = small-at zs k n h.1

pub zero-behind : (zs : List ℤ) (k n : ℕ) → length zs ≤ n → slice_index_or (zs ++ replicate k (pos 0)) n (pos 0) ≡ pos 0
zero-behind [] k n h = zeros-at k n
zero-behind (z ∷ zs) k zero h = absurd (omega arith)
zero-behind (z ∷ zs) k (suc n) h = zero-behind zs k n (omega arith)

abbrev zeros : List ℤ
zeros = pos 0 ∷ pos 0 ∷ pos 0 ∷ pos 0 ∷ pos 0 ∷ pos 0 ∷ []

zeros-drop : (n : ℕ) → n ≤ 6 → drop n zeros ≡ replicate (6 - n) (pos 0)
zeros-drop zero h = refl
zeros-drop (suc zero) h = refl
zeros-drop (suc (suc zero)) h = refl
zeros-drop (suc (suc (suc zero))) h = refl
zeros-drop (suc (suc (suc (suc zero)))) h = refl
zeros-drop (suc (suc (suc (suc (suc zero))))) h = refl
zeros-drop (suc (suc (suc (suc (suc (suc zero)))))) h = refl
zeros-drop (suc (suc (suc (suc (suc (suc (suc n))))))) h = absurd (omega arith)

-- positions that are copied to the front of zeros
pub positions-copied : (places copied : List ℤ) (n : ℕ) → n ≡ length places → length places ≤ 6 → copied ≡ places →
    copied ++ drop n zeros ≡ positions_from places
unfolding positions_from
positions-copied places copied n long few same =
    rw (same, long) (ap (λ behind. places ++ behind) (zeros-drop (length places) few))
