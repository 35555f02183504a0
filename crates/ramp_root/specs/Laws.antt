-- What the law of the sums of ramps says. This project's profile.
use Rattle.std.specs.Prelude.{◌≡◌, ℕ, suc, ◌+◌, ◌-◌, ◌*◌, ◌/◌, ◌<◌, ◌≤◌}
use Rattle.ramp_root.specs.Sums.{sum_of}

-- the sum of the first k of the terms r, r + d, r + 2d and so on
pub record AreSums : Type 0 where
  -- each term has its r
  pub sum_shifts : (k d r : ℕ) → sum_of k d r ≡ sum_of k d 0 + r * k
  -- without it the sum is d times the number of pairs
  pub sum_pairs : (k d : ℕ) → d * (k * (k - 1) / 2) ≡ sum_of k d 0
  -- of terms that rise it is at least half of a square
  pub sum_size : (k d r : ℕ) → 0 < d → 0 < r → k * k ≤ 2 * sum_of k d r
  -- it is the first term, and the others from the next
  pub sum_front : (n d r : ℕ) → sum_of (suc n) d r ≡ r + sum_of n d (r + d)
  -- it is the sum of the first k terms, and of the others
  pub sum_splits : (k n d r : ℕ) → sum_of (k + n) d r ≡ sum_of k d r + sum_of n d (r + k * d)
  -- more terms have no smaller sum
  pub sum_grows : (k m d r : ℕ) → k ≤ m → sum_of k d r ≤ sum_of m d r
