-- The sum of a ramp's first terms.
use Rattle.std.specs.Prelude.{ℕ, zero, suc, ◌+◌, ◌*◌}

-- the sum of the first k of the terms r, r + d, r + 2d and so on. This project's profile
unfoldable pub sum_of : ℕ → ℕ → ℕ → ℕ
sum_of zero d r = 0
sum_of (suc k) d r = sum_of k d r + (r + k * d)
