-- Quotients rounded down.
use Rattle.std.specs.Prelude.{ℤ}
use Rattle.std.specs.Int.{int_div_euclid}

-- n divided by d and rounded down, where d is from 1
unfoldable pub floor_of : ℤ → ℤ → ℤ
floor_of n d = int_div_euclid n d
