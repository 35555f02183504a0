-- Sums of whole numbers, and the cycles of braking in which the change of speed falls by j. This
-- project's profile.
use Rattle.std.specs.Prelude.{ℕ, ◌+◌, ◌-◌, ◌*◌, ◌≤◌, zero, suc}
use Rattle.motion_numbers.specs.Run.{run_of}

-- the numbers from 1 to n, added up
unfoldable pub triangle_of : ℕ → ℕ
triangle_of zero = 0
triangle_of (suc n) = suc n + triangle_of n

-- the triangles below the n-th, added up
unfoldable pub tetrahedron_of : ℕ → ℕ
tetrahedron_of zero = 0
tetrahedron_of (suc n) = triangle_of n + tetrahedron_of n

-- braking from the speeds w and v by the change alone, the speed after n cycles falls in the next
-- one by at most d, and by no more than can be taken back before it is zero
pub record IsRamp (d j w v n : ℕ) : Type 0 where
  pub falls : suc n * j + w - v ≤ d
  pub lands : run_of (suc n * j + w - v) j + (n * w + j * triangle_of n) ≤ suc n * v
