-- What the laws of ways to rest and of searches say. This project's profile.
use Rattle.std.specs.Prelude.{◌≡◌, ℕ, ◌+◌, ◌-◌, ◌<◌, ◌≤◌, suc, ℤ, pos, Bool}
use Rattle.std.specs.Int.{int_max}
use Rattle.motion_numbers.specs.Greatest.{greatest, IsFound}
use Rattle.motion_numbers.specs.Run.{run_of, reach_of, cut_at_zero}

-- the way to rest from a step u, braking by d each cycle, and the greatest step whose way fits a
-- room
pub record AreWays : Type 0 where
  -- a number cut at zero is the greater of it and zero
  pub cut : (z : ℤ) → pos (cut_at_zero z) ≡ int_max z (pos 0)
  -- there is none from rest
  pub run_zero : (d : ℕ) → run_of 0 d ≡ 0
  -- it is the first step and the way from the next one
  pub run_unfold : (u d : ℕ) → 0 < d → run_of u d ≡ u + run_of (u - d) d
  -- it is no shorter than the first step
  pub run_ge : (u d : ℕ) → 0 < d → u ≤ run_of u d
  -- a step of at most d is the whole of it
  pub run_small : (u d : ℕ) → 0 < d → u ≤ d → run_of u d ≡ u
  -- it is no shorter from a greater step
  pub run_mono : (u t d : ℕ) → 0 < d → u ≤ t → run_of u d ≤ run_of t d
  -- and longer, where the step is greater
  pub run_less : (u t d : ℕ) → 0 < d → u < t → run_of u d < run_of t d
  -- it is no longer by harder braking
  pub run_anti : (u d e : ℕ) → d ≤ e → run_of u e ≤ run_of u d
  -- the way from the reach fits the room
  pub reach_fits : (room d : ℕ) → run_of (reach_of room d) d ≤ room
  -- so does the way from any smaller step
  pub fits_below_reach : (u room d : ℕ) → 0 < d → u ≤ reach_of room d → run_of u d ≤ room
  -- a step whose way fits is within the reach
  pub reach_greatest : (u room d : ℕ) → 0 < d → run_of u d ≤ room → u ≤ reach_of room d
  -- one whose way is too long is beyond it
  pub below_reach_of : (u room d : ℕ) → 0 < d → room < run_of u d → reach_of room d < u
  -- the reach is the step whose way fits where that of the next one is too long
  pub reach_is : (u room d : ℕ) → 0 < d → run_of u d ≤ room → room < run_of (suc u) d → reach_of room d ≡ u

-- what a search up to n finds
pub record AreSearches : Type 0 where
  pub search_finds : (n : ℕ) (test : ℕ → Bool) → IsFound n test (greatest n test)
