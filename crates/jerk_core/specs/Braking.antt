-- Braking with limited jerk, counted in the direction of the motion. A motion is two speeds, each
-- not negative: w in the last cycle, v in this one. This project's profile.
use Rattle.std.specs.Prelude.{ℕ, ◌+◌, ◌-◌, ◌*◌, ◌≤◌, zero, suc, max}
use Rattle.motion_numbers.specs.Run.{run_of, reach_of}

-- the least speed that may follow the speeds w and v, where a speed falls by at most d a cycle and
-- its change by at most j: v less d, v with its last change less j, and v less the greatest fall
-- that can be taken back to none before the speed is zero
unfoldable pub braked_of : ℕ → ℕ → ℕ → ℕ → ℕ
braked_of d j w v = max (max (v - d) (2 * v - (w + j))) (v - reach_of v j)

-- the way of the first n cycles of braking
abbrev pub braking_of : ℕ → ℕ → ℕ → ℕ → ℕ → ℕ
braking_of zero d j w v = 0
braking_of (suc n) d j w v = braked_of d j w v + braking_of n d j v (braked_of d j w v)

-- the way to rest by braking, which takes at most v + (v - w)² cycles
unfoldable pub way_of : ℕ → ℕ → ℕ → ℕ → ℕ
way_of d j w v = braking_of (v + (v - w) * (v - w)) d j w v

-- the motion keeps its limits, and can keep them until it has come to rest within the room ahead
pub record IsKeptAhead (vmax amax dmax jmax room w v : ℕ) : Type 0 where
  -- it is no faster than vmax
  pub speed : v ≤ vmax
  -- it speeds up by at most amax
  pub gains : v ≤ w + amax
  -- it slows by at most dmax
  pub loses : w ≤ v + dmax
  -- its slowing can be taken back before the speed is zero
  pub lands : run_of (w - v - jmax) jmax ≤ v
  -- its speeding up can be taken back before the speed is vmax
  pub tops : v + run_of (v - w - jmax) jmax ≤ vmax
  -- its way to rest fits the room
  pub fits : way_of dmax jmax w v ≤ room

-- after the speed v the speed x fits the room, and leaves a motion that is kept in what is left of
-- it
pub record IsKeptAfter (vmax amax dmax jmax room v x : ℕ) : Type 0 where
  pub within : x ≤ room
  pub kept : IsKeptAhead vmax amax dmax jmax (room - x) v x

-- the speed x may follow the motion w, v, and leaves a kept motion
pub record IsSafeAhead (vmax amax dmax jmax room w v x : ℕ) : Type 0 where
  -- the change of speed falls by at most jmax
  pub bends : 2 * v ≤ x + w + jmax
  -- and rises by at most jmax
  pub rises : x + w ≤ 2 * v + jmax
  pub after : IsKeptAfter vmax amax dmax jmax room v x
