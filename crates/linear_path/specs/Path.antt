-- What the axes of a path keep (this project's profile).
use Rattle.std.specs.Prelude.{◌≡◌, ℕ, ◌<◌, ℤ, pos, ◌≤ℤ◌, List, length, slice_index_or}
use Rattle.std.specs.Int.{int_min, int_max}
use Rattle.plc_types.specs.declared.limits.Limits.{Limits}
use Rattle.plc_types.specs.Limits.{AreLimits}

-- the limits of a path of length 0: it stands
abbrev pub standing_limits : Limits
standing_limits = record { lo = pos 0; hi = pos 0; vmax = pos 1; amax = pos 1; dmax = pos 1 }

-- what stands after the end of a list of limits
abbrev pub no_limits : Limits
no_limits = record { lo = pos 0; hi = pos 0; vmax = pos 0; amax = pos 0; dmax = pos 0 }

-- the limits of an axis, the axes counted from 0
abbrev pub limits_at : List Limits → ℕ → Limits
limits_at limits axis = slice_index_or limits axis no_limits

-- the limits of an axis are in range, amax from 2
pub record AreAxisLimits (limits : Limits) : Type 0 where
  pub ranges : AreLimits limits
  pub gains : pos 2 ≤ℤ limits.amax

-- limits for this many axes, one for each
pub record AreAxesLimits (count : ℕ) (limits : List Limits) : Type 0 where
  pub one_each : length limits ≡ count
  pub each : (axis : ℕ) → axis < count → AreAxisLimits (limits_at limits axis)

-- a start and a target lie within the limits of their axis
pub record AreWithin (limits : Limits) (start target : ℤ) : Type 0 where
  pub start_above : limits.lo ≤ℤ start
  pub start_below : start ≤ℤ limits.hi
  pub target_above : limits.lo ≤ℤ target
  pub target_below : target ≤ℤ limits.hi

-- z lies between a and b, whichever is the greater
pub record IsBetween (a b z : ℤ) : Type 0 where
  pub above : int_min a b ≤ℤ z
  pub below : z ≤ℤ int_max a b
