-- The limits that an axis may have.
use Rattle.std.specs.Prelude.{pos, ◌≤ℤ◌}
use Rattle.motion_numbers.specs.declared.TheConstants.{MOST_STEP, MOST_WAY}
use Rattle.motion_numbers.specs.Ranges.{IsPlace}
use Rattle.plc_types.specs.declared.limits.Limits.{Limits}

-- the limits lie in the ranges that an axis or a group's path may have. PLCopen Motion Control Part
-- 1, axis parameters SWLimitNeg, SWLimitPos, MaxVelocitySystem, MaxAccelerationSystem,
-- MaxDecelerationSystem; the ranges are this project's profile
pub record AreLimits (limits : Limits) : Type 0 where
  pub lo_in_range : IsPlace limits.lo
  pub ordered : limits.lo ≤ℤ limits.hi
  pub hi_in_range : limits.hi ≤ℤ pos MOST_WAY
  pub vmax_positive : pos 1 ≤ℤ limits.vmax
  pub vmax_in_range : limits.vmax ≤ℤ pos MOST_STEP
  pub amax_positive : pos 1 ≤ℤ limits.amax
  pub amax_within_dmax : limits.amax ≤ℤ limits.dmax
  pub dmax_in_range : limits.dmax ≤ℤ pos MOST_STEP
