-- A move by rates within the limits to a target within them, in the direction in which the axis
-- moves. This project's profile.
use Rattle.std.specs.Prelude.{◌≡◌, ◌≤ℤ◌, ◌<ℤ◌}
use Rattle.jerk_core.specs.Admissible.{rates_of}
use Rattle.jerk_core.specs.Rates.{AreRatesWithin}
use Rattle.otg.specs.declared.generator.Otg.{Otg}
use Rattle.otg.specs.Open.{AreLimitsOf, IsCommandOf, limits_of, rates_of_command}

-- the last three setpoints rise
pub record Rises (otg : Otg) : Type 0 where
  pub first : otg.first ≤ℤ otg.before
  pub second : otg.before ≤ℤ otg.current

-- they fall, and are not all the same
pub record Falls (otg : Otg) : Type 0 where
  pub first : otg.before ≤ℤ otg.first
  pub second : otg.current ≤ℤ otg.before
  pub some : otg.current <ℤ otg.first

-- the target is no lower than the setpoint, and both lie within the limits
pub record HasTargetAbove (otg : Otg) : Type 0 where
  pub toward : otg.current ≤ℤ otg.target
  pub within : otg.target ≤ℤ otg.hi
  pub above : otg.lo ≤ℤ otg.current

-- it is no higher, and lower than the setpoint before
pub record HasTargetBelow (otg : Otg) : Type 0 where
  pub toward : otg.target ≤ℤ otg.current
  pub some : otg.target <ℤ otg.before
  pub within : otg.lo ≤ℤ otg.target
  pub below : otg.current ≤ℤ otg.hi

-- limits and command are in their ranges, the command is a move, and its rates are within the
-- limits
pub record IsOwnMove (otg : Otg) : Type 0 where
  pub limits : AreLimitsOf otg
  pub command : IsCommandOf otg
  pub kind : otg.kind ≡ 1
  pub rates : AreRatesWithin (rates_of_command otg) (rates_of (limits_of otg))
