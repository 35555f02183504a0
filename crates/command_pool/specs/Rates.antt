-- The ranges of a command's rates.
use Rattle.std.specs.Prelude.{pos, ◌≤ℤ◌}
use Rattle.motion_numbers.specs.declared.TheConstants.{MOST_STEP}
use Rattle.command_pool.specs.declared.rates.Rates.{Rates}

-- each of Velocity, Acceleration and Deceleration lies from 1 to the greatest step. This project's
-- profile
pub record AreRates (rates : Rates) : Type 0 where
  pub least_velocity : pos 1 ≤ℤ rates.v
  pub most_velocity : rates.v ≤ℤ pos MOST_STEP
  pub least_acceleration : pos 1 ≤ℤ rates.a
  pub most_acceleration : rates.a ≤ℤ pos MOST_STEP
  pub least_deceleration : pos 1 ≤ℤ rates.d
  pub most_deceleration : rates.d ≤ℤ pos MOST_STEP

-- each of Acceleration and Deceleration lies from 1 to the greatest step. This project's profile
pub record AreRamps (rates : Rates) : Type 0 where
  pub least_acceleration : pos 1 ≤ℤ rates.a
  pub most_acceleration : rates.a ≤ℤ pos MOST_STEP
  pub least_deceleration : pos 1 ≤ℤ rates.d
  pub most_deceleration : rates.d ≤ℤ pos MOST_STEP
