-- The ranges of the limits of a speed and of its changes. This project's profile.
use Rattle.std.specs.Prelude.{ℕ, ◌≤◌}
use Rattle.motion_numbers.specs.declared.TheConstants.{MOST_STEP}
use Rattle.jerk_core.specs.declared.rates.JerkRates.{JerkRates}
use Rattle.jerk_core.specs.Braking.{IsKeptAhead, IsKeptAfter, IsSafeAhead}

-- each lies within 1 and the greatest step; a change of 1 would leave targets that no motion
-- reaches, so j is at least 2
pub record AreJerkRates (rates : JerkRates) : Type 0 where
  pub v_least : 1 ≤ rates.v
  pub v_most : rates.v ≤ MOST_STEP
  pub a_least : 1 ≤ rates.a
  pub a_most : rates.a ≤ MOST_STEP
  pub d_least : 1 ≤ rates.d
  pub d_most : rates.d ≤ MOST_STEP
  pub j_least : 2 ≤ rates.j
  pub j_most : rates.j ≤ MOST_STEP

-- the motion is kept by the rates in the room
abbrev pub IsKeptBy : JerkRates → ℕ → ℕ → ℕ → Type 0
IsKeptBy rates room w v = IsKeptAhead rates.v rates.a rates.d rates.j room w v

-- after the speed v the speed x leaves a motion that is kept by the rates
abbrev pub IsLeftBy : JerkRates → ℕ → ℕ → ℕ → Type 0
IsLeftBy rates room v x = IsKeptAfter rates.v rates.a rates.d rates.j room v x

-- the speed x may follow the motion by the rates, and leaves one that is kept by them
abbrev pub IsSafeBy : JerkRates → ℕ → ℕ → ℕ → ℕ → Type 0
IsSafeBy rates room w v x = IsSafeAhead rates.v rates.a rates.d rates.j room w v x

-- the rates of a command are within the limits
pub record AreRatesWithin (own rates : JerkRates) : Type 0 where
  pub v : own.v ≤ rates.v
  pub a : own.a ≤ rates.a
  pub d : own.d ≤ rates.d
  pub j : own.j ≤ rates.j
