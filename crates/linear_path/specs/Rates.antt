-- The greatest rates that the first axes of a line allow.
use Rattle.std.specs.Prelude.{◌≡◌, ℕ, ◌<◌, ◌≤◌, ℤ, unsigned_abs, Bool, true, IsTrue, ◌↔◌, List}
use Rattle.motion_numbers.specs.declared.TheConstants.{MOST_STEP}
use Rattle.plc_types.specs.declared.limits.Limits.{Limits}
use Rattle.linear_path.specs.Line.{way_of, keeps_velocity, keeps_change}
use Rattle.linear_path.specs.Path.{limits_at}

-- the rates up to this one, and no others up to 10^10, pass the test
pub record IsRateOf (rate : ℕ) (test : ℕ → Bool) : Type 0 where
  pub within : rate ≤ MOST_STEP
  pub exact : (r : ℕ) → r ≤ MOST_STEP → IsTrue (test r) ↔ (r ≤ rate)

-- the rates up to this one, and no others up to 10^10, pass the test of each of the first n axes
pub record IsGreatestRate (n : ℕ) (test : ℕ → ℕ → Bool) (rate : ℕ) : Type 0 where
  pub within : rate ≤ MOST_STEP
  pub passes : (r axis : ℕ) → r ≤ rate → axis < n → test axis r ≡ true
  pub most : (r : ℕ) → r ≤ MOST_STEP → ((axis : ℕ) → axis < n → test axis r ≡ true) → r ≤ rate

-- a velocity of the path is allowed by an axis
abbrev pub velocity_test : List ℤ → List ℤ → ℕ → List Limits → ℕ → ℕ → Bool
velocity_test starts targets length limits axis =
    keeps_velocity (way_of starts targets axis) length (unsigned_abs (limits_at limits axis).vmax)

-- a gain of speed is
abbrev pub gain_test : List ℤ → List ℤ → ℕ → List Limits → ℕ → ℕ → Bool
gain_test starts targets length limits axis =
    keeps_change (way_of starts targets axis) length (unsigned_abs (limits_at limits axis).amax)

-- a loss of speed is
abbrev pub loss_test : List ℤ → List ℤ → ℕ → List Limits → ℕ → ℕ → Bool
loss_test starts targets length limits axis =
    keeps_change (way_of starts targets axis) length (unsigned_abs (limits_at limits axis).dmax)

-- velocity, acceleration and deceleration are the greatest that the first n axes allow
pub record AreGreatestRates (starts targets : List ℤ) (length : ℕ) (limits : List Limits)
    (n velocity acceleration deceleration : ℕ) : Type 0 where
  pub velocity_is : IsGreatestRate n (velocity_test starts targets length limits) velocity
  pub acceleration_is : IsGreatestRate n (gain_test starts targets length limits) acceleration
  pub deceleration_is : IsGreatestRate n (loss_test starts targets length limits) deceleration
