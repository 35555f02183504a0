-- What a generator that is open keeps, and what a step does. This project's profile.
use Rattle.std.specs.Prelude.{◌≡◌, ◌≢◌, ◌≤◌, ℤ, pos, ◌-ℤ◌, ◌≤ℤ◌, unsigned_abs, nat_eq, if◌then◌else◌}
use Rattle.motion_numbers.specs.declared.TheConstants.{MOST_PLACE, MOST_STEP}
use Rattle.motion_numbers.specs.Ranges.{IsPlace}
use Rattle.jerk_core.specs.declared.limits.JerkLimits.{JerkLimits}
use Rattle.jerk_core.specs.declared.rates.JerkRates.{JerkRates}
use Rattle.jerk_core.specs.declared.motions.Setpoints.{Setpoints}
use Rattle.jerk_core.specs.Rates.{AreJerkRates}
use Rattle.jerk_core.specs.Admissible.{IsAdmissibleByJerk, IsKeptByJerk, IsTakenByJerk}
use Rattle.jerk_plan.specs.Directed.{IsMoveStep, IsVelocityStep, IsHaltStep}
use Rattle.otg.specs.declared.generator.Otg.{Otg}

-- the limits of a generator
abbrev pub limits_of : Otg → JerkLimits
limits_of otg = record {
  axis = record { lo = otg.lo; hi = otg.hi; vmax = otg.vmax; amax = otg.amax; dmax = otg.dmax };
  jmax = otg.jmax;
}

-- its last three setpoints
abbrev pub setpoints_of : Otg → Setpoints
setpoints_of otg = record { first = otg.first; before = otg.before; current = otg.current }

-- the rates of its command
abbrev pub rates_of_command : Otg → JerkRates
rates_of_command otg = record { v = otg.v; a = otg.a; d = otg.d; j = otg.j }

-- the limits of setpoints are places in order
pub record ArePlaces (lo hi : ℤ) : Type 0 where
  pub lo_in_range : IsPlace lo
  pub ordered : lo ≤ℤ hi
  pub hi_in_range : IsPlace hi

-- the limits of the changes of speed are steps in order
pub record AreGains (amax dmax : ℤ) : Type 0 where
  pub positive : pos 1 ≤ℤ amax
  pub ordered : amax ≤ℤ dmax
  pub in_range : dmax ≤ℤ pos MOST_STEP

-- its limits are in their ranges
pub record AreLimitsOf (otg : Otg) : Type 0 where
  pub places : ArePlaces otg.lo otg.hi
  pub slow : (pos 1 ≤ℤ otg.vmax) × (otg.vmax ≤ℤ pos MOST_STEP)
  pub gains : AreGains otg.amax otg.dmax
  pub sharp : (pos 2 ≤ℤ otg.jmax) × (otg.jmax ≤ℤ pos MOST_STEP)

-- its target is in its range: a velocity that of steps, another target that of places
abbrev pub IsTargetOf : Otg → Type 0
IsTargetOf otg = unsigned_abs otg.target ≤ (if nat_eq otg.kind 2 then MOST_STEP else MOST_PLACE)

-- its command is in its ranges
pub record IsCommandOf (otg : Otg) : Type 0 where
  pub rates : AreJerkRates (rates_of_command otg)
  pub target : IsTargetOf otg

-- a generator that is open: its limits and its command are in their ranges, and its setpoints are
-- kept
pub record IsOpen (otg : Otg) : Type 0 where
  pub limits : AreLimitsOf otg
  pub command : IsCommandOf otg
  pub kept : IsKeptByJerk (limits_of otg) otg.first otg.before otg.current

-- a generator at rest at a setpoint, with a halt by its limits
abbrev pub resting_of : Otg → ℤ → Otg
resting_of otg setpoint = record otg {
  first = setpoint;
  before = setpoint;
  current = setpoint;
  target = setpoint;
  v = unsigned_abs otg.vmax;
  a = unsigned_abs otg.amax;
  d = unsigned_abs otg.dmax;
  j = unsigned_abs otg.jmax;
  kind = 0;
}

-- a generator one setpoint on
abbrev pub shifted_of : Otg → ℤ → Otg
shifted_of otg next = record otg { first = otg.before; before = otg.current; current = next }

-- the step that the command wants, by its kind
pub data IsWantedStep (otg : Otg) (step : ℤ) : Type 0 where
  by_move : otg.kind ≡ 1 →
      IsMoveStep (rates_of_command otg) (otg.target -ℤ otg.current) (otg.before -ℤ otg.first) (otg.current -ℤ otg.before) step → IsWantedStep otg step
  by_velocity : otg.kind ≡ 2 →
      IsVelocityStep (rates_of_command otg) otg.target (otg.before -ℤ otg.first) (otg.current -ℤ otg.before) step → IsWantedStep otg step
  by_halt : otg.kind ≢ 1 → otg.kind ≢ 2 →
      IsHaltStep (rates_of_command otg) (otg.before -ℤ otg.first) (otg.current -ℤ otg.before) step → IsWantedStep otg step

-- the step is safe, and no other safe step is nearer to the one that the command wants
pub record IsStepTaken (otg : Otg) (step : ℤ) : Type 0 where
  pub wanted : ℤ
  pub wants : IsWantedStep otg wanted
  pub taken : IsTakenByJerk (limits_of otg) otg.first otg.before otg.current wanted step

-- a step gives an admissible setpoint, the safe one nearest to what the command wants, and changes
-- nothing else
pub record IsStepOf (before after : Otg) : Type 0 where
  pub taken : IsStepTaken before (after.current -ℤ before.current)
  pub admissible : IsAdmissibleByJerk (limits_of before) before.first before.before before.current after.current
  pub same : after ≡ shifted_of before after.current
