-- Which setpoints an axis with limited jerk may take, and from which three setpoints it can still
-- be stopped. This project's profile.
use Rattle.std.specs.Prelude.{◌≡◌, ◌⊎◌, ◌≤◌, ℤ, pos, ◌+ℤ◌, ◌-ℤ◌, ◌≤ℤ◌, unsigned_abs, List, [], ◌∷◌}
use Rattle.motion_numbers.specs.declared.TheConstants.{MOST_STEP}
use Rattle.plc_types.specs.Limits.{AreLimits}
use Rattle.kin_core.specs.Admissible.{IsAdmissible, StepMayFollow}
use Rattle.jerk_core.specs.declared.limits.JerkLimits.{JerkLimits}
use Rattle.jerk_core.specs.declared.rates.JerkRates.{JerkRates}
use Rattle.jerk_core.specs.Rates.{IsKeptBy}

-- the limits lie in the ranges that an axis may have
pub record AreJerkLimits (limits : JerkLimits) : Type 0 where
  pub axis : AreLimits limits.axis
  pub jmax_least : pos 2 ≤ℤ limits.jmax
  pub jmax_most : limits.jmax ≤ℤ pos MOST_STEP

-- the setpoint `now` lies between the one before it and the one after it, or is one of them: the
-- axis doesn't turn there without standing
abbrev pub IsBetween : ℤ → ℤ → ℤ → Type 0
IsBetween before now next = ((before ≤ℤ now) × (now ≤ℤ next)) ⊎ ((next ≤ℤ now) × (now ≤ℤ before))

-- the setpoint `next` may come after `first`, `before` and `now`: it is admissible without a limit
-- of jerk, the change of step changes by at most jmax, and the axis turns only where it stands for
-- a cycle
pub record IsAdmissibleByJerk (limits : JerkLimits) (first before now next : ℤ) : Type 0 where
  pub admissible : IsAdmissible limits.axis before now next
  pub jerk : pos (unsigned_abs ((next -ℤ now) -ℤ (now -ℤ before) -ℤ ((now -ℤ before) -ℤ (before -ℤ first)))) ≤ℤ limits.jmax
  pub turns : IsBetween before now next

-- the setpoints continue the three admissibly, and the last three are equal
abbrev pub StopsByJerk : JerkLimits → ℤ → ℤ → ℤ → List ℤ → Type 0
StopsByJerk limits first before now [] = (first ≡ before) × (before ≡ now)
StopsByJerk limits first before now (next ∷ more) =
    IsAdmissibleByJerk limits first before now next × StopsByJerk limits before now next more

-- no setpoint is below the one before it
abbrev pub AllRise : ℤ → List ℤ → Type 0
AllRise now [] = Unit {0}
AllRise now (next ∷ more) = (now ≤ℤ next) × AllRise next more

-- no setpoint is above the one before it
abbrev pub AllFall : ℤ → List ℤ → Type 0
AllFall now [] = Unit {0}
AllFall now (next ∷ more) = (next ≤ℤ now) × AllFall next more

-- there is a finite list of setpoints that continues the three admissibly in their direction and
-- ends with the same setpoint three times
pub record IsStoppableByJerk (limits : JerkLimits) (first before now : ℤ) : Type 0 where
  pub setpoints : List ℤ
  pub stops : StopsByJerk limits first before now setpoints
  pub one_way : AllRise first (before ∷ now ∷ setpoints) ⊎ AllFall first (before ∷ now ∷ setpoints)

-- the three setpoints lie within the limits and can be stopped: what every cycle keeps
pub record IsKeptByJerk (limits : JerkLimits) (first before now : ℤ) : Type 0 where
  pub above : limits.axis.lo ≤ℤ now
  pub below : now ≤ℤ limits.axis.hi
  pub speed : pos (unsigned_abs (now -ℤ before)) ≤ℤ limits.axis.vmax
  pub follows : StepMayFollow limits.axis (before -ℤ first) (now -ℤ before)
  pub stoppable : IsStoppableByJerk limits first before now

-- the limits of step and of its changes as sizes
abbrev pub rates_of : JerkLimits → JerkRates
rates_of limits = record {
  v = unsigned_abs limits.axis.vmax;
  a = unsigned_abs limits.axis.amax;
  d = unsigned_abs limits.axis.dmax;
  j = unsigned_abs limits.jmax;
}

-- kept by numbers, upward: the motion is kept in the room up to hi
pub record IsKeptUp (limits : JerkLimits) (first before now : ℤ) : Type 0 where
  pub rises : first ≤ℤ before
  pub rises_on : before ≤ℤ now
  pub kept : IsKeptBy (rates_of limits) (unsigned_abs (limits.axis.hi -ℤ now))
      (unsigned_abs (before -ℤ first)) (unsigned_abs (now -ℤ before))

-- and downward, in the room down to lo
pub record IsKeptDown (limits : JerkLimits) (first before now : ℤ) : Type 0 where
  pub falls : before ≤ℤ first
  pub falls_on : now ≤ℤ before
  pub kept : IsKeptBy (rates_of limits) (unsigned_abs (now -ℤ limits.axis.lo))
      (unsigned_abs (first -ℤ before)) (unsigned_abs (before -ℤ now))

-- the setpoint `next` is admissible, and after it the axis is kept
pub record IsSafeByJerk (limits : JerkLimits) (first before now next : ℤ) : Type 0 where
  pub admissible : IsAdmissibleByJerk limits first before now next
  pub kept : IsKeptByJerk limits before now next

-- the step is safe, and no other safe step is nearer to the wanted one
pub record IsTakenByJerk (limits : JerkLimits) (first before now wanted step : ℤ) : Type 0 where
  pub safe : IsSafeByJerk limits first before now (now +ℤ step)
  pub nearest : (other : ℤ) → IsSafeByJerk limits first before now (now +ℤ other) →
      unsigned_abs (step -ℤ wanted) ≤ unsigned_abs (other -ℤ wanted)

-- some setpoint is safe
pub record HasSafeSetpoint (limits : JerkLimits) (first before now : ℤ) : Type 0 where
  pub setpoint : ℤ
  pub safe : IsSafeByJerk limits first before now setpoint
