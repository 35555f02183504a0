-- What an axis keeps whose setpoints follow a path.
-- for: leads_its_axes, steps_along_a_path_are_safe
use Rattle.std.proofs.Common.{◌≡◌, ap, arith, ℤ, pos, ◌-ℤ◌, ◌≤ℤ◌, unsigned_abs, List, [], ◌∷◌, map}
use Rattle.std.proofs.lemmas.Int.{ints, clamps}
use Rattle.plc_types.specs.declared.limits.Limits.{Limits}
use Rattle.kin_core.specs.Admissible.{IsAdmissible, StopsBy, IsStoppable, IsSafe, IsKept}
use Rattle.linear_path.specs.Path.{AreWithin, IsBetween}

-- the places of an axis keep its limits where the path's places keep the path's
pub record Follows (path axis : Limits) (place : ℤ → ℤ) : Type 0 where
  pub admissible : (before now next : ℤ) → path.lo ≤ℤ before → before ≤ℤ path.hi → path.lo ≤ℤ now →
      now ≤ℤ path.hi → IsAdmissible path before now next →
      IsAdmissible axis (place before) (place now) (place next)
  pub speed : (before now : ℤ) → path.lo ≤ℤ before → before ≤ℤ path.hi → path.lo ≤ℤ now →
      now ≤ℤ path.hi → pos (unsigned_abs (now -ℤ before)) ≤ℤ path.vmax →
      pos (unsigned_abs (place now -ℤ place before)) ≤ℤ axis.vmax
  pub within : (s : ℤ) → path.lo ≤ℤ s → s ≤ℤ path.hi → (axis.lo ≤ℤ place s) × (place s ≤ℤ axis.hi)

stops_along : (path axis : Limits) (place : ℤ → ℤ) (before now : ℤ) (setpoints : List ℤ) →
    Follows path axis place → path.lo ≤ℤ before → before ≤ℤ path.hi → path.lo ≤ℤ now →
    now ≤ℤ path.hi → StopsBy path before now setpoints →
    StopsBy axis (place before) (place now) (map place setpoints)
stops_along path axis place before now [] follows b0 b1 n0 n1 stops = stops
stops_along path axis place before now (next ∷ []) follows b0 b1 n0 n1 stops =
    (follows.admissible before now next b0 b1 n0 n1 stops.0, ap place stops.1)
stops_along path axis place before now (next ∷ later ∷ more) follows b0 b1 n0 n1 stops = (
  follows.admissible before now next b0 b1 n0 n1 stops.0,
  stops_along path axis place now next
      (later ∷ more) follows n0 n1 stops.0.above stops.0.below stops.1,
)

-- a pair of places that can be stopped gives a pair of setpoints that can
pub stoppable_along : (path axis : Limits) (place : ℤ → ℤ) (before now : ℤ) →
    Follows path axis place → path.lo ≤ℤ before → before ≤ℤ path.hi → path.lo ≤ℤ now →
    now ≤ℤ path.hi → IsStoppable path before now → IsStoppable axis (place before) (place now)
stoppable_along path axis place before now follows b0 b1 n0 n1 stoppable =
    record {
      setpoints = map place stoppable.setpoints;
      stops = stops_along path axis place before now stoppable.setpoints follows b0 b1 n0 n1
          stoppable.stops;
    }

-- a kept pair of places gives a kept pair of setpoints
pub kept_along : (path axis : Limits) (place : ℤ → ℤ) (before now : ℤ) → Follows path axis place →
    path.lo ≤ℤ before → before ≤ℤ path.hi → IsKept path before now →
    IsKept axis (place before) (place now)
kept_along path axis place before now follows b0 b1 kept =
    record {
      above = (follows.within now kept.above kept.below).0;
      below = (follows.within now kept.above kept.below).1;
      speed = follows.speed before now b0 b1 kept.above kept.below kept.speed;
      stoppable = stoppable_along path axis place before now follows b0 b1 kept.above kept.below
          kept.stoppable;
    }

-- and a safe place a safe setpoint
pub safe_along : (path axis : Limits) (place : ℤ → ℤ) (before now next : ℤ) →
    Follows path axis place → path.lo ≤ℤ before → before ≤ℤ path.hi → path.lo ≤ℤ now →
    now ≤ℤ path.hi → IsSafe path before now next →
    IsSafe axis (place before) (place now) (place next)
safe_along path axis place before now next follows b0 b1 n0 n1 safe =
    record {
      admissible = follows.admissible before now next b0 b1 n0 n1 safe.admissible;
      stoppable = stoppable_along path axis place now next follows n0 n1 safe.admissible.above
          safe.admissible.below safe.stoppable;
    }

-- a place between a start and a target that lie within limits does so too
pub between_within : (limits : Limits) (start target z : ℤ) → AreWithin limits start target →
    IsBetween start target z → (limits.lo ≤ℤ z) × (z ≤ℤ limits.hi)
between_within limits start target z ends between =
    (omega (arith, ints, clamps), omega (arith, ints, clamps))

-- the path's ends, by other names of them
pub above_from : (lo z : ℤ) → lo ≡ pos 0 → lo ≤ℤ z → pos 0 ≤ℤ z
above_from lo z is above = rw (← is) above

pub below_to : (hi length z : ℤ) → hi ≡ length → z ≤ℤ hi → z ≤ℤ length
below_to hi length z is below = rw (← is) below

pub from_above : (lo z : ℤ) → lo ≡ pos 0 → pos 0 ≤ℤ z → lo ≤ℤ z
from_above lo z is above = rw is above

pub to_below : (hi length z : ℤ) → hi ≡ length → z ≤ℤ length → z ≤ℤ hi
to_below hi length z is below = rw is below
