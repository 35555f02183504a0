-- Kept is stoppable, by numbers and by lists; and what is kept with limited jerk is kept without.
-- for: is_kept_counted, kept_is_stoppable, kept_motions_go_on and others
use Rattle.std.proofs.Common.{inl, inr, ◌≡◌, ◌⊎◌, ℕ, ◌+◌, ◌≤◌, ℤ, pos, ◌-ℤ◌, ◌≤ℤ◌, unsigned_abs, List, [], ◌∷◌, arith, refl}
use Rattle.std.proofs.lemmas.Int.{ints, clamps}
use Rattle.plc_types.specs.Limits.{AreLimits}
use Rattle.kin_core.specs.Admissible.{IsStoppable, IsKept, StepMayFollow, least_step_after, greatest_step_after}
use Rattle.kin_core.proofs.Stops.{stoppable_after}
use Rattle.jerk_core.specs.declared.limits.JerkLimits.{JerkLimits}
use Rattle.jerk_core.specs.Admissible.{AreJerkLimits, StopsByJerk, AllRise, AllFall, IsStoppableByJerk, IsKeptByJerk, IsKeptUp, IsKeptDown}
use Rattle.jerk_core.proofs.Directions.{IsUp, StopsUp, stops_up, kept_of_stops_up, IsDown, StopsDown, stops_down, kept_of_stops_down}

-- any number is at most itself
le_refl : {n : ℕ} → n ≤ n
le_refl {n} = omega arith

-- where a motion upward is, by its three setpoints
pub sizes_up : (limits : JerkLimits) (first before now : ℤ) → first ≤ℤ before → before ≤ℤ now → limits.axis.lo ≤ℤ now → now ≤ℤ limits.axis.hi →
    IsUp limits first before now (unsigned_abs (limits.axis.hi -ℤ now)) (unsigned_abs (before -ℤ first)) (unsigned_abs (now -ℤ before))
sizes_up limits first before now rises on above below = record {
  last = omega (arith, ints);
  speed = omega (arith, ints);
  room_is = omega (arith, ints);
  other = above;
}

-- a motion that is kept upward can be stopped
pub stoppable_up : (limits : JerkLimits) (first before now : ℤ) → AreJerkLimits limits → limits.axis.lo ≤ℤ now → now ≤ℤ limits.axis.hi →
    IsKeptUp limits first before now → IsStoppableByJerk limits first before now
stoppable_up limits first before now ok above below kept =
    let stops : StopsUp limits first before now = stops_up _ limits first before now _ _ _ ok
    (sizes_up limits first before now kept.rises kept.rises_on above below) kept.kept le_refl in
    record {
      setpoints = stops.setpoints;
      stops = stops.stops;
      one_way = inl (kept.rises, (kept.rises_on, stops.rises));
    }

-- it keeps the limits of step
follows_up : (limits : JerkLimits) (first before now : ℤ) → AreJerkLimits limits → IsKeptUp limits first before now →
    StepMayFollow limits.axis (before -ℤ first) (now -ℤ before)
follows_up limits first before now ok kept =
    let axis : AreLimits limits.axis = ok.axis in
    let rises : first ≤ℤ before = kept.rises in
    let on : before ≤ℤ now = kept.rises_on in
    let gains : unsigned_abs (now -ℤ before) ≤ unsigned_abs (before -ℤ first) + unsigned_abs limits.axis.amax = kept.kept.gains in
    let loses : unsigned_abs (before -ℤ first) ≤ unsigned_abs (now -ℤ before) + unsigned_abs limits.axis.dmax = kept.kept.loses in
    (omega (arith, ints, clamps), omega (arith, ints, clamps))

slow_up : (limits : JerkLimits) (first before now : ℤ) → AreJerkLimits limits → IsKeptUp limits first before now →
    pos (unsigned_abs (now -ℤ before)) ≤ℤ limits.axis.vmax
slow_up limits first before now ok kept =
    let axis : AreLimits limits.axis = ok.axis in
    let on : before ≤ℤ now = kept.rises_on in
    let slow : unsigned_abs (now -ℤ before) ≤ unsigned_abs limits.axis.vmax = kept.kept.speed in
    omega (arith, ints)

-- so a motion that is kept upward is kept
pub kept_of_up : (limits : JerkLimits) (first before now : ℤ) → AreJerkLimits limits → limits.axis.lo ≤ℤ now → now ≤ℤ limits.axis.hi →
    IsKeptUp limits first before now → IsKeptByJerk limits first before now
kept_of_up limits first before now ok above below kept = record {
  above = above;
  below = below;
  speed = slow_up limits first before now ok kept;
  follows = follows_up limits first before now ok kept;
  stoppable = stoppable_up limits first before now ok above below kept;
}

-- and one that stops without falling is kept upward
up_of_stops : (limits : JerkLimits) (first before now : ℤ) (setpoints : List ℤ) → AreJerkLimits limits → IsKeptByJerk limits first before now →
    StopsByJerk limits first before now setpoints → AllRise first (before ∷ now ∷ setpoints) → IsKeptUp limits first before now
up_of_stops limits first before now setpoints ok kept stops rise =
    let axis : AreLimits limits.axis = ok.axis in
    let rises : first ≤ℤ before = rise.0 in
    let on : before ≤ℤ now = rise.1.0 in
    let slow : pos (unsigned_abs (now -ℤ before)) ≤ℤ limits.axis.vmax = kept.speed in
    let falls : least_step_after limits.axis (before -ℤ first) ≤ℤ (now -ℤ before) = kept.follows.0 in
    let gains : (now -ℤ before) ≤ℤ greatest_step_after limits.axis (before -ℤ first) = kept.follows.1 in
    record {
      rises = rises;
      rises_on = on;
      kept = kept_of_stops_up limits first before now _ _ _ setpoints ok
          (sizes_up limits first before now rises on kept.above kept.below)
          (omega (arith, ints)) (omega (arith, ints, clamps)) (omega (arith, ints, clamps)) stops rise.1.1;
    }

-- where a motion downward is, by its three setpoints
pub sizes_down : (limits : JerkLimits) (first before now : ℤ) → before ≤ℤ first → now ≤ℤ before → limits.axis.lo ≤ℤ now → now ≤ℤ limits.axis.hi →
    IsDown limits first before now (unsigned_abs (now -ℤ limits.axis.lo)) (unsigned_abs (first -ℤ before)) (unsigned_abs (before -ℤ now))
sizes_down limits first before now rises on above below = record {
  last = omega (arith, ints);
  speed = omega (arith, ints);
  room_is = omega (arith, ints);
  other = below;
}

-- a motion that is kept downward can be stopped
pub stoppable_down : (limits : JerkLimits) (first before now : ℤ) → AreJerkLimits limits → limits.axis.lo ≤ℤ now → now ≤ℤ limits.axis.hi →
    IsKeptDown limits first before now → IsStoppableByJerk limits first before now
stoppable_down limits first before now ok above below kept =
    let stops : StopsDown limits first before now = stops_down _ limits first before now _ _ _ ok
    (sizes_down limits first before now kept.falls kept.falls_on above below) kept.kept le_refl in
    record {
      setpoints = stops.setpoints;
      stops = stops.stops;
      one_way = inr (kept.falls, (kept.falls_on, stops.rises));
    }

-- it keeps the limits of step
follows_down : (limits : JerkLimits) (first before now : ℤ) → AreJerkLimits limits → IsKeptDown limits first before now →
    StepMayFollow limits.axis (before -ℤ first) (now -ℤ before)
follows_down limits first before now ok kept =
    let axis : AreLimits limits.axis = ok.axis in
    let rises : before ≤ℤ first = kept.falls in
    let on : now ≤ℤ before = kept.falls_on in
    let gains : unsigned_abs (before -ℤ now) ≤ unsigned_abs (first -ℤ before) + unsigned_abs limits.axis.amax = kept.kept.gains in
    let loses : unsigned_abs (first -ℤ before) ≤ unsigned_abs (before -ℤ now) + unsigned_abs limits.axis.dmax = kept.kept.loses in
    (omega (arith, ints, clamps), omega (arith, ints, clamps))

slow_down : (limits : JerkLimits) (first before now : ℤ) → AreJerkLimits limits → IsKeptDown limits first before now →
    pos (unsigned_abs (now -ℤ before)) ≤ℤ limits.axis.vmax
slow_down limits first before now ok kept =
    let axis : AreLimits limits.axis = ok.axis in
    let on : now ≤ℤ before = kept.falls_on in
    let slow : unsigned_abs (before -ℤ now) ≤ unsigned_abs limits.axis.vmax = kept.kept.speed in
    omega (arith, ints)

-- so a motion that is kept downward is kept
pub kept_of_down : (limits : JerkLimits) (first before now : ℤ) → AreJerkLimits limits → limits.axis.lo ≤ℤ now → now ≤ℤ limits.axis.hi →
    IsKeptDown limits first before now → IsKeptByJerk limits first before now
kept_of_down limits first before now ok above below kept = record {
  above = above;
  below = below;
  speed = slow_down limits first before now ok kept;
  follows = follows_down limits first before now ok kept;
  stoppable = stoppable_down limits first before now ok above below kept;
}

-- and one that stops without rising is kept downward
down_of_stops : (limits : JerkLimits) (first before now : ℤ) (setpoints : List ℤ) → AreJerkLimits limits → IsKeptByJerk limits first before now →
    StopsByJerk limits first before now setpoints → AllFall first (before ∷ now ∷ setpoints) → IsKeptDown limits first before now
down_of_stops limits first before now setpoints ok kept stops rise =
    let axis : AreLimits limits.axis = ok.axis in
    let rises : before ≤ℤ first = rise.0 in
    let on : now ≤ℤ before = rise.1.0 in
    let slow : pos (unsigned_abs (now -ℤ before)) ≤ℤ limits.axis.vmax = kept.speed in
    let falls : least_step_after limits.axis (before -ℤ first) ≤ℤ (now -ℤ before) = kept.follows.0 in
    let gains : (now -ℤ before) ≤ℤ greatest_step_after limits.axis (before -ℤ first) = kept.follows.1 in
    record {
      falls = rises;
      falls_on = on;
      kept = kept_of_stops_down limits first before now _ _ _ setpoints ok
          (sizes_down limits first before now rises on kept.above kept.below)
          (omega (arith, ints)) (omega (arith, ints, clamps)) (omega (arith, ints, clamps)) stops rise.1.1;
    }

-- a kept motion is kept upward or downward
pub ways_of_kept : (limits : JerkLimits) (first before now : ℤ) → AreJerkLimits limits → IsKeptByJerk limits first before now →
    IsKeptUp limits first before now ⊎ IsKeptDown limits first before now
ways_of_kept limits first before now ok kept = by_way kept.stoppable.one_way
  where
    by_way : AllRise first (before ∷ now ∷ kept.stoppable.setpoints) ⊎ AllFall first (before ∷ now ∷ kept.stoppable.setpoints) →
        IsKeptUp limits first before now ⊎ IsKeptDown limits first before now
    by_way (inl rise) = inl (up_of_stops limits first before now kept.stoppable.setpoints ok kept kept.stoppable.stops rise)
    by_way (inr fall) = inr (down_of_stops limits first before now kept.stoppable.setpoints ok kept kept.stoppable.stops fall)

-- and one that is kept upward or downward is kept
pub kept_of_ways : (limits : JerkLimits) (first before now : ℤ) → AreJerkLimits limits → limits.axis.lo ≤ℤ now → now ≤ℤ limits.axis.hi →
    IsKeptUp limits first before now ⊎ IsKeptDown limits first before now → IsKeptByJerk limits first before now
kept_of_ways limits first before now ok above below (inl up) = kept_of_up limits first before now ok above below up
kept_of_ways limits first before now ok above below (inr down) = kept_of_down limits first before now ok above below down

-- a list that stops with limited jerk stops without
stops_plain : (limits : JerkLimits) (first before now : ℤ) (setpoints : List ℤ) → AreJerkLimits limits →
    limits.axis.lo ≤ℤ now → now ≤ℤ limits.axis.hi → StopsByJerk limits first before now setpoints → IsStoppable limits.axis before now
stops_plain limits first before now [] ok above below stops =
    let axis : AreLimits limits.axis = ok.axis in
    let still : before ≡ now = stops.1 in
    record {
      setpoints = now ∷ [];
      stops = (
        record {
          above = above;
          below = below;
          speed = omega (arith, ints);
          falls = omega (arith, ints, clamps);
          rises = omega (arith, ints, clamps);
        },
        refl,
      );
    }
stops_plain limits first before now (next ∷ more) ok above below stops =
    stoppable_after limits.axis before now next stops.0.admissible
    (stops_plain limits before now next more ok stops.0.admissible.above stops.0.admissible.below stops.1)

-- so what is kept with limited jerk is kept without
pub kept_plain : (limits : JerkLimits) (first before now : ℤ) → AreJerkLimits limits → IsKeptByJerk limits first before now → IsKept limits.axis before now
kept_plain limits first before now ok kept = record {
  above = kept.above;
  below = kept.below;
  speed = kept.speed;
  stoppable = stops_plain limits first before now kept.stoppable.setpoints ok kept.above kept.below kept.stoppable.stops;
}
