-- What a generator that is open keeps through its calls.
-- for: moves_are_done, halts_are_done, velocities_are_done
use Rattle.std.proofs.Common.{inl, inr, ◌≡◌, ◌≢◌, ℕ, ◌*◌, ◌≤◌, ℤ, pos, ◌+ℤ◌, ◌-ℤ◌, ◌≤ℤ◌, unsigned_abs, Bool, true, false, nat_eq, if◌then◌else◌, arith, refl}
use Rattle.std.proofs.lemmas.Int.{ints, clamps}
use Rattle.std.proofs.lemmas.Bool.{cases_eq, cond-true, cond-false}
use Rattle.motion_numbers.specs.declared.TheConstants.{MOST_STEP, MOST_PLACE}
use Rattle.motion_numbers.specs.Ranges.{IsPlace, IsStep, IsWay}
use Rattle.kin_core.specs.Admissible.{least_step_after, greatest_step_after}
use Rattle.jerk_core.specs.declared.limits.JerkLimits.{JerkLimits}
use Rattle.jerk_core.specs.Admissible.{AreJerkLimits, IsSafeByJerk}
use Rattle.otg.specs.declared.generator.Otg.{Otg}
use Rattle.otg.specs.Open.{IsOpen, IsStepOf, IsStepTaken, AreLimitsOf, limits_of, shifted_of}

-- the limits of a generator are those of an axis
pub jerk_limits_of : (otg : Otg) → AreLimitsOf otg → AreJerkLimits (limits_of otg)
jerk_limits_of otg ok =
    let hi : IsPlace otg.hi = ok.places.hi_in_range in
    record {
      axis = record {
        lo_in_range = ok.places.lo_in_range;
        ordered = ok.places.ordered;
        hi_in_range = omega (arith, ints);
        vmax_positive = ok.slow.0;
        vmax_in_range = ok.slow.1;
        amax_positive = ok.gains.positive;
        amax_within_dmax = ok.gains.ordered;
        dmax_in_range = ok.gains.in_range;
      };
      jmax_least = ok.sharp.0;
      jmax_most = ok.sharp.1;
    }

-- what is open where a call did what was asked, and the same where it didn't, is open after it
pub open_either : (r : ℕ) (before after : Otg) → (r ≡ 0 → IsOpen after) → (r ≢ 0 → after ≡ before) → IsOpen before → IsOpen after
open_either r before after done same was =
    elim (cases_eq r 0) [
      | inl ok ↦ done ok
      | inr bad ↦ rw (same bad) was
    ]

-- one safe setpoint on, a generator is open
pub open_after : (before after : Otg) (next : ℤ) → IsOpen before → IsSafeByJerk (limits_of before) before.first before.before before.current next →
    after ≡ shifted_of before next → IsOpen after
open_after before after next was safe is =
    rw is (record {
      limits = record { places = was.limits.places; slow = was.limits.slow; gains = was.limits.gains; sharp = was.limits.sharp };
      command = record { rates = was.command.rates; target = was.command.target };
      kept = safe.kept;
    })

-- the setpoint that the taken step leads to is safe
pub taken_safe : (otg : Otg) (next : ℤ) → IsStepTaken otg (next -ℤ otg.current) →
    IsSafeByJerk (limits_of otg) otg.first otg.before otg.current next
taken_safe otg next step = safe_at (limits_of otg) otg.first otg.before otg.current (otg.current +ℤ (next -ℤ otg.current)) next (omega (arith, ints)) step.taken.safe
  where
    safe_at : (limits : JerkLimits) (first before now next same : ℤ) → same ≡ next → IsSafeByJerk limits first before now next → IsSafeByJerk limits first before now same
    safe_at limits first before now next same is safe = rw is safe

-- and has made a step
pub step_after : (before after : Otg) (next : ℤ) → IsStepTaken before (next -ℤ before.current) →
    after ≡ shifted_of before next → IsStepOf before after
step_after before after next step is = rw is (record { taken = step; admissible = (taken_safe before next step).admissible; same = refl })

-- the setpoint is in the range of places
pub current_place : (otg : Otg) → IsOpen otg → IsPlace otg.current
current_place otg is =
    let most : IsPlace otg.hi = is.limits.places.hi_in_range in
    let least : IsPlace otg.lo = is.limits.places.lo_in_range in
    let above : otg.lo ≤ℤ otg.current = is.kept.above in
    let below : otg.current ≤ℤ otg.hi = is.kept.below in
    omega (arith, ints)

-- so is the target
pub target_place : (otg : Otg) → IsOpen otg → IsPlace otg.target
target_place otg is = by_kind (nat_eq otg.kind 2) refl is.command.target
  where
    by_kind : (b : Bool) → nat_eq otg.kind 2 ≡ b → unsigned_abs otg.target ≤ (if nat_eq otg.kind 2 then MOST_STEP else MOST_PLACE) → IsPlace otg.target
    by_kind true is_2 target = let most : unsigned_abs otg.target ≤ MOST_STEP = rw (cond-true (nat_eq otg.kind 2) MOST_STEP MOST_PLACE is_2) at target in omega arith
    by_kind false not_2 target = rw (cond-false (nat_eq otg.kind 2) MOST_STEP MOST_PLACE not_2) at target

-- a wanted velocity is a step
pub target_step : (otg : Otg) → IsOpen otg → nat_eq otg.kind 2 ≡ true → IsStep otg.target
target_step otg is is_2 = rw (cond-true (nat_eq otg.kind 2) MOST_STEP MOST_PLACE is_2) at is.command.target

-- the way to the target is one
pub distance_way : (otg : Otg) → IsOpen otg → IsWay (otg.target -ℤ otg.current)
distance_way otg is =
    let from : IsPlace otg.current = current_place otg is in
    let to : IsPlace otg.target = target_place otg is in
    omega (arith, ints)

-- this step is one
pub this_within : (otg : Otg) → IsOpen otg → IsStep (otg.current -ℤ otg.before)
this_within otg is =
    let slow : pos (unsigned_abs (otg.current -ℤ otg.before)) ≤ℤ otg.vmax = is.kept.speed in
    let most : otg.vmax ≤ℤ pos MOST_STEP = is.limits.slow.1 in
    omega (arith, ints)

-- the last step is at most twice the greatest
pub last_within : (otg : Otg) → IsOpen otg → unsigned_abs (otg.before -ℤ otg.first) ≤ 2 * MOST_STEP
last_within otg is =
    let slow : pos (unsigned_abs (otg.current -ℤ otg.before)) ≤ℤ otg.vmax = is.kept.speed in
    let falls : least_step_after (limits_of otg).axis (otg.before -ℤ otg.first) ≤ℤ (otg.current -ℤ otg.before) = is.kept.follows.0 in
    let rises : (otg.current -ℤ otg.before) ≤ℤ greatest_step_after (limits_of otg).axis (otg.before -ℤ otg.first) = is.kept.follows.1 in
    let most : otg.vmax ≤ℤ pos MOST_STEP = is.limits.slow.1 in
    let hard : otg.dmax ≤ℤ pos MOST_STEP = is.limits.gains.in_range in
    omega (arith, ints, clamps)
