-- What a move keeps by its own rates in the way to its target the limits keep in the room, so that
-- its step is the one taken.
-- for: moves_are_done, halts_are_done, velocities_are_done
use Rattle.std.proofs.Common.{◌≡◌, ℕ, ◌≤◌, ℤ, pos, neg_ℤ, ◌+ℤ◌, ◌-ℤ◌, ◌≤ℤ◌, ◌<ℤ◌, unsigned_abs, arith, refl}
use Rattle.std.proofs.lemmas.Int.{ints}
use Rattle.motion_numbers.specs.declared.TheConstants.{MOST_STEP}
use Rattle.motion_numbers.specs.Run.{cut_at_zero}
use Rattle.motion_numbers.proofs.Runs.{cut_is}
use Rattle.jerk_core.specs.declared.limits.JerkLimits.{JerkLimits}
use Rattle.jerk_core.specs.declared.rates.JerkRates.{JerkRates}
use Rattle.jerk_core.specs.declared.motions.Motion.{Motion}
use Rattle.jerk_core.specs.Rates.{AreJerkRates, AreRatesWithin, IsKeptBy, IsSafeBy}
use Rattle.jerk_core.specs.Admissible.{AreJerkLimits, IsKeptByJerk, rates_of}
use Rattle.jerk_core.specs.Taken.{IsSafeFrom, IsMotionUp, IsMotionDown}
use Rattle.jerk_core.specs.Taken.IsSafeFrom.{goes_on}
use Rattle.jerk_core.proofs.KeptMotions.{kept_by_more, safe_by_more}
use Rattle.jerk_core.proofs.Sides.{kept_by_motion_up, kept_by_motion_down, taken_up, taken_down}
use Rattle.jerk_plan.specs.Wanted.{IsMoveOf}
use Rattle.jerk_plan.specs.Wanted.IsSpeedOfMove.{moves}
use Rattle.jerk_plan.specs.Directed.{IsMoveStep}
use Rattle.jerk_plan.specs.Directed.IsMoveStep.{up, down}
use Rattle.otg.specs.declared.generator.Otg.{Otg}
use Rattle.otg.specs.Open.{IsOpen, IsStepOf, IsStepTaken, limits_of, rates_of_command, shifted_of}
use Rattle.otg.specs.Open.IsWantedStep.{by_move}
use Rattle.otg.specs.Own.{Rises, Falls, HasTargetAbove, HasTargetBelow, IsOwnMove}
use Rattle.otg.proofs.Opens.{jerk_limits_of, open_after, taken_safe, step_after}

-- what the own rates keep in less room the limits keep
pub more_kept : (own rates : JerkRates) (way room w v : ℕ) → AreJerkRates own → AreRatesWithin own rates → way ≤ room →
    IsKeptBy own way w v → IsKeptBy rates room w v
more_kept own rates way room w v ok within less kept =
    kept_by_more own.v own.a own.d own.j way rates.v rates.a rates.d rates.j room w v (omega (arith, ok.d_least)) (omega (arith, ok.j_least))
    within.v within.a within.d within.j less kept

-- and what is safe by them is safe
pub more_safe : (own rates : JerkRates) (way room w v x : ℕ) → AreJerkRates own → AreRatesWithin own rates → way ≤ room →
    IsSafeBy own way w v x → IsSafeBy rates room w v x
more_safe own rates way room w v x ok within less safe =
    safe_by_more own.v own.a own.d own.j way rates.v rates.a rates.d rates.j room w v x (omega (arith, ok.d_least)) (omega (arith, ok.j_least))
    within.v within.a within.d within.j less safe

-- the motion upward
unfoldable pub motion_up : (limits : JerkLimits) (first before now : ℤ) → Motion
motion_up limits first before now = record {
  ahead = unsigned_abs (limits.axis.hi -ℤ now);
  behind = unsigned_abs (now -ℤ limits.axis.lo);
  last = unsigned_abs (before -ℤ first);
  speed = unsigned_abs (now -ℤ before);
}

pub counts_up : (limits : JerkLimits) (first before now : ℤ) → first ≤ℤ before → before ≤ℤ now → limits.axis.lo ≤ℤ now → now ≤ℤ limits.axis.hi →
    IsMotionUp limits first before now (motion_up limits first before now)
unfolding motion_up
counts_up limits first before now rises on above below = record {
  last = omega (arith, ints);
  speed = omega (arith, ints);
  ahead = omega (arith, ints);
  behind = omega (arith, ints);
}

-- the step wanted by a move up
wanted_up : (rates : JerkRates) (distance last speed : ℤ) (x : ℕ) → pos 0 ≤ℤ distance → pos 0 ≤ℤ last → pos 0 ≤ℤ speed →
    IsMoveOf rates (unsigned_abs distance) (unsigned_abs last) (unsigned_abs speed) x → IsMoveStep rates distance last speed (pos x)
wanted_up rates distance last speed x toward rising forward move =
    let cut : cut_at_zero last ≡ unsigned_abs last = omega (arith, ints, cut_is last) in
    up x (record { wanted_up = toward; speed_up = forward }) refl (rw cut (moves move.kept move.speed))

-- such a generator is open, and the move's step is taken
pub record IsTakenOwn (otg : Otg) (step : ℤ) : Type 0 where
  pub opened : IsOpen otg
  pub taken : IsStepTaken otg step

pub own_up : (otg : Otg) (x : ℕ) → IsOwnMove otg → Rises otg → HasTargetAbove otg →
    IsMoveOf (rates_of_command otg) (unsigned_abs (otg.target -ℤ otg.current)) (unsigned_abs (otg.before -ℤ otg.first)) (unsigned_abs (otg.current -ℤ otg.before)) x →
    IsTakenOwn otg (pos x)
unfolding motion_up
own_up otg x own rises target move =
    let ok : AreJerkLimits (limits_of otg) = jerk_limits_of otg own.limits in
    let first : otg.first ≤ℤ otg.before = rises.first in
    let second : otg.before ≤ℤ otg.current = rises.second in
    let toward : otg.current ≤ℤ otg.target = target.toward in
    let within : otg.target ≤ℤ otg.hi = target.within in
    let below : otg.current ≤ℤ otg.hi = omega (arith, ints) in
    let less : unsigned_abs (otg.target -ℤ otg.current) ≤ unsigned_abs (otg.hi -ℤ otg.current) = omega (arith, ints) in
    let counts : IsMotionUp (limits_of otg) otg.first otg.before otg.current (motion_up (limits_of otg) otg.first otg.before otg.current) =
    counts_up (limits_of otg) otg.first otg.before otg.current first second target.above below in
    let kept_by : IsKeptBy (rates_of (limits_of otg)) (unsigned_abs (otg.hi -ℤ otg.current)) (unsigned_abs (otg.before -ℤ otg.first)) (unsigned_abs (otg.current -ℤ otg.before)) =
    more_kept (rates_of_command otg) (rates_of (limits_of otg)) _ _ _ _ own.command.rates own.rates less move.kept in
    let kept : IsKeptByJerk (limits_of otg) otg.first otg.before otg.current =
    kept_by_motion_up (limits_of otg) otg.first otg.before otg.current (motion_up (limits_of otg) otg.first otg.before otg.current) ok target.above below counts kept_by in
    let safe : IsSafeFrom (rates_of (limits_of otg)) (motion_up (limits_of otg) otg.first otg.before otg.current) (pos x) =
    goes_on x refl (more_safe (rates_of_command otg) (rates_of (limits_of otg)) _ _ _ _ x own.command.rates own.rates less move.speed.safe) in
    record {
      opened = record { limits = own.limits; command = own.command; kept = kept };
      taken = record {
        wanted = pos x;
        wants = by_move own.kind (wanted_up (rates_of_command otg) (otg.target -ℤ otg.current) (otg.before -ℤ otg.first) (otg.current -ℤ otg.before) x
            (omega (arith, ints)) (omega (arith, ints)) (omega (arith, ints)) move);
        taken = taken_up (limits_of otg) otg.first otg.before otg.current (pos x) (pos x) (motion_up (limits_of otg) otg.first otg.before otg.current) ok kept first second counts safe
            (λ other other_safe. omega (arith, ints));
      };
    }

-- the move of equal numbers
pub same_own : (own rates : JerkRates) (l w v l1 w1 v1 x : ℕ) → own ≡ rates → l ≡ l1 → w ≡ w1 → v ≡ v1 →
    IsMoveOf own l w v x → IsMoveOf rates l1 w1 v1 x
same_own own rates l w v l1 w1 v1 x same p q r move = rw (same, p, q, r) at move

-- the motion downward
unfoldable pub motion_down : (limits : JerkLimits) (first before now : ℤ) → Motion
motion_down limits first before now = record {
  ahead = unsigned_abs (now -ℤ limits.axis.lo);
  behind = unsigned_abs (limits.axis.hi -ℤ now);
  last = unsigned_abs (before -ℤ first);
  speed = unsigned_abs (now -ℤ before);
}

pub counts_down : (limits : JerkLimits) (first before now : ℤ) → before ≤ℤ first → now ≤ℤ before → limits.axis.lo ≤ℤ now → now ≤ℤ limits.axis.hi →
    IsMotionDown limits first before now (motion_down limits first before now)
unfolding motion_down
counts_down limits first before now falls on above below = record {
  last = omega (arith, ints);
  speed = omega (arith, ints);
  ahead = omega (arith, ints);
  behind = omega (arith, ints);
}

-- the step wanted by a move down
wanted_down : (rates : JerkRates) (distance last speed : ℤ) (x : ℕ) → distance ≤ℤ pos 0 → last ≤ℤ pos 0 → speed ≤ℤ pos 0 →
    (distance +ℤ speed) <ℤ pos 0 →
    IsMoveOf rates (unsigned_abs distance) (unsigned_abs last) (unsigned_abs speed) x → IsMoveStep rates distance last speed (neg_ℤ (pos x))
wanted_down rates distance last speed x toward falling backward some move =
    let cut : cut_at_zero (neg_ℤ last) ≡ unsigned_abs last = omega (arith, ints, cut_is (neg_ℤ last)) in
    down x (record { wanted_down = toward; speed_down = backward; some_down = omega (arith, ints) }) refl (rw cut (moves move.kept move.speed))

pub own_down : (otg : Otg) (x : ℕ) → IsOwnMove otg → Falls otg → HasTargetBelow otg →
    IsMoveOf (rates_of_command otg) (unsigned_abs (otg.target -ℤ otg.current)) (unsigned_abs (otg.before -ℤ otg.first)) (unsigned_abs (otg.current -ℤ otg.before)) x →
    IsTakenOwn otg (neg_ℤ (pos x))
unfolding motion_down
own_down otg x own falls target move =
    let ok : AreJerkLimits (limits_of otg) = jerk_limits_of otg own.limits in
    let first : otg.before ≤ℤ otg.first = falls.first in
    let second : otg.current ≤ℤ otg.before = falls.second in
    let some : otg.current <ℤ otg.first = falls.some in
    let toward : otg.target ≤ℤ otg.current = target.toward in
    let within : otg.lo ≤ℤ otg.target = target.within in
    let lower : otg.target <ℤ otg.before = target.some in
    let above : otg.lo ≤ℤ otg.current = omega (arith, ints) in
    let less : unsigned_abs (otg.target -ℤ otg.current) ≤ unsigned_abs (otg.current -ℤ otg.lo) = omega (arith, ints) in
    let counts : IsMotionDown (limits_of otg) otg.first otg.before otg.current (motion_down (limits_of otg) otg.first otg.before otg.current) =
    counts_down (limits_of otg) otg.first otg.before otg.current first second above target.below in
    let kept_by : IsKeptBy (rates_of (limits_of otg)) (unsigned_abs (otg.current -ℤ otg.lo)) (unsigned_abs (otg.before -ℤ otg.first)) (unsigned_abs (otg.current -ℤ otg.before)) =
    more_kept (rates_of_command otg) (rates_of (limits_of otg)) _ _ _ _ own.command.rates own.rates less move.kept in
    let kept : IsKeptByJerk (limits_of otg) otg.first otg.before otg.current =
    kept_by_motion_down (limits_of otg) otg.first otg.before otg.current (motion_down (limits_of otg) otg.first otg.before otg.current) ok above target.below counts kept_by in
    let safe : IsSafeFrom (rates_of (limits_of otg)) (motion_down (limits_of otg) otg.first otg.before otg.current) (pos x) =
    goes_on x refl (more_safe (rates_of_command otg) (rates_of (limits_of otg)) _ _ _ _ x own.command.rates own.rates less move.speed.safe) in
    record {
      opened = record { limits = own.limits; command = own.command; kept = kept };
      taken = record {
        wanted = neg_ℤ (pos x);
        wants = by_move own.kind (wanted_down (rates_of_command otg) (otg.target -ℤ otg.current) (otg.before -ℤ otg.first) (otg.current -ℤ otg.before) x
            (omega (arith, ints)) (omega (arith, ints)) (omega (arith, ints)) (omega (arith, ints)) move);
        taken = taken_down (limits_of otg) otg.first otg.before otg.current (neg_ℤ (pos x)) (pos x) (motion_down (limits_of otg) otg.first otg.before otg.current) ok kept
            (λ rises rises_on. omega (arith, ints)) counts safe (λ other other_safe. omega (arith, ints));
      };
    }

-- the step by the move's own rates is a step of the generator
pub record IsDoneOwn (before after : Otg) : Type 0 where
  pub opened : IsOpen before
  pub opens : IsOpen after
  pub step : IsStepOf before after

pub own_done : (before after : Otg) (step next : ℤ) → IsTakenOwn before step → next ≡ (before.current +ℤ step) → after ≡ shifted_of before next →
    IsDoneOwn before after
own_done before after step next own there is =
    let same : (next -ℤ before.current) ≡ step = omega (arith, ints) in
    let taken : IsStepTaken before (next -ℤ before.current) = rw same own.taken in
    record {
      opened = own.opened;
      opens = open_after before after next own.opened (taken_safe before next taken) is;
      step = step_after before after next taken is;
    }

-- its speed is a step
pub own_small : (otg : Otg) (l w v x : ℕ) → IsOwnMove otg → IsMoveOf (rates_of_command otg) l w v x → x ≤ 10000000000
own_small otg l w v x own move =
    let slow : x ≤ otg.v = move.speed.safe.after.kept.speed in
    let most : otg.v ≤ MOST_STEP = own.command.rates.v_most in
    omega arith
