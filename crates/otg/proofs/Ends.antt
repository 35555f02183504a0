-- Runs of halts and velocities: each step that they want is safe, so that it is the one taken, and
-- the runs end where their speeds do.
-- for: halts_are_done, velocities_are_done
use Rattle.std.proofs.Common.{inl, inr, ◌≡◌, ◌≢◌, ◌⊎◌, ℕ, ◌+◌, ◌-◌, ◌*◌, ◌<◌, ◌≤◌, zero, suc, ℤ, pos, neg_ℤ, ◌+ℤ◌, ◌-ℤ◌, ◌≤ℤ◌, unsigned_abs, arith, refl, ap, ◌∙◌}
use Rattle.std.proofs.lemmas.Int.{ints, by_lt_z}
use Rattle.std.proofs.lemmas.Nat.{mul-le}
use Rattle.motion_numbers.specs.Run.{cut_at_zero, reach_of}
use Rattle.motion_numbers.proofs.Runs.{cut_is}
use Rattle.jerk_core.specs.declared.rates.JerkRates.{JerkRates}
use Rattle.jerk_core.specs.Braking.{IsKeptAhead}
use Rattle.jerk_core.specs.Rates.{AreJerkRates, AreRatesWithin, IsKeptBy, IsSafeBy}
use Rattle.jerk_core.specs.Admissible.{IsSafeByJerk, rates_of}
use Rattle.jerk_core.specs.Taken.IsSafeFrom.{goes_on}
use Rattle.jerk_core.proofs.Brakes.{reach_within}
use Rattle.jerk_core.proofs.KeptMotions.{braked_safe}
use Rattle.jerk_core.proofs.Sides.{safe_of_from_up, safe_of_from_down, kept_motion_up, kept_motion_down, Falls, falls_else}
use Rattle.jerk_plan.specs.Wanted.{slowed_of, velocity_of, halted_of, velocity_after}
use Rattle.jerk_plan.specs.Directed.{IsHaltStep, IsVelocityStep}
use Rattle.jerk_plan.specs.Directed.IsHaltStep.{up, down}
use Rattle.jerk_plan.specs.Directed.IsVelocityStep.{up as goes_up, down as goes_down, slows as goes_slow}
use Rattle.jerk_plan.proofs.Headings.{down_of}
use Rattle.jerk_plan.proofs.Halts.{slowed_brakes, halts_by_rates}
use Rattle.jerk_plan.proofs.Velocities.{velocity_below}
use Rattle.jerk_plan.proofs.Differences.{velocity_safe, velocity_by_rates}
use Rattle.otg.specs.declared.generator.Otg.{Otg}
use Rattle.otg.specs.Open.{IsOpen, IsStepTaken, IsWantedStep, limits_of, rates_of_command, shifted_of}
use Rattle.otg.specs.Open.IsWantedStep.{by_move, by_velocity, by_halt}
use Rattle.otg.specs.Runs.{IsRun, IsAtRest, RisesBy, FallsBy, IsHalt, IsHaltByLimits, IsVelocity, IsVelocityUp, IsVelocityDown, HasRoomAbove, HasRoomBelow}
use Rattle.otg.specs.Runs.{halt_rates_of, velocity_rates_of, next_speed_of, last_of, speed_of}
use Rattle.otg.proofs.Opens.{jerk_limits_of, open_after, taken_safe}
use Rattle.otg.proofs.OwnMoves.{motion_up, counts_up, motion_down, counts_down, more_kept, more_safe}
use Rattle.otg.proofs.Runs.{slowed_none, wanted_taken, safe_at, kept_at}

-- the rates of a halt are in their ranges
halt_rates_ok : (otg : Otg) → IsOpen otg → AreJerkRates (halt_rates_of otg)
halt_rates_ok otg is = record {
  v_least = omega (arith, ints, is.limits.slow.0);
  v_most = omega (arith, ints, is.limits.slow.0, is.limits.slow.1);
  a_least = omega (arith, ints, is.limits.gains.positive);
  a_most = omega (arith, ints, is.limits.gains.positive, is.limits.gains.ordered, is.limits.gains.in_range);
  d_least = is.command.rates.d_least;
  d_most = is.command.rates.d_most;
  j_least = is.command.rates.j_least;
  j_most = is.command.rates.j_most;
}

-- and those of a velocity
velocity_rates_ok : (otg : Otg) → IsOpen otg → AreJerkRates (velocity_rates_of otg)
velocity_rates_ok otg is = record {
  v_least = omega (arith, ints, is.limits.slow.0);
  v_most = omega (arith, ints, is.limits.slow.0, is.limits.slow.1);
  a_least = is.command.rates.a_least;
  a_most = is.command.rates.a_most;
  d_least = is.command.rates.d_least;
  d_most = is.command.rates.d_most;
  j_least = is.command.rates.j_least;
  j_most = is.command.rates.j_most;
}

-- a safe speed of a motion up is safe by the limits
safe_up_by : (otg : Otg) (own : JerkRates) (x : ℕ) → IsOpen otg → AreJerkRates own → AreRatesWithin own (rates_of (limits_of otg)) → RisesBy own otg →
    IsSafeBy own (unsigned_abs (otg.hi -ℤ otg.current)) (last_of otg) (speed_of otg) x →
    IsSafeByJerk (limits_of otg) otg.first otg.before otg.current (otg.current +ℤ pos x)
unfolding motion_up
safe_up_by otg own x opened ok within rises safe =
    safe_of_from_up (limits_of otg) otg.first otg.before otg.current (pos x) (motion_up (limits_of otg) otg.first otg.before otg.current) (jerk_limits_of otg opened.limits)
    (counts_up (limits_of otg) otg.first otg.before otg.current rises.rises.first rises.rises.second opened.kept.above opened.kept.below)
    (more_kept own (rates_of (limits_of otg)) _ _ _ _ ok within (omega arith) rises.kept)
    (goes_on x refl (more_safe own (rates_of (limits_of otg)) _ _ _ _ x ok within (omega arith) safe))

-- and one of a motion down
safe_down_by : (otg : Otg) (own : JerkRates) (x : ℕ) → IsOpen otg → AreJerkRates own → AreRatesWithin own (rates_of (limits_of otg)) → FallsBy own otg →
    IsSafeBy own (unsigned_abs (otg.current -ℤ otg.lo)) (last_of otg) (speed_of otg) x →
    IsSafeByJerk (limits_of otg) otg.first otg.before otg.current (otg.current +ℤ neg_ℤ (pos x))
unfolding motion_down
safe_down_by otg own x opened ok within falls safe =
    safe_at (limits_of otg) otg.first otg.before otg.current (otg.current -ℤ pos x) (otg.current +ℤ neg_ℤ (pos x)) (omega (arith, ints))
    (safe_of_from_down (limits_of otg) otg.first otg.before otg.current (pos x) (motion_down (limits_of otg) otg.first otg.before otg.current) (jerk_limits_of otg opened.limits)
    (counts_down (limits_of otg) otg.first otg.before otg.current falls.first falls.second opened.kept.above opened.kept.below)
    (more_kept own (rates_of (limits_of otg)) _ _ _ _ ok within (omega arith) falls.kept)
    (goes_on x refl (more_safe own (rates_of (limits_of otg)) _ _ _ _ x ok within (omega arith) safe)))

-- what a step up leaves
record IsOnUp (own : JerkRates) (otg : Otg) (c : ℤ) (x : ℕ) : Type 0 where
  rises : RisesBy own (shifted_of otg c)
  now : speed_of (shifted_of otg c) ≡ x

on_up : (otg : Otg) (own : JerkRates) (c : ℤ) (x : ℕ) → IsOpen otg → RisesBy own otg →
    IsSafeBy own (unsigned_abs (otg.hi -ℤ otg.current)) (last_of otg) (speed_of otg) x → c ≡ (otg.current +ℤ pos x) → IsOnUp own otg c x
on_up otg own c x opened rises safe is =
    let second : otg.before ≤ℤ otg.current = rises.rises.second in
    let below : otg.current ≤ℤ otg.hi = opened.kept.below in
    let within : x ≤ unsigned_abs (otg.hi -ℤ otg.current) = safe.after.within in
    let way : unsigned_abs (otg.hi -ℤ c) ≡ unsigned_abs (otg.hi -ℤ otg.current) - x = omega (arith, ints) in
    let now : unsigned_abs (c -ℤ otg.current) ≡ x = omega (arith, ints) in
    record {
      rises = record {
        rises = record { first = second; second = omega (arith, ints) };
        kept = kept_at own _ _ _ _ _ _ way refl now safe.after.kept;
      };
      now = now;
    }

-- and what a step down does
record IsOnDown (own : JerkRates) (otg : Otg) (c : ℤ) (x : ℕ) : Type 0 where
  falls : FallsBy own (shifted_of otg c)
  now : speed_of (shifted_of otg c) ≡ x

on_down : (otg : Otg) (own : JerkRates) (c : ℤ) (x : ℕ) → IsOpen otg → FallsBy own otg →
    IsSafeBy own (unsigned_abs (otg.current -ℤ otg.lo)) (last_of otg) (speed_of otg) x → c ≡ (otg.current +ℤ neg_ℤ (pos x)) → IsOnDown own otg c x
on_down otg own c x opened falls safe is =
    let second : otg.current ≤ℤ otg.before = falls.second in
    let above : otg.lo ≤ℤ otg.current = opened.kept.above in
    let within : x ≤ unsigned_abs (otg.current -ℤ otg.lo) = safe.after.within in
    let way : unsigned_abs (c -ℤ otg.lo) ≡ unsigned_abs (otg.current -ℤ otg.lo) - x = omega (arith, ints) in
    let now : unsigned_abs (c -ℤ otg.current) ≡ x = omega (arith, ints) in
    record {
      falls = record {
        first = second;
        second = omega (arith, ints);
        kept = kept_at own _ _ _ _ _ _ way refl now safe.after.kept;
      };
      now = now;
    }

-- the step that a halt wants
halt_wanted : (otg : Otg) (step : ℤ) → otg.kind ≢ 1 → otg.kind ≢ 2 → IsWantedStep otg step →
    IsHaltStep (rates_of_command otg) (otg.before -ℤ otg.first) (otg.current -ℤ otg.before) step
halt_wanted otg step not_move not_velocity (by_move is wants) = absurd (not_move is)
halt_wanted otg step not_move not_velocity (by_velocity is wants) = absurd (not_velocity is)
halt_wanted otg step not_move not_velocity (by_halt no_move no_velocity wants) = wants

halt_step_up : (rates : JerkRates) (last speed step : ℤ) → pos 0 ≤ℤ last → pos 0 ≤ℤ speed → IsHaltStep rates last speed step →
    step ≡ pos (slowed_of rates (unsigned_abs last) (unsigned_abs speed))
halt_step_up rates last speed step rising forward (up heads is) =
    let cut : cut_at_zero last ≡ unsigned_abs last = omega (arith, ints, cut_is last) in
    rw cut at is
halt_step_up rates last speed step rising forward (down heads is) = absurd (omega (arith, ints))

halt_step_down : (rates : JerkRates) (last speed step : ℤ) → last ≤ℤ pos 0 → speed ≤ℤ pos 0 → IsHaltStep rates last speed step →
    step ≡ neg_ℤ (pos (slowed_of rates (unsigned_abs last) (unsigned_abs speed)))
halt_step_down rates last speed step falling backward (up heads is) =
    let still : unsigned_abs speed ≡ 0 = omega (arith, ints) in
    let stands : step ≡ pos (slowed_of rates (cut_at_zero last) 0) = rw still at is in
    let none : slowed_of rates (cut_at_zero last) 0 ≡ 0 = slowed_none rates (cut_at_zero last) in
    let zero_down : slowed_of rates (unsigned_abs last) 0 ≡ 0 = slowed_none rates (unsigned_abs last) in
    rw (still, zero_down) (rw none at stands)
halt_step_down rates last speed step falling backward (down heads is) =
    let cut : cut_at_zero (neg_ℤ last) ≡ unsigned_abs last = omega (arith, ints, cut_is (neg_ℤ last)) in
    rw cut at is

-- the speed of a halt doesn't ask for the greatest speed and gain
same_slowed : (otg : Otg) (w v : ℕ) → slowed_of (rates_of_command otg) w v ≡ slowed_of (halt_rates_of otg) w v
unfolding slowed_of
same_slowed otg w v = refl

-- what a step of a halt leaves
record IsFurtherHalt (otg next : Otg) : Type 0 where
  halt : IsHalt next
  rates : halt_rates_of next ≡ halt_rates_of otg
  last : last_of next ≡ speed_of otg
  now : speed_of next ≡ slowed_of (halt_rates_of otg) (last_of otg) (speed_of otg)

further_halt : (otg next : Otg) (c : ℤ) → IsHalt otg → IsStepTaken otg (c -ℤ otg.current) → next ≡ shifted_of otg c → IsFurtherHalt otg next
further_halt otg next c halt step is = rw is (by_heads halt.heads)
  where
    wants : IsHaltStep (rates_of_command otg) (otg.before -ℤ otg.first) (otg.current -ℤ otg.before) step.wanted
    wants = halt_wanted otg step.wanted halt.not_move halt.not_velocity step.wants

    ok : AreJerkRates (halt_rates_of otg)
    ok = halt_rates_ok otg halt.opened

    opens : IsOpen (shifted_of otg c)
    opens = open_after otg (shifted_of otg c) c halt.opened (taken_safe otg c step) refl

    safe : (room : ℕ) → IsKeptBy (halt_rates_of otg) room (last_of otg) (speed_of otg) →
        IsSafeBy (halt_rates_of otg) room (last_of otg) (speed_of otg) (slowed_of (halt_rates_of otg) (last_of otg) (speed_of otg))
    safe room kept = rw (slowed_brakes (halt_rates_of otg) room (last_of otg) (speed_of otg) ok kept)
        (braked_safe (halt_rates_of otg).v (halt_rates_of otg).a otg.d otg.j room (last_of otg) (speed_of otg) (omega (arith, ok.d_least)) (omega (arith, ok.j_least)) kept)

    by_heads : RisesBy (halt_rates_of otg) otg ⊎ FallsBy (halt_rates_of otg) otg → IsFurtherHalt otg (shifted_of otg c)
    by_heads (inl rising) =
        let first : otg.first ≤ℤ otg.before = rising.rises.first in
        let second : otg.before ≤ℤ otg.current = rising.rises.second in
        let goes : step.wanted ≡ pos (slowed_of (halt_rates_of otg) (last_of otg) (speed_of otg)) =
        halt_step_up (rates_of_command otg) (otg.before -ℤ otg.first) (otg.current -ℤ otg.before) step.wanted (omega (arith, ints)) (omega (arith, ints)) wants
        ∙ ap (λ n. pos n) (same_slowed otg (last_of otg) (speed_of otg)) in
        let inside = safe (unsigned_abs (otg.hi -ℤ otg.current)) rising.kept in
        let limited = safe_up_by otg (halt_rates_of otg) (slowed_of (halt_rates_of otg) (last_of otg) (speed_of otg)) halt.opened ok halt.rates rising inside in
        let same : (c -ℤ otg.current) ≡ step.wanted =
        wanted_taken (limits_of otg) otg.first otg.before otg.current step.wanted (c -ℤ otg.current) (rw goes limited) step.taken in
        let on : IsOnUp (halt_rates_of otg) otg c (slowed_of (halt_rates_of otg) (last_of otg) (speed_of otg)) =
        on_up otg (halt_rates_of otg) c (slowed_of (halt_rates_of otg) (last_of otg) (speed_of otg)) halt.opened rising inside (omega (arith, ints, goes)) in
        record {
          halt = record { opened = opens; not_move = halt.not_move; not_velocity = halt.not_velocity; rates = halt.rates; heads = inl on.rises };
          rates = refl;
          last = refl;
          now = on.now;
        }
    by_heads (inr falling) =
        let first : otg.before ≤ℤ otg.first = falling.first in
        let second : otg.current ≤ℤ otg.before = falling.second in
        let goes : step.wanted ≡ neg_ℤ (pos (slowed_of (halt_rates_of otg) (last_of otg) (speed_of otg))) =
        halt_step_down (rates_of_command otg) (otg.before -ℤ otg.first) (otg.current -ℤ otg.before) step.wanted (omega (arith, ints)) (omega (arith, ints)) wants
        ∙ ap (λ n. neg_ℤ (pos n)) (same_slowed otg (last_of otg) (speed_of otg)) in
        let inside = safe (unsigned_abs (otg.current -ℤ otg.lo)) falling.kept in
        let limited = safe_down_by otg (halt_rates_of otg) (slowed_of (halt_rates_of otg) (last_of otg) (speed_of otg)) halt.opened ok halt.rates falling inside in
        let same : (c -ℤ otg.current) ≡ step.wanted =
        wanted_taken (limits_of otg) otg.first otg.before otg.current step.wanted (c -ℤ otg.current) (rw goes limited) step.taken in
        let on : IsOnDown (halt_rates_of otg) otg c (slowed_of (halt_rates_of otg) (last_of otg) (speed_of otg)) =
        on_down otg (halt_rates_of otg) c (slowed_of (halt_rates_of otg) (last_of otg) (speed_of otg)) halt.opened falling inside (omega (arith, ints, goes)) in
        record {
          halt = record { opened = opens; not_move = halt.not_move; not_velocity = halt.not_velocity; rates = halt.rates; heads = inr on.falls };
          rates = refl;
          last = refl;
          now = on.now;
        }

-- the speed after equal ones
halted_at : (m s : ℕ) (rates own : JerkRates) (w v w1 v1 : ℕ) → own ≡ rates → w1 ≡ w → v1 ≡ v → s ≡ halted_of m own w1 v1 → s ≡ halted_of m rates w v
halted_at m s rates own w v w1 v1 same p q is = rw (same, p, q) at is

-- a run of a halt has the speeds of the halt
run_halts : (m : ℕ) (run : ℕ → Otg) → IsRun run → IsHalt (run zero) →
    speed_of (run m) ≡ halted_of m (halt_rates_of (run zero)) (last_of (run zero)) (speed_of (run zero))
run_halts zero run steps halt = refl
run_halts (suc m) run steps halt =
    let on : IsFurtherHalt (run zero) (run (suc zero)) =
    further_halt (run zero) (run (suc zero)) (run (suc zero)).current halt (steps zero).taken (steps zero).same in
    halted_at m (speed_of (run (suc m))) (halt_rates_of (run zero)) (halt_rates_of (run (suc zero))) (speed_of (run zero)) _ (last_of (run (suc zero))) (speed_of (run (suc zero)))
    on.rates on.last on.now (run_halts m (λ i. run (suc i)) (λ i. steps (suc i)) on.halt)

-- and so stands behind its cycles
run_stands : (run : ℕ → Otg) (k n m : ℕ) → IsRun run → IsHalt (run zero) →
    unsigned_abs (run zero).amax + (run zero).d ≤ k * (run zero).j → unsigned_abs (run zero).vmax ≤ n * (run zero).d → k + n + 1 ≤ m → speed_of (run m) ≡ 0
run_stands run k n m steps halt ramp flat enough = run_halts m run steps halt ∙ by_room (halt.heads)
  where
    still : (room : ℕ) → IsKeptBy (halt_rates_of (run zero)) room (last_of (run zero)) (speed_of (run zero)) →
        halted_of m (halt_rates_of (run zero)) (last_of (run zero)) (speed_of (run zero)) ≡ 0
    still room kept =
        let more : k * (run zero).j ≤ (m - n - 1) * (run zero).j = mul-le k (run zero).j (m - n - 1) (run zero).j (omega arith) (omega arith) in
        let same : m - n - 1 + n + 1 ≡ m = omega arith in
        rw same at (halts_by_rates (halt_rates_of (run zero)) room (last_of (run zero)) (speed_of (run zero)) (m - n - 1) n (halt_rates_ok (run zero) halt.opened) kept (omega arith) flat)

    by_room : RisesBy (halt_rates_of (run zero)) (run zero) ⊎ FallsBy (halt_rates_of (run zero)) (run zero) →
        halted_of m (halt_rates_of (run zero)) (last_of (run zero)) (speed_of (run zero)) ≡ 0
    by_room (inl rising) = still (unsigned_abs ((run zero).hi -ℤ (run zero).current)) rising.kept
    by_room (inr falling) = still (unsigned_abs ((run zero).current -ℤ (run zero).lo)) falling.kept

-- two steps of none leave it at rest
at_rest : (otg next : Otg) → next ≡ shifted_of otg next.current → speed_of otg ≡ 0 → speed_of next ≡ 0 → IsAtRest next
at_rest otg next is stands still =
    let first : next.first ≡ otg.before = ap (λ (o : Otg). o.first) is in
    let before : next.before ≡ otg.current = ap (λ (o : Otg). o.before) is in
    record { first = omega (arith, ints); before = omega (arith, ints) }

pub halt_done : (run : ℕ → Otg) (k n m : ℕ) → IsRun run → IsHalt (run zero) →
    unsigned_abs (run zero).amax + (run zero).d ≤ k * (run zero).j → unsigned_abs (run zero).vmax ≤ n * (run zero).d → k + n + 2 ≤ m → IsAtRest (run m)
halt_done run k n zero steps halt ramp flat enough = absurd (omega arith)
halt_done run k n (suc m) steps halt ramp flat enough =
    at_rest (run m) (run (suc m)) (steps m).same (run_stands run k n m steps halt ramp flat (omega arith)) (run_stands run k n (suc m) steps halt ramp flat (omega arith))

-- the motion of equal rates
kept_by_same : (V A d j e k room w v : ℕ) → d ≡ e → j ≡ k → IsKeptAhead V A e k room w v → IsKeptAhead V A d j room w v
kept_by_same V A d j e k room w v p q kept = rw (p, q) kept

-- by the limits a halt can stop any motion of an open generator
pub halt_by_limits : (otg : Otg) → IsHaltByLimits otg → IsHalt otg
unfolding motion_up motion_down
halt_by_limits otg is = record {
  opened = is.opened;
  not_move = is.not_move;
  not_velocity = is.not_velocity;
  rates = record { v = omega arith; a = omega arith; d = omega (arith, is.d); j = omega (arith, is.j) };
  heads = by_lt_z otg.before otg.first
      (λ falls. inr (going_down (λ rises on. omega (arith, ints))))
      (λ rises. by_lt_z otg.current otg.before
      (λ falls. inr (going_down (λ first on. omega (arith, ints))))
      (λ on. inl (record {
        rises = record { first = rises; second = on };
        kept = kept_by_same _ _ _ _ _ _ _ _ _ is.d is.j
            (kept_motion_up (limits_of otg) otg.first otg.before otg.current (motion_up (limits_of otg) otg.first otg.before otg.current) (jerk_limits_of otg is.opened.limits) is.opened.kept rises on
            (counts_up (limits_of otg) otg.first otg.before otg.current rises on is.opened.kept.above is.opened.kept.below));
      })));
}
  where
    going_down : (otg.first ≤ℤ otg.before → otg.before ≤ℤ otg.current → ⊥) → FallsBy (halt_rates_of otg) otg
    going_down not_up =
        let falls : Falls otg.first otg.before otg.current = falls_else (limits_of otg) otg.first otg.before otg.current (jerk_limits_of otg is.opened.limits) is.opened.kept not_up in
        record {
          first = falls.falls;
          second = falls.falls_on;
          kept = kept_by_same _ _ _ _ _ _ _ _ _ is.d is.j
              (kept_motion_down (limits_of otg) otg.first otg.before otg.current (motion_down (limits_of otg) otg.first otg.before otg.current) (jerk_limits_of otg is.opened.limits) is.opened.kept not_up
              (counts_down (limits_of otg) otg.first otg.before otg.current falls.falls falls.falls_on is.opened.kept.above is.opened.kept.below));
        }

-- the step that a velocity wants
velocity_wanted : (otg : Otg) (step : ℤ) → otg.kind ≡ 2 → IsWantedStep otg step →
    IsVelocityStep (rates_of_command otg) otg.target (otg.before -ℤ otg.first) (otg.current -ℤ otg.before) step
velocity_wanted otg step kind (by_move is wants) = absurd (omega arith)
velocity_wanted otg step kind (by_velocity is wants) = wants
velocity_wanted otg step kind (by_halt not_move not_velocity wants) = absurd (not_velocity kind)

-- no velocity from rest stands
velocity_none : (rates : JerkRates) (w : ℕ) → AreJerkRates rates → velocity_of rates 0 w 0 ≡ 0
velocity_none rates w ok =
    let none : reach_of (0 - 0) rates.j ≤ 0 - 0 = reach_within (0 - 0) rates.j (omega (arith, ok.j_least)) in
    velocity_below rates 0 w 0 (omega arith) ∙ omega arith

velocity_step_up : (rates : JerkRates) (target last speed step : ℤ) → pos 0 ≤ℤ target → pos 0 ≤ℤ last → pos 0 ≤ℤ speed → IsVelocityStep rates target last speed step →
    step ≡ pos (velocity_of rates (unsigned_abs target) (unsigned_abs last) (unsigned_abs speed))
velocity_step_up rates target last speed step toward rising forward (goes_up heads is) =
    let cut : cut_at_zero last ≡ unsigned_abs last = omega (arith, ints, cut_is last) in
    rw cut at is
velocity_step_up rates target last speed step toward rising forward (goes_down heads is) = absurd (omega (arith, ints, heads.some_down))
velocity_step_up rates target last speed step toward rising forward (goes_slow not_up not_down halt) = absurd (not_up (record { wanted_up = toward; speed_up = forward }))

velocity_step_down : (rates : JerkRates) (target last speed step : ℤ) → AreJerkRates rates → target ≤ℤ pos 0 → last ≤ℤ pos 0 → speed ≤ℤ pos 0 →
    IsVelocityStep rates target last speed step →
    step ≡ neg_ℤ (pos (velocity_of rates (unsigned_abs target) (unsigned_abs last) (unsigned_abs speed)))
velocity_step_down rates target last speed step ok toward falling backward (goes_up heads is) =
    let none : unsigned_abs target ≡ 0 = omega (arith, ints, heads.wanted_up) in
    let still : unsigned_abs speed ≡ 0 = omega (arith, ints, heads.speed_up) in
    let stands : step ≡ pos (velocity_of rates 0 (cut_at_zero last) 0) = rw (none, still) at is in
    rw (none, still, velocity_none rates (unsigned_abs last) ok) (rw (velocity_none rates (cut_at_zero last) ok) at stands)
velocity_step_down rates target last speed step ok toward falling backward (goes_down heads is) =
    let cut : cut_at_zero (neg_ℤ last) ≡ unsigned_abs last = omega (arith, ints, cut_is (neg_ℤ last)) in
    rw cut at is
velocity_step_down rates target last speed step ok toward falling backward (goes_slow not_up not_down halt) = absurd (not_down (down_of target speed not_up toward backward))

-- the speed of a velocity doesn't ask for the greatest speed
same_velocity : (otg : Otg) (wanted w v : ℕ) → velocity_of (rates_of_command otg) wanted w v ≡ velocity_of (velocity_rates_of otg) wanted w v
unfolding velocity_of
same_velocity otg wanted w v = refl

-- a velocity is one after a step
velocity_on : (otg : Otg) (c : ℤ) → IsVelocity otg → IsStepTaken otg (c -ℤ otg.current) → IsVelocity (shifted_of otg c)
velocity_on otg c command step = record {
  opened = open_after otg (shifted_of otg c) c command.opened (taken_safe otg c step) refl;
  kind = command.kind;
  rates = command.rates;
}

-- what a step of an upward velocity leaves
record IsFurtherUp (otg next : Otg) : Type 0 where
  goes : IsVelocityUp next
  rates : velocity_rates_of next ≡ velocity_rates_of otg
  target : next.target ≡ otg.target
  last : last_of next ≡ speed_of otg
  now : speed_of next ≡ next_speed_of otg

velocity_up : (otg : Otg) (c : ℤ) → IsVelocityUp otg → HasRoomAbove otg → IsStepTaken otg (c -ℤ otg.current) → IsFurtherUp otg (shifted_of otg c)
velocity_up otg c way free step =
    let first : otg.first ≤ℤ otg.before = way.rises.rises.first in
    let second : otg.before ≤ℤ otg.current = way.rises.rises.second in
    let upward : pos 0 ≤ℤ otg.target = way.upward in
    let slow : otg.target ≤ℤ otg.vmax = way.slow in
    let ok : AreJerkRates (velocity_rates_of otg) = velocity_rates_ok otg way.command.opened in
    let goes : step.wanted ≡ pos (next_speed_of otg) =
    velocity_step_up (rates_of_command otg) otg.target (otg.before -ℤ otg.first) (otg.current -ℤ otg.before) step.wanted upward (omega (arith, ints)) (omega (arith, ints))
    (velocity_wanted otg step.wanted way.command.kind step.wants)
    ∙ ap (λ n. pos n) (same_velocity otg (unsigned_abs otg.target) (last_of otg) (speed_of otg)) in
    let inside : IsSafeBy (velocity_rates_of otg) (unsigned_abs (otg.hi -ℤ otg.current)) (last_of otg) (speed_of otg) (next_speed_of otg) =
    velocity_safe (velocity_rates_of otg) (unsigned_abs (otg.hi -ℤ otg.current)) (unsigned_abs otg.target) (last_of otg) (speed_of otg) ok way.rises.kept (omega (arith, ints)) free in
    let limited = safe_up_by otg (velocity_rates_of otg) (next_speed_of otg) way.command.opened ok way.command.rates way.rises inside in
    let same : (c -ℤ otg.current) ≡ step.wanted =
    wanted_taken (limits_of otg) otg.first otg.before otg.current step.wanted (c -ℤ otg.current) (rw goes limited) step.taken in
    let on : IsOnUp (velocity_rates_of otg) otg c (next_speed_of otg) =
    on_up otg (velocity_rates_of otg) c (next_speed_of otg) way.command.opened way.rises inside (there otg.current c (next_speed_of otg) step.wanted same goes) in
    record {
      goes = record { command = velocity_on otg c way.command step; upward = upward; slow = slow; rises = on.rises };
      rates = refl;
      target = refl;
      last = refl;
      now = on.now;
    }
  where
    there : (now c : ℤ) (x : ℕ) (wanted : ℤ) → (c -ℤ now) ≡ wanted → wanted ≡ pos x → c ≡ (now +ℤ pos x)
    there now c x wanted same goes = omega (arith, ints)

-- and what one of a downward velocity does
record IsFurtherDown (otg next : Otg) : Type 0 where
  goes : IsVelocityDown next
  rates : velocity_rates_of next ≡ velocity_rates_of otg
  target : next.target ≡ otg.target
  last : last_of next ≡ speed_of otg
  now : speed_of next ≡ next_speed_of otg

velocity_down : (otg : Otg) (c : ℤ) → IsVelocityDown otg → HasRoomBelow otg → IsStepTaken otg (c -ℤ otg.current) → IsFurtherDown otg (shifted_of otg c)
velocity_down otg c way free step =
    let first : otg.before ≤ℤ otg.first = way.falls.first in
    let second : otg.current ≤ℤ otg.before = way.falls.second in
    let downward : otg.target ≤ℤ pos 0 = way.downward in
    let slow : pos (unsigned_abs otg.target) ≤ℤ otg.vmax = way.slow in
    let ok : AreJerkRates (velocity_rates_of otg) = velocity_rates_ok otg way.command.opened in
    let goes : step.wanted ≡ neg_ℤ (pos (next_speed_of otg)) =
    velocity_step_down (rates_of_command otg) otg.target (otg.before -ℤ otg.first) (otg.current -ℤ otg.before) step.wanted way.command.opened.command.rates downward (omega (arith, ints)) (omega (arith, ints))
    (velocity_wanted otg step.wanted way.command.kind step.wants)
    ∙ ap (λ n. neg_ℤ (pos n)) (same_velocity otg (unsigned_abs otg.target) (last_of otg) (speed_of otg)) in
    let inside : IsSafeBy (velocity_rates_of otg) (unsigned_abs (otg.current -ℤ otg.lo)) (last_of otg) (speed_of otg) (next_speed_of otg) =
    velocity_safe (velocity_rates_of otg) (unsigned_abs (otg.current -ℤ otg.lo)) (unsigned_abs otg.target) (last_of otg) (speed_of otg) ok way.falls.kept (omega (arith, ints)) free in
    let limited = safe_down_by otg (velocity_rates_of otg) (next_speed_of otg) way.command.opened ok way.command.rates way.falls inside in
    let same : (c -ℤ otg.current) ≡ step.wanted =
    wanted_taken (limits_of otg) otg.first otg.before otg.current step.wanted (c -ℤ otg.current) (rw goes limited) step.taken in
    let on : IsOnDown (velocity_rates_of otg) otg c (next_speed_of otg) =
    on_down otg (velocity_rates_of otg) c (next_speed_of otg) way.command.opened way.falls inside (there otg.current c (next_speed_of otg) step.wanted same goes) in
    record {
      goes = record { command = velocity_on otg c way.command step; downward = downward; slow = slow; falls = on.falls };
      rates = refl;
      target = refl;
      last = refl;
      now = on.now;
    }
  where
    there : (now c : ℤ) (x : ℕ) (wanted : ℤ) → (c -ℤ now) ≡ wanted → wanted ≡ neg_ℤ (pos x) → c ≡ (now +ℤ neg_ℤ (pos x))
    there now c x wanted same goes = omega (arith, ints)

-- the speed after equal ones
velocity_at : (m s : ℕ) (rates own : JerkRates) (target goal : ℤ) (w v w1 v1 : ℕ) → own ≡ rates → goal ≡ target → w1 ≡ w → v1 ≡ v →
    s ≡ velocity_after m own (unsigned_abs goal) w1 v1 → s ≡ velocity_after m rates (unsigned_abs target) w v
velocity_at m s rates own target goal w v w1 v1 same to p q is = rw (same, to, p, q) at is

-- a run of a velocity has the speeds of the velocity
record IsAfterUp (m : ℕ) (otg end : Otg) : Type 0 where
  goes : IsVelocityUp end
  target : end.target ≡ otg.target
  speed : speed_of end ≡ velocity_after m (velocity_rates_of otg) (unsigned_abs otg.target) (last_of otg) (speed_of otg)

run_up : (m : ℕ) (run : ℕ → Otg) → IsRun run → IsVelocityUp (run zero) → ((i : ℕ) → i < m → HasRoomAbove (run i)) → IsAfterUp m (run zero) (run m)
run_up zero run steps way free = record { goes = way; target = refl; speed = refl }
run_up (suc m) run steps way free =
    let on : IsFurtherUp (run zero) (run (suc zero)) =
    rw (steps zero).same (velocity_up (run zero) (run (suc zero)).current way (free zero (omega arith)) (steps zero).taken) in
    let end : IsAfterUp m (run (suc zero)) (run (suc m)) =
    run_up m (λ i. run (suc i)) (λ i. steps (suc i)) on.goes (λ i below. free (suc i) (omega arith)) in
    record {
      goes = end.goes;
      target = end.target ∙ on.target;
      speed = velocity_at m (speed_of (run (suc m))) (velocity_rates_of (run zero)) (velocity_rates_of (run (suc zero))) (run zero).target (run (suc zero)).target
          (speed_of (run zero)) _ (last_of (run (suc zero))) (speed_of (run (suc zero))) on.rates on.target on.last on.now end.speed;
    }

record IsAfterDown (m : ℕ) (otg end : Otg) : Type 0 where
  goes : IsVelocityDown end
  target : end.target ≡ otg.target
  speed : speed_of end ≡ velocity_after m (velocity_rates_of otg) (unsigned_abs otg.target) (last_of otg) (speed_of otg)

run_down : (m : ℕ) (run : ℕ → Otg) → IsRun run → IsVelocityDown (run zero) → ((i : ℕ) → i < m → HasRoomBelow (run i)) → IsAfterDown m (run zero) (run m)
run_down zero run steps way free = record { goes = way; target = refl; speed = refl }
run_down (suc m) run steps way free =
    let on : IsFurtherDown (run zero) (run (suc zero)) =
    rw (steps zero).same (velocity_down (run zero) (run (suc zero)).current way (free zero (omega arith)) (steps zero).taken) in
    let end : IsAfterDown m (run (suc zero)) (run (suc m)) =
    run_down m (λ i. run (suc i)) (λ i. steps (suc i)) on.goes (λ i below. free (suc i) (omega arith)) in
    record {
      goes = end.goes;
      target = end.target ∙ on.target;
      speed = velocity_at m (speed_of (run (suc m))) (velocity_rates_of (run zero)) (velocity_rates_of (run (suc zero))) (run zero).target (run (suc zero)).target
          (speed_of (run zero)) _ (last_of (run (suc zero))) (speed_of (run (suc zero))) on.rates on.target on.last on.now end.speed;
    }

-- and so has the velocity behind its cycles
pub velocity_up_done : (run : ℕ → Otg) (k n m : ℕ) → IsRun run → IsVelocityUp (run zero) → ((i : ℕ) → i < m → HasRoomAbove (run i)) →
    (run zero).a + (run zero).d ≤ k * (run zero).j → unsigned_abs (run zero).vmax - unsigned_abs (run zero).target ≤ n * (run zero).d →
    unsigned_abs (run zero).target ≤ n * (run zero).a → k + n + 1 ≤ m → ((run m).current -ℤ (run m).before) ≡ (run m).target
velocity_up_done run k n m steps way free ramp slower faster enough =
    let end : IsAfterUp m (run zero) (run m) = run_up m run steps way free in
    let upward : pos 0 ≤ℤ (run zero).target = way.upward in
    let slow : (run zero).target ≤ℤ (run zero).vmax = way.slow in
    let reached : velocity_after m (velocity_rates_of (run zero)) (unsigned_abs (run zero).target) (last_of (run zero)) (speed_of (run zero)) ≡ unsigned_abs (run zero).target =
    velocity_by_rates (velocity_rates_of (run zero)) (unsigned_abs ((run zero).hi -ℤ (run zero).current)) (unsigned_abs (run zero).target) (last_of (run zero)) (speed_of (run zero)) k n m
    (velocity_rates_ok (run zero) way.command.opened) way.rises.kept (omega (arith, ints)) ramp slower faster enough in
    signed_up (run m).before (run m).current (run m).target (run zero).target end.goes.rises.rises.second upward end.target (end.speed ∙ reached)
  where
    signed_up : (before now target goal : ℤ) → before ≤ℤ now → pos 0 ≤ℤ goal → target ≡ goal → unsigned_abs (now -ℤ before) ≡ unsigned_abs goal → (now -ℤ before) ≡ target
    signed_up before now target goal rises toward is speed = omega (arith, ints)

pub velocity_down_done : (run : ℕ → Otg) (k n m : ℕ) → IsRun run → IsVelocityDown (run zero) → ((i : ℕ) → i < m → HasRoomBelow (run i)) →
    (run zero).a + (run zero).d ≤ k * (run zero).j → unsigned_abs (run zero).vmax - unsigned_abs (run zero).target ≤ n * (run zero).d →
    unsigned_abs (run zero).target ≤ n * (run zero).a → k + n + 1 ≤ m → ((run m).current -ℤ (run m).before) ≡ (run m).target
velocity_down_done run k n m steps way free ramp slower faster enough =
    let end : IsAfterDown m (run zero) (run m) = run_down m run steps way free in
    let downward : (run zero).target ≤ℤ pos 0 = way.downward in
    let slow : pos (unsigned_abs (run zero).target) ≤ℤ (run zero).vmax = way.slow in
    let reached : velocity_after m (velocity_rates_of (run zero)) (unsigned_abs (run zero).target) (last_of (run zero)) (speed_of (run zero)) ≡ unsigned_abs (run zero).target =
    velocity_by_rates (velocity_rates_of (run zero)) (unsigned_abs ((run zero).current -ℤ (run zero).lo)) (unsigned_abs (run zero).target) (last_of (run zero)) (speed_of (run zero)) k n m
    (velocity_rates_ok (run zero) way.command.opened) way.falls.kept (omega (arith, ints)) ramp slower faster enough in
    signed_down (run m).before (run m).current (run m).target (run zero).target end.goes.falls.second downward end.target (end.speed ∙ reached)
  where
    signed_down : (before now target goal : ℤ) → now ≤ℤ before → goal ≤ℤ pos 0 → target ≡ goal → unsigned_abs (now -ℤ before) ≡ unsigned_abs goal → (now -ℤ before) ≡ target
    signed_down before now target goal falls toward is speed = omega (arith, ints)
