-- Which wanted steps are safe, and what is left of a braking step that is not: for the plans above.
-- for: braking_steps_are_only_cut, steps_ahead_are_safe
use Rattle.std.proofs.Common.{◌≡◌, ℕ, ◌-◌, ◌<◌, ◌≤◌, ℤ, pos, neg_ℤ, ◌+ℤ◌, ◌-ℤ◌, ◌≤ℤ◌, unsigned_abs, refl, arith}
use Rattle.std.specs.Int.{int_min, int_max}
use Rattle.std.proofs.lemmas.Int.{ints, clamps}
use Rattle.plc_types.specs.declared.limits.Limits.{Limits}
use Rattle.motion_numbers.specs.Run.{run_of, cut_at_zero}
use Rattle.plc_types.specs.Limits.{AreLimits}
use Rattle.kin_core.specs.Admissible.{IsSafe, IsKept, least_step_after, greatest_step_after}
use Rattle.kin_core.specs.Taken.{least_safe_of, greatest_safe_of, taken_step_of}
use Rattle.kin_core.specs.Toward.{toward_zero}
use Rattle.kin_core.proofs.Sizes.{cut_is}
use Rattle.kin_core.proofs.SafeSteps.{safe_of_within, between_of_safe, braking_is_safe, toward_parts}
use Rattle.motion_numbers.specs.Laws.{AreWays}

-- upward, a step by rates within the limits may follow
follows_up : (limits : Limits) (old new a d : ℤ) → AreLimits limits → pos 0 ≤ℤ new → (old -ℤ d) ≤ℤ new → new ≤ℤ (old +ℤ a) → a ≤ℤ limits.amax → d ≤ℤ limits.dmax →
    (least_step_after limits old ≤ℤ new) × (new ≤ℤ greatest_step_after limits old)
follows_up limits old new a d ok ahead falls rises gain loss = (omega (arith, ints, clamps), omega (arith, ints, clamps))

-- and downward
follows_down : (limits : Limits) (old new a d : ℤ) → AreLimits limits → new ≤ℤ pos 0 → new ≤ℤ (old +ℤ d) → (old -ℤ a) ≤ℤ new → a ≤ℤ limits.amax → d ≤ℤ limits.dmax →
    (least_step_after limits old ≤ℤ new) × (new ≤ℤ greatest_step_after limits old)
follows_down limits old new a d ok ahead falls rises gain loss = (omega (arith, ints, clamps), omega (arith, ints, clamps))

module _ (ways : AreWays) where
  open ways use {reach_greatest, run_anti}

  -- a number cut to an interval lies between itself and any number of the interval
  cut_toward : (low high wanted inside cut : ℤ) → low ≤ℤ inside → inside ≤ℤ high → cut ≡ int_max low (int_min high wanted) →
      (cut_at_zero inside ≤ cut_at_zero wanted → cut_at_zero (neg_ℤ inside) ≤ cut_at_zero (neg_ℤ wanted) →
      (cut_at_zero cut ≤ cut_at_zero wanted) × (cut_at_zero (neg_ℤ cut) ≤ cut_at_zero (neg_ℤ wanted)))
  cut_toward low high wanted inside cut above below is up down = (omega (arith, ints, clamps, cut_is ways), omega (arith, ints, clamps, cut_is ways))

  -- a step upward that may follow, and whose way to rest by some braking within dmax ends below hi,
  -- is safe
  fits_up : (limits : Limits) (before now step : ℤ) (d : ℕ) → AreLimits limits → IsKept limits before now → pos 0 ≤ℤ step → step ≤ℤ limits.vmax →
      (least_step_after limits (now -ℤ before) ≤ℤ step) × (step ≤ℤ greatest_step_after limits (now -ℤ before)) →
      d ≤ unsigned_abs limits.dmax → run_of (unsigned_abs step) d ≤ unsigned_abs (limits.hi -ℤ now) → IsSafe limits before now (now +ℤ step)
  fits_up limits before now step d ok kept up slow window gentle fits =
      let some : 0 < unsigned_abs limits.dmax = omega (arith, ints) in
      let size : cut_at_zero step ≡ unsigned_abs step = omega (arith, ints, cut_is ways) in
      let none : cut_at_zero (neg_ℤ step) ≡ 0 = omega (arith, ints, cut_is ways) in
      safe_of_within ways limits before now step ok kept.above kept.below (record {
        slow = omega (arith, ints);
        falls = window.0;
        rises = window.1;
        up = reach_greatest _ _ _ some (rw size (omega (arith, run_anti (unsigned_abs step) d (unsigned_abs limits.dmax) gentle, fits)));
        down = rw none (omega arith);
      })

  -- and a step downward whose way ends above lo
  fits_down : (limits : Limits) (before now step : ℤ) (d : ℕ) → AreLimits limits → IsKept limits before now → step ≤ℤ pos 0 → neg_ℤ step ≤ℤ limits.vmax →
      (least_step_after limits (now -ℤ before) ≤ℤ step) × (step ≤ℤ greatest_step_after limits (now -ℤ before)) →
      d ≤ unsigned_abs limits.dmax → run_of (unsigned_abs step) d ≤ unsigned_abs (now -ℤ limits.lo) → IsSafe limits before now (now +ℤ step)
  fits_down limits before now step d ok kept down slow window gentle fits =
      let some : 0 < unsigned_abs limits.dmax = omega (arith, ints) in
      let size : cut_at_zero (neg_ℤ step) ≡ unsigned_abs step = omega (arith, ints, cut_is ways) in
      let none : cut_at_zero step ≡ 0 = omega (arith, ints, cut_is ways) in
      safe_of_within ways limits before now step ok kept.above kept.below (record {
        slow = omega (arith, ints);
        falls = window.0;
        rises = window.1;
        up = rw none (omega arith);
        down = reach_greatest _ _ _ some (rw size (omega (arith, run_anti (unsigned_abs step) d (unsigned_abs limits.dmax) gentle, fits)));
      })

  -- a step upward by rates within the limits, whose way to rest by some braking fits below hi, is
  -- safe
  pub up_is_safe : (limits : Limits) (before now step a d e : ℤ) → AreLimits limits → IsKept limits before now → a ≤ℤ limits.amax → d ≤ℤ limits.dmax →
      pos 0 ≤ℤ step → step ≤ℤ limits.vmax → (now -ℤ before -ℤ d) ≤ℤ step → step ≤ℤ (now -ℤ before +ℤ a) →
      pos 0 ≤ℤ e → e ≤ℤ limits.dmax → pos (run_of (unsigned_abs step) (unsigned_abs e)) ≤ℤ (limits.hi -ℤ now) → IsSafe limits before now (now +ℤ step)
  up_is_safe limits before now step a d e ok kept gain loss up slow falls rises some gentle fits =
      fits_up limits before now step (unsigned_abs e) ok kept up slow
      (follows_up limits (now -ℤ before) step a d ok up falls rises gain loss) (omega (arith, ints)) (omega (arith, ints))

  -- and downward, counted downward
  pub down_is_safe : (limits : Limits) (before now step a d e : ℤ) → AreLimits limits → IsKept limits before now → a ≤ℤ limits.amax → d ≤ℤ limits.dmax →
      pos 0 ≤ℤ step → step ≤ℤ limits.vmax → (before -ℤ now -ℤ d) ≤ℤ step → step ≤ℤ (before -ℤ now +ℤ a) →
      pos 0 ≤ℤ e → e ≤ℤ limits.dmax → pos (run_of (unsigned_abs step) (unsigned_abs e)) ≤ℤ (now -ℤ limits.lo) → IsSafe limits before now (now -ℤ step)
  down_is_safe limits before now step a d e ok kept gain loss down slow falls rises some gentle fits =
      let size : unsigned_abs (neg_ℤ step) ≡ unsigned_abs step = omega (arith, ints) in
      let here : now -ℤ step ≡ now +ℤ neg_ℤ step = omega (arith, ints) in
      rw here (fits_down limits before now (neg_ℤ step) (unsigned_abs e) ok kept (omega (arith, ints)) (omega (arith, ints))
      (follows_down limits (now -ℤ before) (neg_ℤ step) a d ok (omega (arith, ints)) (omega (arith, ints)) (omega (arith, ints)) gain loss)
      (omega (arith, ints)) (rw size (omega (arith, ints))))

  -- the taken step for a braking step is at most as fast, and doesn't turn back
  pub braking_is_cut : (limits : Limits) (before now d : ℤ) → AreLimits limits → IsKept limits before now → pos 0 ≤ℤ d → d ≤ℤ limits.dmax →
      (cut_at_zero (taken_step_of limits before now (toward_zero (now -ℤ before) d)) ≤ cut_at_zero (now -ℤ before) - unsigned_abs d)
      × (cut_at_zero (neg_ℤ (taken_step_of limits before now (toward_zero (now -ℤ before) d))) ≤ cut_at_zero (neg_ℤ (now -ℤ before)) - unsigned_abs d)
  unfolding taken_step_of
  braking_is_cut limits before now d ok kept some gentle =
      let hardest = toward_parts ways (now -ℤ before) limits.dmax (omega (arith, ints)) in
      let wanted = toward_parts ways (now -ℤ before) d some in
      let between = between_of_safe ways limits before now (toward_zero (now -ℤ before) limits.dmax) ok kept.above kept.below (braking_is_safe ways limits before now ok kept) in
      let less : unsigned_abs d ≤ unsigned_abs limits.dmax = omega (arith, ints) in
      let parts = cut_toward (least_safe_of limits before now) (greatest_safe_of limits before now) (toward_zero (now -ℤ before) d) (toward_zero (now -ℤ before) limits.dmax) _ between.0 between.1 refl
      (omega (arith, hardest.0, wanted.0)) (omega (arith, hardest.1, wanted.1)) in
      (rw wanted.0 at parts.0, rw wanted.1 at parts.1)
