-- Blend steps are safe.
-- for: blend_steps_are_safe, crossings_have_the_target_between, blends_go_on_until_they_cross and others
use Rattle.std.proofs.Common.{◌≡◌, ◌⊎◌, true, false, int_lt, ℤ, pos, neg_ℤ, ◌+ℤ◌, ◌-ℤ◌, ◌≤ℤ◌, unsigned_abs, arith, inl, inr}
use Rattle.std.specs.Int.{int_max}
use Rattle.std.proofs.lemmas.Int.{ints, clamps}
use Rattle.plc_types.specs.declared.limits.Limits.{Limits}
use Rattle.plc_types.specs.Limits.{AreLimits}
use Rattle.kin_core.specs.Admissible.{IsKept, IsSafe}
use Rattle.motion_numbers.specs.Run.{run_of}
use Rattle.command_pool.specs.declared.rates.Rates.{Rates}
use Rattle.std.proofs.lemmas.Bool.{cond-true, cond-false}
use Rattle.command_pool.specs.Rates.{AreRates}
use Rattle.blend_plan.specs.Blends.{LieAhead}
use Rattle.blend_plan.specs.BlendStep.{StopsAtFirst, PassesFirst, MayBlend, blend_step_of}
use Rattle.blend_plan.specs.BlendRun.{IsBlendWithin, HasBlendStep, HasBlend, blend_wanted_of, blend_taken_of}
use Rattle.blend_plan.proofs.BlendSteps.{AreBlended, is-blend-step}
use Rattle.motion_numbers.specs.Laws.{AreSearches}
use Rattle.kin_core.specs.Laws.{AreTowardZero, AreSafeSteps}

-- what a blend is under way with
pub record IsBlended (limits : Limits) (target1 target2 before now : ℤ) (first second : Rates) (vb : ℤ) : Type 0 where
  pub limits_ok : AreLimits limits
  pub first_ok : AreRates first
  pub second_ok : AreRates second
  pub within : IsBlendWithin limits target1 target2 first second vb
  pub kept : IsKept limits before now

-- the numbers of a blend are in range
pub are-blended : (l1 l2 old : ℤ) (first second : Rates) (vb : ℤ) → AreRates first → AreRates second →
    LieAhead l1 l2 old → pos 1 ≤ℤ vb → AreBlended l1 l2 old first second vb
are-blended l1 l2 old first second vb first_ok second_ok ahead passing = record {
  first_rates = first_ok;
  second_rates = second_ok;
  first_target = ahead.first;
  second_target = omega (arith, ints, ahead.first, ahead.second);
  forward = ahead.old_step;
  velocity = omega (arith, ints);
}

-- the greater deceleration is within the limits
gentle-both : (limits : Limits) (target1 target2 : ℤ) (first second : Rates) (vb : ℤ) → IsBlendWithin limits target1 target2 first second vb →
    int_max first.d second.d ≤ℤ limits.dmax
gentle-both limits target1 target2 first second vb within = omega (arith, ints, clamps)

-- a step that may follow is within the limit of velocity
slow-enough : (limits : Limits) (target1 target2 : ℤ) (first second : Rates) (l1 l2 vb u : ℤ) → IsBlendWithin limits target1 target2 first second vb →
    StopsAtFirst l1 first u ⊎ PassesFirst l1 l2 first second vb u → u ≤ℤ limits.vmax
slow-enough limits target1 target2 first second l1 l2 vb u within (inl stops) = omega (arith, ints, stops.velocity)
slow-enough limits target1 target2 first second l1 l2 vb u within (inr passes) = omega (arith, ints, clamps, passes.velocity)

-- the wanted step by direction
pub wanted-up : (target1 target2 before now : ℤ) (first second : Rates) (vb : ℤ) →
    LieAhead (target1 -ℤ now) (target2 -ℤ now) (now -ℤ before) →
    blend_wanted_of target1 target2 before now first second vb
    ≡ blend_step_of (target1 -ℤ now) (target2 -ℤ now) (now -ℤ before) first second vb
unfolding blend_wanted_of
wanted-up target1 target2 before now first second vb ahead =
    let order : int_lt target1 target2 ≡ true = grind (arith, ints) in
    cond-true _ _ _ order

pub wanted-down : (target1 target2 before now : ℤ) (first second : Rates) (vb : ℤ) →
    LieAhead (now -ℤ target1) (now -ℤ target2) (before -ℤ now) →
    blend_wanted_of target1 target2 before now first second vb
    ≡ neg_ℤ (blend_step_of (now -ℤ target1) (now -ℤ target2) (before -ℤ now) first second vb)
unfolding blend_wanted_of
wanted-down target1 target2 before now first second vb ahead =
    let order : int_lt target1 target2 ≡ false = grind (arith, ints) in
    cond-false _ _ _ order

module _ (steps : AreSafeSteps) where
  open steps use {ahead.{downward as down_is_safe, upward as up_is_safe}, taken.{kept as taken_step_keeps}}

  -- upward, a step that may follow is safe
  pub safe-up : (limits : Limits) (target1 target2 before now : ℤ) (first second : Rates) (vb u : ℤ) →
      IsBlended limits target1 target2 before now first second vb →
      MayBlend (target1 -ℤ now) (target2 -ℤ now) (now -ℤ before) first second vb u →
      IsSafe limits before now (now +ℤ u)
  safe-up limits target1 target2 before now first second vb u is may = by_way may.way
    where
      by_run : (d : ℤ) → pos 1 ≤ℤ d → d ≤ℤ limits.dmax →
          pos (run_of (unsigned_abs u) (unsigned_abs d)) ≤ℤ (limits.hi -ℤ now) → IsSafe limits before now (now +ℤ u)
      by_run d some gentle fits =
          up_is_safe limits before now u first.a (int_max first.d second.d) d is.limits_ok is.kept is.within.acceleration
          (gentle-both limits target1 target2 first second vb is.within) may.ahead
          (slow-enough limits target1 target2 first second _ _ vb u is.within may.way)
          may.deceleration may.acceleration (omega (arith, ints)) gentle fits

      by_way : StopsAtFirst (target1 -ℤ now) first u
          ⊎ PassesFirst (target1 -ℤ now) (target2 -ℤ now) first second vb u → IsSafe limits before now (now +ℤ u)
      by_way (inl stops) =
          let first_ok : AreRates first = is.first_ok in
          by_run first.d first_ok.least_deceleration is.within.first_deceleration
          (omega (arith, ints, is.within.first_below, stops.run))
      by_way (inr passes) =
          let second_ok : AreRates second = is.second_ok in
          by_run second.d second_ok.least_deceleration is.within.second_deceleration
          (omega (arith, ints, is.within.second_below, passes.run))

  -- and downward
  pub safe-down : (limits : Limits) (target1 target2 before now : ℤ) (first second : Rates) (vb u : ℤ) →
      IsBlended limits target1 target2 before now first second vb →
      MayBlend (now -ℤ target1) (now -ℤ target2) (before -ℤ now) first second vb u →
      IsSafe limits before now (now -ℤ u)
  safe-down limits target1 target2 before now first second vb u is may = by_way may.way
    where
      by_run : (d : ℤ) → pos 1 ≤ℤ d → d ≤ℤ limits.dmax →
          pos (run_of (unsigned_abs u) (unsigned_abs d)) ≤ℤ (now -ℤ limits.lo) → IsSafe limits before now (now -ℤ u)
      by_run d some gentle fits =
          down_is_safe limits before now u first.a (int_max first.d second.d) d is.limits_ok is.kept is.within.acceleration
          (gentle-both limits target1 target2 first second vb is.within) may.ahead
          (slow-enough limits target1 target2 first second _ _ vb u is.within may.way)
          may.deceleration may.acceleration (omega (arith, ints)) gentle fits

      by_way : StopsAtFirst (now -ℤ target1) first u
          ⊎ PassesFirst (now -ℤ target1) (now -ℤ target2) first second vb u → IsSafe limits before now (now -ℤ u)
      by_way (inl stops) =
          let first_ok : AreRates first = is.first_ok in
          by_run first.d first_ok.least_deceleration is.within.first_deceleration
          (omega (arith, ints, is.within.first_above, stops.run))
      by_way (inr passes) =
          let second_ok : AreRates second = is.second_ok in
          by_run second.d second_ok.least_deceleration is.within.second_deceleration
          (omega (arith, ints, is.within.second_above, passes.run))

  -- the next cycle is under way as this one was
  pub blended-next : (limits : Limits) (target1 target2 before now : ℤ) (first second : Rates) (vb : ℤ) →
      IsBlended limits target1 target2 before now first second vb →
      IsBlended limits target1 target2 now (now +ℤ blend_taken_of limits target1 target2 before now first second vb) first second vb
  unfolding blend_taken_of
  blended-next limits target1 target2 before now first second vb is = record {
    limits_ok = is.limits_ok;
    first_ok = is.first_ok;
    second_ok = is.second_ok;
    within = is.within;
    kept = taken_step_keeps limits before now _ is.limits_ok is.kept;
  }

module _ (searches : AreSearches) (toward : AreTowardZero) where
  -- the blend step is among the steps that may follow, where there is one
  pub blend-may : (l1 l2 old : ℤ) (first second : Rates) (vb : ℤ) → AreRates first → AreRates second → pos 1 ≤ℤ vb →
      (has : HasBlendStep l1 l2 old first second vb) →
      MayBlend l1 l2 old first second vb (blend_step_of l1 l2 old first second vb)
  blend-may l1 l2 old first second vb first_ok second_ok passing has =
      (is-blend-step searches toward l1 l2 old first second vb (are-blended l1 l2 old first second vb first_ok second_ok has.ahead passing)).follows
      has.step has.follows

module _ (searches : AreSearches) (toward : AreTowardZero) (steps : AreSafeSteps) where
  open steps use {taken.{exact as taken_step_is_exact}}

  -- where a blend has a step, the wanted step is safe
  pub safe-blend : (limits : Limits) (target1 target2 before now vb : ℤ) (first second : Rates) →
      IsBlended limits target1 target2 before now first second vb →
      HasBlend target1 target2 before now first second vb →
      IsSafe limits before now (now +ℤ blend_wanted_of target1 target2 before now first second vb)
  safe-blend limits target1 target2 before now vb first second is (inl has) =
      rw (wanted-up target1 target2 before now first second vb has.ahead)
      (safe-up steps limits target1 target2 before now first second vb _ is
      (blend-may searches toward _ _ _ first second vb is.first_ok is.second_ok is.within.least_passing has))
  safe-blend limits target1 target2 before now vb first second is (inr has) =
      let here : now +ℤ neg_ℤ (blend_step_of (now -ℤ target1) (now -ℤ target2) (before -ℤ now) first second vb)
      ≡ now -ℤ blend_step_of (now -ℤ target1) (now -ℤ target2) (before -ℤ now) first second vb = omega (arith, ints) in
      rw (wanted-down target1 target2 before now first second vb has.ahead, here)
      (safe-down steps limits target1 target2 before now first second vb _ is
      (blend-may searches toward _ _ _ first second vb is.first_ok is.second_ok is.within.least_passing has))

  -- so it is taken
  pub taken-blend : (limits : Limits) (target1 target2 before now vb : ℤ) (first second : Rates) →
      IsBlended limits target1 target2 before now first second vb →
      HasBlend target1 target2 before now first second vb →
      blend_taken_of limits target1 target2 before now first second vb
      ≡ blend_wanted_of target1 target2 before now first second vb
  unfolding blend_taken_of
  taken-blend limits target1 target2 before now vb first second is has =
      taken_step_is_exact limits before now _ is.limits_ok is.kept
      (safe-blend limits target1 target2 before now vb first second is has)
