-- A blend that has no step brakes until it has one, or does not apply any more.
-- for: crossings_have_the_target_between, blends_without_steps_brake
use Rattle.std.proofs.Common.{◌≡◌, ◌⊎◌, ℕ, zero, suc, ◌+◌, ◌-◌, ◌*◌, ◌/◌, ◌%◌, ◌≤◌, ◌<◌, ◌<ℤ◌, ◌↔◌, Bool, true, false, ℤ, pos, neg_ℤ, ◌+ℤ◌, ◌-ℤ◌, ◌≤ℤ◌, unsigned_abs, arith, ◌∙◌, ap, inl, inr}
use Rattle.std.proofs.lemmas.Int.{ints}
use Rattle.std.proofs.lemmas.Nat.{div-add-mod', mod_below}
use Rattle.plc_types.specs.declared.limits.Limits.{Limits}
use Rattle.kin_core.specs.Toward.{toward_zero, IsTowards}
use Rattle.command_pool.specs.declared.rates.Rates.{Rates}
use Rattle.command_pool.specs.Rates.{AreRates}
use Rattle.std.proofs.lemmas.Bool.{cases_lt}
use Rattle.blend_plan.specs.Blends.{LieAhead, BlendApplies, blend_applies}
use Rattle.blend_plan.specs.BlendStep.{MayBlend, Crosses, crosses_at, may_blend, blend_size_of, blend_step_of}
use Rattle.blend_plan.specs.BlendRun.{HasBlendStep, HasBlend, SettlesWithin, blend_wanted_of, blend_taken_of, has_crossed}
use Rattle.blend_plan.proofs.BlendSizes.{blends-says, blends-holds}
use Rattle.blend_plan.proofs.BlendSteps.{AreBlended, IsBlendSize, is-blend-size, may-sizes, sizes-may, is-blend-step}
use Rattle.blend_plan.proofs.BlendsGoOn.{one-follows}
use Rattle.blend_plan.proofs.BlendLaws.{applies-by-test}
use Rattle.blend_plan.proofs.Crossings.{crosses-says}
use Rattle.blend_plan.proofs.BlendCycles.{by-test, crossed-up, crossed-down}
use Rattle.blend_plan.proofs.SafeBlends.{IsBlended, are-blended, wanted-up, wanted-down, taken-blend, blended-next}
use Rattle.motion_numbers.specs.Laws.{AreWays, AreSearches}
use Rattle.kin_core.specs.Laws.{AreTowardZero, AreSafeSteps}

-- no step may follow
pub record HasNoStep (l1 l2 old : ℤ) (first second : Rates) (vb : ℤ) : Type 0 where
  pub none : (k : ℤ) → MayBlend l1 l2 old first second vb k → ⊥

-- a cycle without a step: braking from above the deceleration
pub record Brakes (target1 target2 before now : ℤ) (first second : Rates) (vb : ℤ) : Type 0 where
  pub fast : unsigned_abs first.d < unsigned_abs (now -ℤ before)
  pub wanted : blend_wanted_of target1 target2 before now first second vb ≡ toward_zero (now -ℤ before) first.d

-- what a cycle of two moves is: the blend has a step, it brakes, or it does not apply
pub data Phase (target1 target2 before now : ℤ) (first second : Rates) (vb : ℤ) : Type 0 where
  full : HasBlend target1 target2 before now first second vb → Phase target1 target2 before now first second vb
  empty : Brakes target1 target2 before now first second vb → Phase target1 target2 before now first second vb
  off : (BlendApplies target1 target2 before now → ⊥) → Phase target1 target2 before now first second vb

-- what a crossing meets, by direction
pub crossed-says-up : (target1 target2 now vb step : ℤ) (second : Rates) → target1 <ℤ target2 →
    (has_crossed target1 target2 now second vb step ≡ true) ↔ Crosses (target1 -ℤ now) (target2 -ℤ now) second vb step
crossed-says-up target1 target2 now vb step second order =
    let same : has_crossed target1 target2 now second vb step ≡ crosses_at (target1 -ℤ now) (target2 -ℤ now) second vb step =
    crossed-up target1 target2 now second vb step order in
    rw same (crosses-says (target1 -ℤ now) (target2 -ℤ now) second vb step)

pub crossed-says-down : (target1 target2 now vb step : ℤ) (second : Rates) → target2 ≤ℤ target1 →
    (has_crossed target1 target2 now second vb step ≡ true) ↔ Crosses (now -ℤ target1) (now -ℤ target2) second vb (neg_ℤ step)
crossed-says-down target1 target2 now vb step second order =
    let same : has_crossed target1 target2 now second vb step ≡ crosses_at (now -ℤ target1) (now -ℤ target2) second vb (neg_ℤ step) =
    crossed-down target1 target2 now second vb step order in
    rw same (crosses-says (now -ℤ target1) (now -ℤ target2) second vb (neg_ℤ step))

-- a crossing step is at most the blend velocity, with the first target between the two setpoints
pub crossing-speed : (target1 target2 before now vb step : ℤ) (second : Rates) →
    BlendApplies target1 target2 before now → has_crossed target1 target2 now second vb step ≡ true →
    pos (unsigned_abs step) ≤ℤ vb
crossing-speed target1 target2 before now vb step second (inl ahead) crossed =
    let crosses : Crosses (target1 -ℤ now) (target2 -ℤ now) second vb step =
    (crossed-says-up target1 target2 now vb step second (omega (arith, ints, ahead.second))).0 crossed in
    omega (arith, ints, crosses.velocity, crosses.reached, ahead.first)
crossing-speed target1 target2 before now vb step second (inr ahead) crossed =
    let crosses : Crosses (now -ℤ target1) (now -ℤ target2) second vb (neg_ℤ step) =
    (crossed-says-down target1 target2 now vb step second (omega (arith, ints, ahead.second))).0 crossed in
    omega (arith, ints, crosses.velocity, crosses.reached, ahead.first)

pub crossing-between : (target1 target2 before now vb step : ℤ) (second : Rates) →
    BlendApplies target1 target2 before now → has_crossed target1 target2 now second vb step ≡ true →
    IsTowards (now +ℤ step) now target1
crossing-between target1 target2 before now vb step second (inl ahead) crossed =
    let crosses : Crosses (target1 -ℤ now) (target2 -ℤ now) second vb step =
    (crossed-says-up target1 target2 now vb step second (omega (arith, ints, ahead.second))).0 crossed in
    inl (omega (arith, ints, ahead.first), omega (arith, ints, crosses.reached))
crossing-between target1 target2 before now vb step second (inr ahead) crossed =
    let crosses : Crosses (now -ℤ target1) (now -ℤ target2) second vb (neg_ℤ step) =
    (crossed-says-down target1 target2 now vb step second (omega (arith, ints, ahead.second))).0 crossed in
    inr (omega (arith, ints, crosses.reached), omega (arith, ints, ahead.first))

module _ (ways : AreWays) where
  -- where none may, the old step is above the deceleration
  none-fast : (l1 l2 old : ℤ) (first second : Rates) (vb : ℤ) → AreRates first → AreRates second →
      LieAhead l1 l2 old → pos 1 ≤ℤ vb → HasNoStep l1 l2 old first second vb → unsigned_abs first.d < unsigned_abs old
  none-fast l1 l2 old first second vb first_ok second_ok ahead passing no_step =
      let ok : AreBlended l1 l2 old first second vb = are-blended l1 l2 old first second vb first_ok second_ok ahead passing in
      elim (cases_lt (unsigned_abs first.d) (unsigned_abs old)) [
        | inl fast ↦ fast
        | inr slow ↦ absurd (no_step.none (pos 1) (sizes-may l1 l2 old first second vb 1 ok
            (one-follows ways _ _ _ _ _ _ _ _ (omega (arith, ints)) (omega (arith, ints)) (omega (arith, ints)) (omega (arith, ints))
            (omega (arith, ints)) (omega (arith, ints, ahead.first, ahead.second)) (omega arith))))
      ]

module _ (searches : AreSearches) where
  -- some step may follow, or none
  pub some-or-none : (l1 l2 old : ℤ) (first second : Rates) (vb : ℤ) → AreRates first → AreRates second →
      LieAhead l1 l2 old → pos 1 ≤ℤ vb →
      HasBlendStep l1 l2 old first second vb ⊎ HasNoStep l1 l2 old first second vb
  some-or-none l1 l2 old first second vb first_ok second_ok ahead passing =
      let ok : AreBlended l1 l2 old first second vb = are-blended l1 l2 old first second vb first_ok second_ok ahead passing in
      let size : IsBlendSize (unsigned_abs first.v) (unsigned_abs first.a) (unsigned_abs first.d) (unsigned_abs second.d)
      (unsigned_abs l1) (unsigned_abs l2) (unsigned_abs old) (unsigned_abs vb)
      (blend_size_of (unsigned_abs l1) (unsigned_abs l2) (unsigned_abs old) first second (unsigned_abs vb)) =
      is-blend-size searches first second _ _ _ _ in
      by-test (may_blend (unsigned_abs l1) (unsigned_abs l2) (unsigned_abs old) first second (unsigned_abs vb)
      (blend_size_of (unsigned_abs l1) (unsigned_abs l2) (unsigned_abs old) first second (unsigned_abs vb)))
      (λ holds. inl (record {
        ahead = ahead;
        step = pos (blend_size_of (unsigned_abs l1) (unsigned_abs l2) (unsigned_abs old) first second (unsigned_abs vb));
        follows = sizes-may l1 l2 old first second vb _ ok
            (blends-says first second _ _ _ _ _ holds);
      }))
      (λ fails. inr (record {
        none = λ k may.
            let holds : may_blend (unsigned_abs l1) (unsigned_abs l2) (unsigned_abs old) first second (unsigned_abs vb)
            (blend_size_of (unsigned_abs l1) (unsigned_abs l2) (unsigned_abs old) first second (unsigned_abs vb)) ≡ true =
            blends-holds first second _ _ _ _ _ (size.follows _
            (may-sizes l1 l2 old first second vb k ok may)) in
            no_both _ holds fails;
      }))
    where
      no_both : (b : Bool) → b ≡ true → b ≡ false → ⊥
      no_both b p q = cc

module _ (steps : AreSafeSteps) where
  open steps use {braking.{slower as braking_is_slower}}

  -- braking leaves a slower step
  pub braked-next : (limits : Limits) (target1 target2 before now : ℤ) (first second : Rates) (vb : ℤ) →
      IsBlended limits target1 target2 before now first second vb → Brakes target1 target2 before now first second vb →
      unsigned_abs (blend_taken_of limits target1 target2 before now first second vb)
      ≤ unsigned_abs (now -ℤ before) - unsigned_abs first.d
  unfolding blend_taken_of
  braked-next limits target1 target2 before now first second vb is brakes =
      let first_ok : AreRates first = is.first_ok in
      rw brakes.wanted (braking_is_slower limits before now first.d is.limits_ok is.kept (omega (arith, ints)) is.within.first_deceleration)

module _ (searches : AreSearches) (toward : AreTowardZero) where
  -- the wanted step brakes
  none-slowed : (l1 l2 old : ℤ) (first second : Rates) (vb : ℤ) → AreRates first → AreRates second →
      LieAhead l1 l2 old → pos 1 ≤ℤ vb → HasNoStep l1 l2 old first second vb →
      blend_step_of l1 l2 old first second vb ≡ toward_zero old first.d
  none-slowed l1 l2 old first second vb first_ok second_ok ahead passing no_step =
      (is-blend-step searches toward l1 l2 old first second vb
      (are-blended l1 l2 old first second vb first_ok second_ok ahead passing)).none no_step.none

module _ (ways : AreWays) (searches : AreSearches) (toward : AreTowardZero) where
  open toward use {turned as toward_zero-turned}

  brakes-up : (limits : Limits) (target1 target2 before now : ℤ) (first second : Rates) (vb : ℤ) →
      IsBlended limits target1 target2 before now first second vb →
      LieAhead (target1 -ℤ now) (target2 -ℤ now) (now -ℤ before) →
      HasNoStep (target1 -ℤ now) (target2 -ℤ now) (now -ℤ before) first second vb →
      Brakes target1 target2 before now first second vb
  brakes-up limits target1 target2 before now first second vb is ahead no_step = record {
    fast = none-fast ways _ _ _ first second vb is.first_ok is.second_ok ahead is.within.least_passing no_step;
    wanted = wanted-up target1 target2 before now first second vb ahead
        ∙ none-slowed searches toward _ _ _ first second vb is.first_ok is.second_ok ahead is.within.least_passing no_step;
  }

  brakes-down : (limits : Limits) (target1 target2 before now : ℤ) (first second : Rates) (vb : ℤ) →
      IsBlended limits target1 target2 before now first second vb →
      LieAhead (now -ℤ target1) (now -ℤ target2) (before -ℤ now) →
      HasNoStep (now -ℤ target1) (now -ℤ target2) (before -ℤ now) first second vb →
      Brakes target1 target2 before now first second vb
  brakes-down limits target1 target2 before now first second vb is ahead no_step =
      let first_ok : AreRates first = is.first_ok in
      let fast : unsigned_abs first.d < unsigned_abs (before -ℤ now) =
      none-fast ways _ _ _ first second vb is.first_ok is.second_ok ahead is.within.least_passing no_step in
      let slowed : blend_step_of (now -ℤ target1) (now -ℤ target2) (before -ℤ now) first second vb ≡ toward_zero (before -ℤ now) first.d =
      none-slowed searches toward _ _ _ first second vb is.first_ok is.second_ok ahead is.within.least_passing no_step in
      let other : before -ℤ now ≡ neg_ℤ (now -ℤ before) = omega (arith, ints) in
      let turned : toward_zero (before -ℤ now) first.d ≡ neg_ℤ (toward_zero (now -ℤ before) first.d) =
      ap (λ z. toward_zero z first.d) other ∙ toward_zero-turned (now -ℤ before) first.d (omega (arith, ints)) in
      let wanted : blend_wanted_of target1 target2 before now first second vb
      ≡ neg_ℤ (blend_step_of (now -ℤ target1) (now -ℤ target2) (before -ℤ now) first second vb) =
      wanted-down target1 target2 before now first second vb ahead in
      record { fast = omega (arith, ints); wanted = omega (arith, ints) }

  phase-applying : (limits : Limits) (target1 target2 before now : ℤ) (first second : Rates) (vb : ℤ) →
      IsBlended limits target1 target2 before now first second vb → BlendApplies target1 target2 before now →
      Phase target1 target2 before now first second vb
  phase-applying limits target1 target2 before now first second vb is (inl ahead) =
      elim (some-or-none searches _ _ _ first second vb is.first_ok is.second_ok ahead is.within.least_passing) [
        | inl has ↦ full (inl has)
        | inr no_step ↦ empty (brakes-up limits target1 target2 before now first second vb is ahead no_step)
      ]
  phase-applying limits target1 target2 before now first second vb is (inr ahead) =
      elim (some-or-none searches _ _ _ first second vb is.first_ok is.second_ok ahead is.within.least_passing) [
        | inl has ↦ full (inr has)
        | inr no_step ↦ empty (brakes-down limits target1 target2 before now first second vb is ahead no_step)
      ]

  pub phase-of : (limits : Limits) (target1 target2 before now : ℤ) (first second : Rates) (vb : ℤ) →
      IsBlended limits target1 target2 before now first second vb → Phase target1 target2 before now first second vb
  phase-of limits target1 target2 before now first second vb is =
      by-test (blend_applies target1 target2 before now)
      (λ holds. phase-applying limits target1 target2 before now first second vb is
      ((applies-by-test target1 target2 before now).0 holds))
      (λ fails. off (λ applies. no_both _ ((applies-by-test target1 target2 before now).1 applies) fails))
    where
      no_both : (b : Bool) → b ≡ true → b ≡ false → ⊥
      no_both b p q = cc

module _ (ways : AreWays) (searches : AreSearches) (toward : AreTowardZero) (steps : AreSafeSteps) where
  open steps use {braking.{backward as braking_goes_backward, forward as braking_goes_forward}}

  -- nor does it turn back
  pub not-back-up : (limits : Limits) (target1 target2 before now : ℤ) (first second : Rates) (vb : ℤ) →
      IsBlended limits target1 target2 before now first second vb →
      LieAhead (target1 -ℤ now) (target2 -ℤ now) (now -ℤ before) →
      pos 0 ≤ℤ blend_taken_of limits target1 target2 before now first second vb
  unfolding blend_taken_of blend_step_of
  not-back-up limits target1 target2 before now first second vb is ahead =
      let first_ok : AreRates first = is.first_ok in
      elim (phase-of ways searches toward limits target1 target2 before now first second vb is) [
        | full has ↦ (let taken : blend_taken_of limits target1 target2 before now first second vb
            ≡ blend_step_of (target1 -ℤ now) (target2 -ℤ now) (now -ℤ before) first second vb =
            taken-blend searches toward steps limits target1 target2 before now vb first second is has
            ∙ wanted-up target1 target2 before now first second vb ahead in
            rw taken (omega (arith, ints)))
        | empty brakes ↦ rw brakes.wanted (braking_goes_forward limits before now first.d is.limits_ok is.kept
            (omega (arith, ints)) is.within.first_deceleration (omega (arith, ints, ahead.old_step)))
        | off none ↦ absurd (none (inl ahead))
      ]

  pub not-back-down : (limits : Limits) (target1 target2 before now : ℤ) (first second : Rates) (vb : ℤ) →
      IsBlended limits target1 target2 before now first second vb →
      LieAhead (now -ℤ target1) (now -ℤ target2) (before -ℤ now) →
      blend_taken_of limits target1 target2 before now first second vb ≤ℤ pos 0
  unfolding blend_taken_of blend_step_of
  not-back-down limits target1 target2 before now first second vb is ahead =
      let first_ok : AreRates first = is.first_ok in
      elim (phase-of ways searches toward limits target1 target2 before now first second vb is) [
        | full has ↦ (let taken : blend_taken_of limits target1 target2 before now first second vb
            ≡ neg_ℤ (blend_step_of (now -ℤ target1) (now -ℤ target2) (before -ℤ now) first second vb) =
            taken-blend searches toward steps limits target1 target2 before now vb first second is has
            ∙ wanted-down target1 target2 before now first second vb ahead in
            rw taken (omega (arith, ints)))
        | empty brakes ↦ rw brakes.wanted (braking_goes_backward limits before now first.d is.limits_ok is.kept
            (omega (arith, ints)) is.within.first_deceleration (omega (arith, ints, ahead.old_step)))
        | off none ↦ absurd (none (inr ahead))
      ]

  -- it has a step, or brakes
  pub has-or-brakes : (limits : Limits) (target1 target2 before now : ℤ) (first second : Rates) (vb : ℤ) →
      IsBlended limits target1 target2 before now first second vb → BlendApplies target1 target2 before now →
      HasBlend target1 target2 before now first second vb
      ⊎ (unsigned_abs (blend_taken_of limits target1 target2 before now first second vb) ≤ unsigned_abs (now -ℤ before) - unsigned_abs first.d)
  has-or-brakes limits target1 target2 before now first second vb is applies =
      elim (phase-of ways searches toward limits target1 target2 before now first second vb is) [
        | full has ↦ inl has
        | empty brakes ↦ inr (braked-next steps limits target1 target2 before now first second vb is brakes)
        | off none ↦ absurd (none applies)
      ]

  -- from a step below n decelerations it settles within n cycles
  pub settles : (n : ℕ) (limits : Limits) (target1 target2 before now : ℤ) (first second : Rates) (vb : ℤ) →
      IsBlended limits target1 target2 before now first second vb →
      unsigned_abs (now -ℤ before) < n * unsigned_abs first.d →
      SettlesWithin n limits target1 target2 before now first second vb
  settles zero limits target1 target2 before now first second vb is slow = absurd (omega arith)
  settles (suc n) limits target1 target2 before now first second vb is slow =
      elim (phase-of ways searches toward limits target1 target2 before now first second vb is) [
        | full has ↦ inl (inl has)
        | off none ↦ inl (inr none)
        | empty brakes ↦
            inr (settles n limits target1 target2 now _ first second vb
            (blended-next steps limits target1 target2 before now first second vb is)
            (let slower : unsigned_abs (blend_taken_of limits target1 target2 before now first second vb)
            ≤ unsigned_abs (now -ℤ before) - unsigned_abs first.d =
            braked-next steps limits target1 target2 before now first second vb is brakes in
            omega (arith, ints, brakes.fast)))
      ]

  pub settles-in-time : (limits : Limits) (target1 target2 before now : ℤ) (first second : Rates) (vb : ℤ) →
      IsBlended limits target1 target2 before now first second vb →
      SettlesWithin (unsigned_abs (now -ℤ before) / unsigned_abs first.d + 1) limits target1 target2 before now first second vb
  settles-in-time limits target1 target2 before now first second vb is =
      let first_ok : AreRates first = is.first_ok in
      let some : 0 < unsigned_abs first.d = omega (arith, ints) in
      let parts : unsigned_abs (now -ℤ before) / unsigned_abs first.d * unsigned_abs first.d
      + unsigned_abs (now -ℤ before) % unsigned_abs first.d ≡ unsigned_abs (now -ℤ before) =
      div-add-mod' (unsigned_abs (now -ℤ before)) (unsigned_abs first.d) in
      let below : unsigned_abs (now -ℤ before) % unsigned_abs first.d < unsigned_abs first.d =
      mod_below (unsigned_abs (now -ℤ before)) (unsigned_abs first.d) some in
      settles _ limits target1 target2 before now first second vb is (omega arith)
