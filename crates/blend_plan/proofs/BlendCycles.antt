-- Cycle by cycle a blend goes on, nearer to the first target, until it crosses.
-- for: crossings_have_the_target_between, blends_go_on_until_they_cross, blends_without_steps_brake
use Rattle.std.proofs.Common.{◌≡◌, ℕ, zero, suc, ◌-◌, ◌≤◌, ◌<◌, Bool, true, false, int_lt, ℤ, pos, neg_ℤ, ◌+ℤ◌, ◌-ℤ◌, ◌<ℤ◌, ◌≤ℤ◌, unsigned_abs, arith, refl, ◌∙◌, sym, inl, inr}
use Rattle.std.proofs.lemmas.Int.{ints}
use Rattle.plc_types.specs.declared.limits.Limits.{Limits}
use Rattle.motion_numbers.specs.Run.{run_of}
use Rattle.command_pool.specs.declared.rates.Rates.{Rates}
use Rattle.std.proofs.lemmas.Bool.{cond-true, cond-false}
use Rattle.command_pool.specs.Rates.{AreRates}
use Rattle.blend_plan.specs.Blends.{LieAhead}
use Rattle.blend_plan.specs.BlendStep.{MayBlend, Crosses, crosses_at, blend_size_of, blend_step_of}
use Rattle.blend_plan.specs.BlendRun.{HasBlendStep, HasBlend, blend_taken_of, has_crossed, CrossesWithin}
use Rattle.blend_plan.proofs.BlendSteps.{AreBlended, IsBlendSize, is-blend-size, may-sizes, sizes-may}
use Rattle.blend_plan.proofs.BlendsGoOn.{CrossesSize, HasBlendSize, not-past, goes-on, some-follows}
use Rattle.blend_plan.proofs.Crossings.{crosses-says}
use Rattle.blend_plan.proofs.SafeBlends.{IsBlended, are-blended, wanted-up, wanted-down, blend-may, taken-blend, blended-next}
use Rattle.motion_numbers.specs.Laws.{AreWays, AreSearches}
use Rattle.ramp_root.specs.Laws.{AreSums}
use Rattle.kin_core.specs.Laws.{AreTowardZero, AreSafeSteps}

-- a step that does not cross, in sizes
none-crosses : (l1 l2 : ℤ) (second : Rates) (vb u : ℤ) → pos 0 ≤ℤ l1 → pos 0 ≤ℤ l2 → pos 0 ≤ℤ vb → pos 0 ≤ℤ u →
    (Crosses l1 l2 second vb u → ⊥) →
    CrossesSize (unsigned_abs second.d) (unsigned_abs l1) (unsigned_abs l2) (unsigned_abs vb) (unsigned_abs u) → ⊥
none-crosses l1 l2 second vb u first further passing ahead none crosses =
    let fits : run_of (unsigned_abs u) (unsigned_abs second.d) ≤ unsigned_abs l2 = crosses.run in
    none (record {
      velocity = omega (arith, ints, crosses.velocity);
      reached = omega (arith, ints, crosses.reached);
      run = omega (arith, ints);
    })

-- by other names of the distances
has-same : (l1 l2 old m1 m2 w : ℤ) (first second : Rates) (vb : ℤ) → l1 ≡ m1 → l2 ≡ m2 → old ≡ w →
    HasBlendStep l1 l2 old first second vb → HasBlendStep m1 m2 w first second vb
has-same l1 l2 old m1 m2 w first second vb p q r has = rw (p, q, r) at has

-- the crossing by direction
pub crossed-up : (target1 target2 now : ℤ) (second : Rates) (vb step : ℤ) → target1 <ℤ target2 →
    has_crossed target1 target2 now second vb step ≡ crosses_at (target1 -ℤ now) (target2 -ℤ now) second vb step
unfolding has_crossed
crossed-up target1 target2 now second vb step h =
    let order : int_lt target1 target2 ≡ true = grind (arith, ints) in
    cond-true _ _ _ order

pub crossed-down : (target1 target2 now : ℤ) (second : Rates) (vb step : ℤ) → target2 ≤ℤ target1 →
    has_crossed target1 target2 now second vb step ≡ crosses_at (now -ℤ target1) (now -ℤ target2) second vb (neg_ℤ step)
unfolding has_crossed
crossed-down target1 target2 now second vb step h =
    let order : int_lt target1 target2 ≡ false = grind (arith, ints) in
    cond-false _ _ _ order

-- a test that fails is of a step that does not cross
not-crossing : (l1 l2 : ℤ) (second : Rates) (vb u : ℤ) → crosses_at l1 l2 second vb u ≡ false → Crosses l1 l2 second vb u → ⊥
not-crossing l1 l2 second vb u fails crosses =
    let holds : crosses_at l1 l2 second vb u ≡ true = (crosses-says l1 l2 second vb u).1 crosses in
    no_both (crosses_at l1 l2 second vb u) holds fails
  where
    no_both : (b : Bool) → b ≡ true → b ≡ false → ⊥
    no_both b p q = cc

-- the blend after a cycle that does not cross
pub record IsNextBlend (limits : Limits) (target1 target2 before now : ℤ) (first second : Rates) (vb taken : ℤ) : Type 0 where
  pub has : HasBlend target1 target2 now (now +ℤ taken) first second vb
  pub nearer : unsigned_abs (target1 -ℤ (now +ℤ taken)) < unsigned_abs (target1 -ℤ now)

pub by-test : {P : Type 0} (b : Bool) → (b ≡ true → P) → (b ≡ false → P) → P
by-test true holds fails = holds refl
by-test false holds fails = fails refl

module _ (ways : AreWays) where
  -- a step that does not cross is at most the distance of the first target
  pub step-short : (l1 l2 old : ℤ) (first second : Rates) (vb u : ℤ) → AreRates first → AreRates second →
      LieAhead l1 l2 old → pos 1 ≤ℤ vb → MayBlend l1 l2 old first second vb u → (Crosses l1 l2 second vb u → ⊥) → u ≤ℤ l1
  step-short l1 l2 old first second vb u first_ok second_ok ahead passing may none =
      let ok : AreBlended l1 l2 old first second vb = are-blended l1 l2 old first second vb first_ok second_ok ahead passing in
      let forward : pos 0 ≤ℤ u = may.ahead in
      let short : unsigned_abs u ≤ unsigned_abs l1 =
      not-past ways _ _ _ _ _ _ _ _ _ (omega (arith, ints)) (may-sizes l1 l2 old first second vb u ok may)
      (none-crosses l1 l2 second vb u ok.first_target ok.second_target ok.velocity forward none) in
      let first_way : pos 0 ≤ℤ l1 = ok.first_target in
      omega (arith, ints)

module _ (ways : AreWays) (searches : AreSearches) where
  -- where a blend has a step, the blend step is at least 1
  pub step-some : (l1 l2 old : ℤ) (first second : Rates) (vb : ℤ) → AreRates first → AreRates second → pos 1 ≤ℤ vb →
      HasBlendStep l1 l2 old first second vb → pos 1 ≤ℤ blend_step_of l1 l2 old first second vb
  unfolding blend_step_of
  step-some l1 l2 old first second vb first_ok second_ok passing has =
      let ahead : LieAhead l1 l2 old = has.ahead in
      let size : IsBlendSize (unsigned_abs first.v) (unsigned_abs first.a) (unsigned_abs first.d) (unsigned_abs second.d)
      (unsigned_abs l1) (unsigned_abs l2) (unsigned_abs old) (unsigned_abs vb)
      (blend_size_of (unsigned_abs l1) (unsigned_abs l2) (unsigned_abs old) first second (unsigned_abs vb)) =
      is-blend-size searches first second _ _ _ _ in
      let some : 0 < blend_size_of (unsigned_abs l1) (unsigned_abs l2) (unsigned_abs old) first second (unsigned_abs vb) =
      some-follows ways (unsigned_abs first.v) (unsigned_abs first.a) (unsigned_abs first.d) (unsigned_abs second.d)
      (unsigned_abs l1) (unsigned_abs l2) (unsigned_abs old) (unsigned_abs vb) (unsigned_abs has.step)
      (omega (arith, ints)) (omega (arith, ints)) (omega (arith, ints)) (omega (arith, ints)) (omega (arith, ints))
      (omega (arith, ints))
      (may-sizes l1 l2 old first second vb has.step
      (are-blended l1 l2 old first second vb first_ok second_ok has.ahead passing) has.follows)
      _ size.greatest in
      omega (arith, ints)

module _ (ways : AreWays) (sums : AreSums) where
  -- after it there is a step again
  pub next-step : (l1 l2 old : ℤ) (first second : Rates) (vb u : ℤ) → AreRates first → AreRates second →
      LieAhead l1 l2 old → pos 1 ≤ℤ vb → MayBlend l1 l2 old first second vb u → (Crosses l1 l2 second vb u → ⊥) →
      HasBlendStep (l1 -ℤ u) (l2 -ℤ u) u first second vb
  next-step l1 l2 old first second vb u first_ok second_ok ahead passing may none =
      let ok : AreBlended l1 l2 old first second vb = are-blended l1 l2 old first second vb first_ok second_ok ahead passing in
      let forward : pos 0 ≤ℤ u = may.ahead in
      let short : u ≤ℤ l1 = step-short ways l1 l2 old first second vb u first_ok second_ok ahead passing may none in
      let more : HasBlendSize (unsigned_abs first.v) (unsigned_abs first.a) (unsigned_abs first.d) (unsigned_abs second.d)
      (unsigned_abs l1 - unsigned_abs u) (unsigned_abs l2 - unsigned_abs u) (unsigned_abs u) (unsigned_abs vb) =
      goes-on ways sums _ _ _ _ _ _ _ _ _ (omega (arith, ints)) (omega (arith, ints)) (omega (arith, ints)) (omega (arith, ints))
      (may-sizes l1 l2 old first second vb u ok may)
      (none-crosses l1 l2 second vb u ok.first_target ok.second_target ok.velocity forward none) in
      let lie : LieAhead (l1 -ℤ u) (l2 -ℤ u) u = record {
        first = omega (arith, ints);
        second = omega (arith, ints);
        old_step = forward;
      } in
      let way1 : unsigned_abs (l1 -ℤ u) ≡ unsigned_abs l1 - unsigned_abs u = omega (arith, ints) in
      let way2 : unsigned_abs (l2 -ℤ u) ≡ unsigned_abs l2 - unsigned_abs u = omega (arith, ints) in
      record {
        ahead = lie;
        step = pos more.step;
        follows = sizes-may (l1 -ℤ u) (l2 -ℤ u) u first second vb more.step
            (are-blended (l1 -ℤ u) (l2 -ℤ u) u first second vb first_ok second_ok lie passing)
            (rw (way1, way2) more.blends);
      }

module _ (ways : AreWays) (searches : AreSearches) (sums : AreSums) (toward : AreTowardZero) where
  next-up : (limits : Limits) (target1 target2 before now : ℤ) (first second : Rates) (vb : ℤ) →
      IsBlended limits target1 target2 before now first second vb →
      HasBlendStep (target1 -ℤ now) (target2 -ℤ now) (now -ℤ before) first second vb → (taken : ℤ) →
      taken ≡ blend_step_of (target1 -ℤ now) (target2 -ℤ now) (now -ℤ before) first second vb →
      has_crossed target1 target2 now second vb taken ≡ false →
      IsNextBlend limits target1 target2 before now first second vb taken
  next-up limits target1 target2 before now first second vb is has taken step goes =
      let ahead : LieAhead (target1 -ℤ now) (target2 -ℤ now) (now -ℤ before) = has.ahead in
      let passing : pos 1 ≤ℤ vb = is.within.least_passing in
      let may : MayBlend (target1 -ℤ now) (target2 -ℤ now) (now -ℤ before) first second vb taken =
      rw step (blend-may searches toward _ _ _ first second vb is.first_ok is.second_ok passing has) in
      let some : pos 1 ≤ℤ taken = rw step (step-some ways searches _ _ _ first second vb is.first_ok is.second_ok passing has) in
      let none : Crosses (target1 -ℤ now) (target2 -ℤ now) second vb taken → ⊥ =
      not-crossing (target1 -ℤ now) (target2 -ℤ now) second vb taken
      (sym (crossed-up target1 target2 now second vb taken (omega (arith, ints, ahead.second))) ∙ goes) in
      let short : taken ≤ℤ (target1 -ℤ now) =
      step-short ways _ _ _ first second vb taken is.first_ok is.second_ok ahead passing may none in
      record {
        has = inl (has-same _ _ _ _ _ _ first second vb (omega (arith, ints)) (omega (arith, ints)) (omega (arith, ints))
            (next-step ways sums _ _ _ first second vb taken is.first_ok is.second_ok ahead passing may none));
        nearer = omega (arith, ints);
      }

  next-down : (limits : Limits) (target1 target2 before now : ℤ) (first second : Rates) (vb : ℤ) →
      IsBlended limits target1 target2 before now first second vb →
      HasBlendStep (now -ℤ target1) (now -ℤ target2) (before -ℤ now) first second vb → (taken : ℤ) →
      neg_ℤ taken ≡ blend_step_of (now -ℤ target1) (now -ℤ target2) (before -ℤ now) first second vb →
      has_crossed target1 target2 now second vb taken ≡ false →
      IsNextBlend limits target1 target2 before now first second vb taken
  next-down limits target1 target2 before now first second vb is has taken step goes =
      let ahead : LieAhead (now -ℤ target1) (now -ℤ target2) (before -ℤ now) = has.ahead in
      let passing : pos 1 ≤ℤ vb = is.within.least_passing in
      let may : MayBlend (now -ℤ target1) (now -ℤ target2) (before -ℤ now) first second vb (neg_ℤ taken) =
      rw step (blend-may searches toward _ _ _ first second vb is.first_ok is.second_ok passing has) in
      let some : pos 1 ≤ℤ neg_ℤ taken = rw step (step-some ways searches _ _ _ first second vb is.first_ok is.second_ok passing has) in
      let none : Crosses (now -ℤ target1) (now -ℤ target2) second vb (neg_ℤ taken) → ⊥ =
      not-crossing (now -ℤ target1) (now -ℤ target2) second vb (neg_ℤ taken)
      (sym (crossed-down target1 target2 now second vb taken (omega (arith, ints, ahead.second))) ∙ goes) in
      let short : neg_ℤ taken ≤ℤ (now -ℤ target1) =
      step-short ways _ _ _ first second vb (neg_ℤ taken) is.first_ok is.second_ok ahead passing may none in
      record {
        has = inr (has-same _ _ _ _ _ _ first second vb (omega (arith, ints)) (omega (arith, ints)) (omega (arith, ints))
            (next-step ways sums _ _ _ first second vb (neg_ℤ taken) is.first_ok is.second_ok ahead passing may none));
        nearer = omega (arith, ints);
      }

module _ (ways : AreWays) (searches : AreSearches) (sums : AreSums) (toward : AreTowardZero) (steps : AreSafeSteps) where
  pub next-blend : (limits : Limits) (target1 target2 before now vb : ℤ) (first second : Rates) →
      IsBlended limits target1 target2 before now first second vb →
      HasBlend target1 target2 before now first second vb →
      has_crossed target1 target2 now second vb (blend_taken_of limits target1 target2 before now first second vb) ≡ false →
      IsNextBlend limits target1 target2 before now first second vb
      (blend_taken_of limits target1 target2 before now first second vb)
  next-blend limits target1 target2 before now vb first second is (inl has) goes =
      next-up ways searches sums toward limits target1 target2 before now first second vb is has _
      (taken-blend searches toward steps limits target1 target2 before now vb first second is (inl has)
      ∙ wanted-up target1 target2 before now first second vb has.ahead) goes
  next-blend limits target1 target2 before now vb first second is (inr has) goes =
      let taken : blend_taken_of limits target1 target2 before now first second vb
      ≡ neg_ℤ (blend_step_of (now -ℤ target1) (now -ℤ target2) (before -ℤ now) first second vb) =
      taken-blend searches toward steps limits target1 target2 before now vb first second is (inr has)
      ∙ wanted-down target1 target2 before now first second vb has.ahead in
      next-down ways searches sums toward limits target1 target2 before now first second vb is has _ (omega (arith, ints)) goes

  -- within n + 1 cycles a blend crosses whose first target is at most n units away
  pub crosses-in : (n : ℕ) (limits : Limits) (target1 target2 before now vb : ℤ) (first second : Rates) →
      IsBlended limits target1 target2 before now first second vb →
      HasBlend target1 target2 before now first second vb → unsigned_abs (target1 -ℤ now) ≤ n →
      CrossesWithin (suc n) limits target1 target2 before now first second vb
  crosses-in zero limits target1 target2 before now vb first second is has near =
      by-test (has_crossed target1 target2 now second vb (blend_taken_of limits target1 target2 before now first second vb))
      (λ crossed. inl crossed)
      (λ goes. absurd (omega (arith, near, (next-blend limits target1 target2 before now vb first second is has goes).nearer)))
  crosses-in (suc n) limits target1 target2 before now vb first second is has near =
      by-test (has_crossed target1 target2 now second vb (blend_taken_of limits target1 target2 before now first second vb))
      (λ crossed. inl crossed)
      (λ goes.
      let next : IsNextBlend limits target1 target2 before now first second vb
      (blend_taken_of limits target1 target2 before now first second vb) =
      next-blend limits target1 target2 before now vb first second is has goes in
      inr (crosses-in n limits target1 target2 now _ vb first second
      (blended-next steps limits target1 target2 before now first second vb is) next.has (omega (arith, near, next.nearer))))
