-- Moves arrive in time: first the old step is slowed, then the axis speeds up and cruises, then it
-- brakes onto the target.
-- for: moves_arrive_in_time
use Rattle.std.proofs.Common.{◌≡◌, ℕ, zero, suc, ◌+◌, ◌-◌, ◌*◌, ◌/◌, ◌%◌, ◌≤◌, ◌<◌, ℤ, pos, neg_ℤ, ◌<ℤ◌, ◌≤ℤ◌, ◌-ℤ◌, ◌+ℤ◌, unsigned_abs, min, arith, refl, ◌∙◌, sym, ap, inl, inr}
use Rattle.std.specs.Int.{div_ceil}
use Rattle.std.proofs.lemmas.Int.{ints, by_lt_z}
use Rattle.std.proofs.lemmas.Nat.{div-add-mod', mod_below, mul-le}
use Rattle.plc_types.specs.declared.limits.Limits.{Limits}
use Rattle.plc_types.specs.Limits.{AreLimits}
use Rattle.kin_core.specs.Admissible.{IsKept}
use Rattle.motion_numbers.specs.Run.{run_of, reach_of}
use Rattle.kin_core.specs.Toward.{toward_zero}
use Rattle.command_pool.specs.declared.rates.Rates.{Rates}
use Rattle.std.proofs.lemmas.Bool.{cases_lt}
use Rattle.command_pool.specs.Rates.{AreRates}
use Rattle.trapezoid_plan.specs.CyclesBound.{cycles_of_sizes}
use Rattle.trapezoid_plan.specs.MoveStep.{step_ahead_of, move_step_of}
use Rattle.trapezoid_plan.specs.MoveRun.{IsMoveWithin, move_taken_of, IsDoneWithin}
use Rattle.trapezoid_plan.proofs.StepsAhead.{move_step-forward, move_step-backward, move_step-slowed}
use Rattle.trapezoid_plan.proofs.MoveSteps.{ahead-closed}
use Rattle.trapezoid_plan.proofs.TakenMoves.{IsUnderWay, LiesAhead, upward, downward, IsBraked, goes-on, slowed-taken, under-way-next}
use Rattle.motion_numbers.specs.Laws.{AreWays, AreSearches}
use Rattle.kin_core.specs.Laws.{AreTowardZero, AreSafeSteps}

-- the way is that of braking from w, but for less than one more
record IsTight (d l w e : ℕ) : Type 0 where
  least : run_of (w - d) d ≤ l
  most : l ≤ run_of (w + e - d) d
  one : e ≤ 1

-- what a tight way of more than 0 says of the next step
record IsTightStep (d l w e u : ℕ) : Type 0 where
  above : w - d ≤ u
  below : u ≤ w + e - d
  full : d ≤ w
  some : 0 < u
  fits : run_of u d ≤ l
  next : IsTight d (l - u) u (w + e - d - u)

-- one of a number of addends
times-less : (i a : ℕ) → 0 < i → i * a ≡ (i - 1) * a + a
times-less zero a some = absurd (omega arith)
times-less (suc i) a some = let less : suc i - 1 ≡ i = omega arith in rw less (omega arith)

-- the stages of a move: cycles to speed up, of the velocity, and to brake
record AreStages (rates : Rates) (i j k r : ℕ) : Type 0 where
  ups : unsigned_abs rates.v ≤ i * unsigned_abs rates.a
  flats : min r 2000000000000000 ≤ j * unsigned_abs rates.v
  downs : unsigned_abs rates.v < k * unsigned_abs rates.d

-- what the next cycles need where the old step is slowed
record IsSlowing (rates : Rates) (target before now : ℤ) : Type 0 where
  slows : move_step_of (target -ℤ now) (now -ℤ before) rates ≡ toward_zero (now -ℤ before) rates.d

slow-else : (rates : Rates) (target before now : ℤ) →
    (pos 0 <ℤ (target -ℤ now) → pos 0 ≤ℤ (now -ℤ before) → ⊥) →
    ((target -ℤ now) <ℤ pos 0 → (now -ℤ before) ≤ℤ pos 0 → ⊥) → IsSlowing rates target before now
slow-else rates target before now p q = record {
  slows = sym
      (move_step-slowed rates (target -ℤ now) (now -ℤ before) _ p q refl);
}

-- either a step may follow toward the target, or the old step is slowed
data Choice (rates : Rates) (target before now : ℤ) : Type 0 where
  may_go : (l w : ℕ) → LiesAhead target before now l w → 0 < l → l ≡ unsigned_abs (target -ℤ now) →
      run_of (w - unsigned_abs rates.d) (unsigned_abs rates.d) ≤ l →
      w - unsigned_abs rates.d ≤ unsigned_abs rates.v → Choice rates target before now
  must_slow : IsSlowing rates target before now → Choice rates target before now

-- a slowed step, in sizes
record IsSlowedTo (v u z d : ℕ) : Type 0 where
  size : z ≡ u
  less : u ≤ v - d

slowed-sizes : (v t z d : ℤ) → z ≡ t → IsBraked v t d →
    IsSlowedTo (unsigned_abs v) (unsigned_abs t) (unsigned_abs z) (unsigned_abs d)
slowed-sizes v t z d is braked = record { size = omega (arith, ints); less = braked.slower }

fewer-falls : (v u z d m : ℕ) → IsSlowedTo v u z d → d ≤ v → v < m * d → z < (m - 1) * d
fewer-falls v u z d zero slowed more short = absurd (omega arith)
fewer-falls v u z d (suc m) slowed more short = let less : suc m - 1 ≡ m = omega arith in rw less
    (omega (arith, slowed.size, slowed.less))

some-falls : (v d m : ℕ) → v < m * d → 0 < m
some-falls v d zero short = absurd (omega arith)
some-falls v d (suc m) short = omega arith

-- a quotient that is rounded up covers its dividend
covers : (n d : ℕ) → 0 < d → n ≤ div_ceil n d * d
covers n d some =
    let parts : n / d * d + n % d ≡ n = div-add-mod' n d in
    let below : n % d < d = mod_below n d some in
    elim (cases_lt 0 (n % d)) [
      | inl rest ↦ let up : min 1 (n % d) ≡ 1 = omega arith in rw up (omega arith)
      | inr none ↦ let even : min 1 (n % d) ≡ 0 = omega arith in rw even (omega arith)
    ]

-- one whole part more is past it
passes : (n d : ℕ) → 0 < d → n < (n / d + 1) * d
passes n d some =
    let parts : n / d * d + n % d ≡ n = div-add-mod' n d in
    let below : n % d < d = mod_below n d some in
    omega arith

module _ (ways : AreWays) where
  open ways use {reach_fits, reach_greatest, run_less, run_mono, run_small, run_unfold, run_zero}

  -- a greatest step leaves a tight way
  tight-start : (d l : ℕ) → 0 < d → IsTight d (l - reach_of l d) (reach_of l d) 1
  tight-start d l some =
      let fits : run_of (reach_of l d) d ≤ l = reach_fits l d in
      let unfold_here : run_of (reach_of l d) d ≡ reach_of l d + run_of (reach_of l d - d) d =
      run_unfold (reach_of l d) d some in
      let unfold_next : run_of (reach_of l d + 1) d ≡ reach_of l d + 1 + run_of (reach_of l d + 1 - d) d =
      run_unfold (reach_of l d + 1) d some in
      let over : l < run_of (reach_of l d + 1) d =
      elim (cases_lt l (run_of (reach_of l d + 1) d)) [
        | inl h ↦ h
        | inr more ↦ absurd (omega (arith, reach_greatest (reach_of l d + 1) l d some more))
      ] in
      record { least = omega arith; most = omega arith; one = omega arith }

  tight-step : (d l w e : ℕ) → 0 < d → 0 < l → IsTight d l w e → IsTightStep d l w e (reach_of l d)
  tight-step d l w e some way tight =
      let fits : run_of (reach_of l d) d ≤ l = reach_fits l d in
      let above : w - d ≤ reach_of l d = reach_greatest (w - d) l d some tight.least in
      let goes : 0 < w + e - d =
      elim (cases_lt 0 (w + e - d)) [
        | inl h ↦ h
        | inr none ↦ let rest : w + e - d ≡ 0 = omega arith in let last : l ≤ run_of 0 d = rw rest at tight.most in absurd
            (omega (arith, run_zero d))
      ] in
      let below : reach_of l d ≤ w + e - d =
      elim (cases_lt (w + e - d) (reach_of l d)) [
        | inl more ↦ absurd
            (omega (arith, run_less (w + e - d) (reach_of l d) d some more, tight.most))
        | inr h ↦ h
      ] in
      let start : IsTight d (l - reach_of l d) (reach_of l d) 1 = tight-start d l some in
      let first : run_of 1 d ≡ 1 = run_small 1 d some some in
      let one : 1 ≤ reach_of l d = reach_greatest 1 l d some (omega arith) in
      let unfold_here : run_of (reach_of l d) d ≡ reach_of l d + run_of (reach_of l d - d) d =
      run_unfold (reach_of l d) d some in
      record {
        above = above;
        below = below;
        full = omega (arith, tight.one);
        some = one;
        fits = fits;
        next = elim (cases_lt (reach_of l d) (w + e - d)) [
          | inl short ↦ let left : w + e - d - reach_of l d ≡ 1 = omega (arith, tight.one) in rw left start
          | inr whole ↦ let left : w + e - d - reach_of l d ≡ 0 = omega arith in
              let same : w + e - d ≡ reach_of l d = omega arith in
              let most : l ≤ run_of (reach_of l d) d = rw same at tight.most in
              let plain : reach_of l d + 0 ≡ reach_of l d = omega arith in
              rw left (record { least = start.least; most = rw plain (omega arith); one = omega arith })
        ];
      }

  -- the distance with the way back of the braking doesn't grow
  reserve : (v u z d x y r : ℕ) → 0 < d → IsSlowedTo v u z d → y ≤ x + u → x + run_of v d ≤ r →
      y + run_of z d ≤ r
  reserve v u z d x y r some slowed near within =
      let whole : run_of v d ≡ v + run_of (v - d) d = run_unfold v d some in
      let shorter : run_of u d ≤ run_of (v - d) d = run_mono u (v - d) d some slowed.less in
      rw slowed.size (omega (arith, slowed.less))

module _ (toward : AreTowardZero) where
  open toward use {ahead as toward_zero-ahead, turned as toward_zero-turned}

  slow-up : (rates : Rates) (target before now : ℤ) → AreRates rates → pos 0 <ℤ (target -ℤ now) →
      pos 0 ≤ℤ (now -ℤ before) →
      step_ahead_of (unsigned_abs (target -ℤ now)) (unsigned_abs (now -ℤ before)) rates ≡ unsigned_abs
      (now -ℤ before) - unsigned_abs rates.d → IsSlowing rates target before now
  slow-up rates target before now ok way forward slowed = record {
    slows = sym (move_step-forward rates (target -ℤ now) (now -ℤ before) _ _ _ way forward refl refl refl)
        ∙ ap pos slowed ∙ sym (toward_zero-ahead (now -ℤ before) rates.d forward (omega (arith, ints)));
  }

  slow-down : (rates : Rates) (target before now : ℤ) → AreRates rates → (target -ℤ now) <ℤ pos 0 →
      (now -ℤ before) ≤ℤ pos 0 →
      step_ahead_of (unsigned_abs (target -ℤ now)) (unsigned_abs (now -ℤ before)) rates ≡ unsigned_abs
      (now -ℤ before) - unsigned_abs rates.d → IsSlowing rates target before now
  slow-down rates target before now ok way backward slowed =
      let size : unsigned_abs (neg_ℤ (now -ℤ before)) ≡ unsigned_abs (now -ℤ before) = omega (arith, ints) in
      let mirrored : pos (unsigned_abs (neg_ℤ (now -ℤ before)) - unsigned_abs rates.d) ≡ toward_zero
      (neg_ℤ (now -ℤ before)) rates.d =
      sym (toward_zero-ahead (neg_ℤ (now -ℤ before)) rates.d (omega (arith, ints)) (omega (arith, ints))) in
      let turned : toward_zero (neg_ℤ (now -ℤ before)) rates.d ≡ neg_ℤ (toward_zero (now -ℤ before) rates.d) =
      toward_zero-turned (now -ℤ before) rates.d (omega (arith, ints)) in
      let wanted : neg_ℤ (pos (step_ahead_of (unsigned_abs (target -ℤ now))
      (unsigned_abs (now -ℤ before)) rates)) ≡ move_step_of (target -ℤ now) (now -ℤ before) rates =
      move_step-backward rates (target -ℤ now) (now -ℤ before) _ _ _ way backward refl refl refl in
      record { slows = omega (arith, ints) }

module _ (steps : AreSafeSteps) where
  -- at the target a step up to the deceleration is the last
  arrived : (n : ℕ) (limits : Limits) (rates : Rates) (target before now : ℤ) →
      IsUnderWay limits rates target before now → now ≡ target →
      unsigned_abs (now -ℤ before) ≤ unsigned_abs rates.d → IsDoneWithin (suc n) limits rates target before now
  arrived n limits rates target before now goes here slow =
      let slows : toward_zero (now -ℤ before) rates.d ≡ move_step_of (target -ℤ now) (now -ℤ before) rates =
      move_step-slowed rates (target -ℤ now) (now -ℤ before) _ (λ p q. omega (arith, ints))
      (λ p q. omega (arith, ints)) refl in
      let cut = slowed-taken steps limits rates target before now goes (sym slows) in
      inl (here, omega (arith, ints, cut.slower))

  arrived-ahead : (n : ℕ) (limits : Limits) (rates : Rates) (target before now : ℤ) (l w : ℕ) →
      IsUnderWay limits rates target before now → LiesAhead target before now l w → l ≡ 0 →
      w ≤ unsigned_abs rates.d → IsDoneWithin (suc n) limits rates target before now
  arrived-ahead n limits rates target before now l w goes
      (upward way speed) none slow = arrived n limits rates target before now goes (omega (arith, ints))
      (omega (arith, ints))
  arrived-ahead n limits rates target before now l w goes
      (downward way speed) none slow = arrived n limits rates target before now goes (omega (arith, ints))
      (omega (arith, ints))

module _ (ways : AreWays) (searches : AreSearches) where
  open ways use {fits_below_reach}

  -- the step ahead is the slowed old step where none may follow
  ahead-none : (rates : Rates) (l w : ℕ) → AreRates rates →
      (run_of (w - unsigned_abs rates.d) (unsigned_abs rates.d) ≤ l →
      w - unsigned_abs rates.d ≤ unsigned_abs rates.v → ⊥) →
      step_ahead_of l w rates ≡ w - unsigned_abs rates.d
  ahead-none rates l w ok none =
      let some : 0 < unsigned_abs rates.d = omega (arith, ints) in
      ahead-closed ways searches rates l w ok ∙
      elim (cases_lt (w - unsigned_abs rates.d) (min (min (unsigned_abs rates.v) (w + unsigned_abs rates.a))
      (reach_of l (unsigned_abs rates.d)))) [
        | inl below ↦ absurd (none (fits_below_reach (w - unsigned_abs rates.d) l (unsigned_abs rates.d) some
            (omega arith)) (omega arith))
        | inr above ↦ omega arith
      ]

module _ (ways : AreWays) (searches : AreSearches) (toward : AreTowardZero) where
  choice : (rates : Rates) (target before now : ℤ) → AreRates rates → Choice rates target before now
  choice rates target before now ok =
      by_lt_z (pos 0) (target -ℤ now)
      (λ way. by_lt_z (now -ℤ before) (pos 0)
      (λ back. must_slow (slow-else rates target before now (λ p q. omega (arith, ints))
      (λ p q. omega (arith, ints))))
      (λ forward. elim (cases_lt (unsigned_abs (target -ℤ now)) (run_of (unsigned_abs (now -ℤ before) - unsigned_abs rates.d) (unsigned_abs rates.d))) [
        | inl long ↦ must_slow (slow-up toward rates target before now ok way forward
            (ahead-none ways searches rates _ _ ok (λ fits quick. omega arith)))
        | inr fits ↦ elim (cases_lt (unsigned_abs rates.v) (unsigned_abs (now -ℤ before) - unsigned_abs rates.d)) [
          | inl fast ↦ must_slow (slow-up toward rates target before now ok way forward
              (ahead-none ways searches rates _ _ ok (λ fit quick. omega arith)))
          | inr quick ↦ may_go (unsigned_abs (target -ℤ now)) (unsigned_abs (now -ℤ before))
              (upward (omega (arith, ints)) (omega (arith, ints))) (omega (arith, ints)) refl fits quick
        ]
      ]))
      (λ not_up. by_lt_z (target -ℤ now) (pos 0)
      (λ way. by_lt_z (pos 0) (now -ℤ before)
      (λ back. must_slow (slow-else rates target before now (λ p q. omega (arith, ints))
      (λ p q. omega (arith, ints))))
      (λ backward. elim (cases_lt (unsigned_abs (target -ℤ now)) (run_of (unsigned_abs (now -ℤ before) - unsigned_abs rates.d) (unsigned_abs rates.d))) [
        | inl long ↦ must_slow (slow-down toward rates target before now ok way backward
            (ahead-none ways searches rates _ _ ok (λ fits quick. omega arith)))
        | inr fits ↦ elim (cases_lt (unsigned_abs rates.v) (unsigned_abs (now -ℤ before) - unsigned_abs rates.d)) [
          | inl fast ↦ must_slow (slow-down toward rates target before now ok way backward
              (ahead-none ways searches rates _ _ ok (λ fit quick. omega arith)))
          | inr quick ↦ may_go (unsigned_abs (target -ℤ now)) (unsigned_abs (now -ℤ before))
              (downward (omega (arith, ints)) (omega (arith, ints))) (omega (arith, ints)) refl fits quick
        ]
      ]))
      (λ here. must_slow (slow-else rates target before now (λ p q. omega (arith, ints))
      (λ p q. omega (arith, ints)))))

module _ (ways : AreWays) (searches : AreSearches) (steps : AreSafeSteps) where
  open ways use {fits_below_reach, reach_greatest, run_ge, run_small, run_unfold, run_zero}

  -- braking onto the target
  tight-done : (k : ℕ) (limits : Limits) (rates : Rates) (target before now : ℤ) (l w e : ℕ) →
      IsUnderWay limits rates target before now → LiesAhead target before now l w →
      IsTight (unsigned_abs rates.d) l w e →
      w ≤ unsigned_abs rates.v → w + e < k * unsigned_abs rates.d →
      IsDoneWithin k limits rates target before now
  tight-done zero limits rates target before now l w e goes ahead tight slow few = absurd (omega arith)
  tight-done (suc k) limits rates target before now l w e goes ahead tight slow few =
      let rates_ok : AreRates rates = goes.rates_ok in
      let some : 0 < unsigned_abs rates.d = omega (arith, ints) in
      elim (cases_lt 0 l) [
        | inl way ↦ let step : IsTightStep (unsigned_abs rates.d) l w e (reach_of l (unsigned_abs rates.d)) =
            tight-step ways (unsigned_abs rates.d) l w e some way tight in
            let is : step_ahead_of l w rates ≡ reach_of l (unsigned_abs rates.d) =
            ahead-closed ways searches rates l w rates_ok ∙ omega (arith, step.above, step.below, tight.one, step.full) in
            goes-on steps k limits rates target before now l w (reach_of l (unsigned_abs rates.d)) goes ahead way is
            (record {
              velocity = omega (arith, step.below, tight.one);
              deceleration = step.above;
              acceleration = omega
                  (arith, step.below, tight.one);
              run = step.fits;
            })
            (omega (arith, run_ge (reach_of l (unsigned_abs rates.d)) (unsigned_abs rates.d) some, step.fits))
            (λ next goes_next ahead_next.
            tight-done k limits rates target now next (l - reach_of l (unsigned_abs rates.d))
            (reach_of l (unsigned_abs rates.d))
            (w + e - unsigned_abs rates.d - reach_of l (unsigned_abs rates.d)) goes_next ahead_next step.next
            (omega (arith, step.below, tight.one))
            (fewer w e (unsigned_abs rates.d) (reach_of l (unsigned_abs rates.d)) k step.below step.full few))
        | inr none ↦ let there : l ≡ 0 = omega arith in
            arrived-ahead steps k limits rates target before now l w goes ahead there
            (elim (cases_lt (unsigned_abs rates.d) w) [
              | inl more ↦ absurd
                  (omega (arith, tight.least, run_ge (w - unsigned_abs rates.d) (unsigned_abs rates.d) some))
              | inr h ↦ h
            ])
      ]
    where
      fewer : (w e d u k : ℕ) → u ≤ w + e - d → d ≤ w → w + e < suc k * d → u + (w + e - d - u) < k * d
      fewer w e d u k below full few = omega arith

  -- speeding up and cruising: at most i steps up, j steps of the velocity, k steps down and two
  -- more
  cruise-done : (t i j k : ℕ) (limits : Limits) (rates : Rates) (target before now : ℤ) (l w : ℕ) →
      IsUnderWay limits rates target before now → LiesAhead target before now l w → 0 < l →
      run_of (w - unsigned_abs rates.d) (unsigned_abs rates.d) ≤ l →
      w - unsigned_abs rates.d ≤ unsigned_abs rates.v →
      unsigned_abs rates.v ≤ w + i * unsigned_abs rates.a → l ≤ j * unsigned_abs rates.v →
      unsigned_abs rates.v < k * unsigned_abs rates.d → i + j + k < t →
      IsDoneWithin t limits rates target before now
  cruise-done zero i j k limits rates target before now l w goes ahead way fits slow ups flats downs few = absurd (omega arith)
  cruise-done (suc zero) i j k limits rates target before now l w goes ahead way fits slow ups flats downs few =
      let none : k ≡ 0 = omega arith in
      let over : unsigned_abs rates.v < 0 * unsigned_abs rates.d = rw none at downs in absurd (omega arith)
  cruise-done (suc (suc t)) i j k limits rates target before now l w goes ahead way fits slow ups flats downs few =
      let rates_ok : AreRates rates = goes.rates_ok in
      let some : 0 < unsigned_abs rates.d = omega (arith, ints) in
      let rises : 0 < unsigned_abs rates.a = omega (arith, ints) in
      let moves : 0 < unsigned_abs rates.v = omega (arith, ints) in
      let least : w - unsigned_abs rates.d ≤ reach_of l (unsigned_abs rates.d) =
      reach_greatest _ l (unsigned_abs rates.d) some fits in
      let first : run_of 1 (unsigned_abs rates.d) ≡ 1 = run_small 1 (unsigned_abs rates.d) some some in
      let one : 1 ≤ reach_of l (unsigned_abs rates.d) =
      reach_greatest 1 l (unsigned_abs rates.d) some (omega arith) in
      let is : step_ahead_of l w rates ≡ min (min (unsigned_abs rates.v) (w + unsigned_abs rates.a))
      (reach_of l (unsigned_abs rates.d)) =
      ahead-closed ways searches rates l w rates_ok ∙ omega arith in
      let run : run_of (step_ahead_of l w rates) (unsigned_abs rates.d) ≤ l =
      fits_below_reach (step_ahead_of l w rates) l (unsigned_abs rates.d) some (omega arith) in
      let short : step_ahead_of l w rates ≤ l =
      omega (arith, run_ge (step_ahead_of l w rates) (unsigned_abs rates.d) some) in
      let parts : run_of (step_ahead_of l w rates) (unsigned_abs rates.d) ≡ step_ahead_of l w rates + run_of
      (step_ahead_of l w rates - unsigned_abs rates.d) (unsigned_abs rates.d) =
      run_unfold (step_ahead_of l w rates) (unsigned_abs rates.d) some in
      goes-on steps (suc t) limits rates target before now l w (step_ahead_of l w rates) goes ahead way refl
      (record { velocity = omega arith; deceleration = omega arith; acceleration = omega arith; run = run })
      short
      (λ next goes_next ahead_next.
      elim (cases_lt (step_ahead_of l w rates) l) [
        | inl more ↦ elim (cases_lt (reach_of l (unsigned_abs rates.d)) (min (unsigned_abs rates.v) (w + unsigned_abs rates.a))) [
          | inl brakes ↦ let reached : step_ahead_of l w rates ≡ reach_of l (unsigned_abs rates.d) = omega arith in
              let enough : k * unsigned_abs rates.d ≤ suc t * unsigned_abs rates.d =
              mul-le k (unsigned_abs rates.d) (suc t) (unsigned_abs rates.d) (omega arith) (omega arith) in
              tight-done (suc t) limits rates target now next (l - step_ahead_of l w rates)
              (step_ahead_of l w rates) 1 goes_next ahead_next
              (rw reached (tight-start ways (unsigned_abs rates.d) l some))
              (omega arith) (omega arith)
          | inr free ↦ elim (cases_lt (w + unsigned_abs rates.a) (unsigned_abs rates.v)) [
            | inl up ↦ let step : step_ahead_of l w rates ≡ w + unsigned_abs rates.a = omega arith in
                let some_up : 0 < i =
                elim (cases_lt 0 i) [
                  | inl h ↦ h
                  | inr none ↦ let zero_up : i ≡ 0 = omega arith in let at_once : unsigned_abs rates.v ≤ w + 0 * unsigned_abs rates.a = rw zero_up at ups in absurd (omega arith)
                ] in
                cruise-done (suc t) (i - 1) j k limits rates target now next (l - step_ahead_of l w rates)
                (step_ahead_of l w rates) goes_next ahead_next
                (omega arith) (omega arith) (omega arith) (omega (arith, times-less i (unsigned_abs rates.a) some_up))
                (omega arith) downs (omega arith)
            | inr flat ↦ let step : step_ahead_of l w rates ≡ unsigned_abs rates.v = omega arith in
                let some_flat : 0 < j =
                elim (cases_lt 0 j) [
                  | inl h ↦ h
                  | inr none ↦ let zero_flat : j ≡ 0 = omega arith in let at_once : l ≤ 0 * unsigned_abs rates.v = rw zero_flat at flats in absurd (omega arith)
                ] in
                cruise-done (suc t) i (j - 1) k limits rates target now next (l - step_ahead_of l w rates)
                (step_ahead_of l w rates) goes_next ahead_next
                (omega arith) (omega arith) (omega arith) (omega arith)
                (omega (arith, times-less j (unsigned_abs rates.v) some_flat)) downs (omega arith)
          ]
        ]
        | inr whole ↦ arrived-ahead steps t limits rates target now next (l - step_ahead_of l w rates)
            (step_ahead_of l w rates) goes_next ahead_next (omega arith)
            (elim (cases_lt (unsigned_abs rates.d) (step_ahead_of l w rates)) [
              | inl over ↦ absurd (omega (
                arith,
                run_ge (step_ahead_of l w rates - unsigned_abs rates.d)
                    (unsigned_abs rates.d) some,
              ))
              | inr h ↦ h
            ])
      ])

  -- once a step may follow
  follows-done : (t i j k r : ℕ) (limits : Limits) (rates : Rates) (target before now : ℤ) (l w : ℕ) →
      IsUnderWay limits rates target before now → LiesAhead target before now l w → AreStages rates i j k r →
      0 < l → l ≤ r → l ≤ 2000000000000000 →
      run_of (w - unsigned_abs rates.d) (unsigned_abs rates.d) ≤ l →
      w - unsigned_abs rates.d ≤ unsigned_abs rates.v → i + j + k < t →
      IsDoneWithin t limits rates target before now
  follows-done t i j k r limits rates target before now l w goes ahead stages way within short fits slow few =
      cruise-done t i j k limits rates target before now l w goes ahead way fits slow
      (omega (arith, stages.ups)) (omega (arith, stages.flats)) stages.downs few

  -- from rest a step may follow in either direction
  rest-done : (t i j k r : ℕ) (limits : Limits) (rates : Rates) (target before now : ℤ) →
      IsUnderWay limits rates target before now → AreStages rates i j k r → now ≡ before → (now ≡ target → ⊥) →
      unsigned_abs (target -ℤ now) ≤ r → unsigned_abs (target -ℤ now) ≤ 2000000000000000 →
      i + j + k < t → IsDoneWithin t limits rates target before now
  rest-done t i j k r limits rates target before now goes stages still elsewhere within short few =
      let none : 0 - unsigned_abs rates.d ≡ 0 = omega arith in
      let fits : run_of (0 - unsigned_abs rates.d) (unsigned_abs rates.d) ≤ unsigned_abs (target -ℤ now) =
      rw none (omega (arith, run_zero (unsigned_abs rates.d))) in
      by_lt_z now target
      (λ up. follows-done t i j k r limits rates target before now (unsigned_abs (target -ℤ now)) 0 goes
      (upward (omega (arith, ints)) (omega (arith, ints))) stages (omega (arith, ints)) within short fits
      (omega arith) few)
      (λ down. follows-done t i j k r limits rates target before now (unsigned_abs (target -ℤ now)) 0 goes
      (downward (omega (arith, ints)) (omega (arith, ints))) stages
      (unequal now target elsewhere) within short fits (omega arith) few)
    where
      unequal : (a b : ℤ) → (a ≡ b → ⊥) → 0 < unsigned_abs (b -ℤ a)
      unequal a b differ = elim (cases_lt 0 (unsigned_abs (b -ℤ a))) [
        | inl h ↦ h
        | inr none ↦ absurd (differ (omega (arith, ints)))
      ]

module _ (ways : AreWays) (searches : AreSearches) (toward : AreTowardZero) (steps : AreSafeSteps) where
  -- the axis slows, and then goes on
  approach-done : (t m i j k r : ℕ) (limits : Limits) (rates : Rates) (target before now : ℤ) →
      (limits.hi -ℤ limits.lo) ≤ℤ pos 2000000000000000 → IsUnderWay limits rates target before now →
      AreStages rates i j k r →
      unsigned_abs (target -ℤ now) + run_of (unsigned_abs (now -ℤ before)) (unsigned_abs rates.d) ≤ r →
      unsigned_abs (now -ℤ before) < m * unsigned_abs rates.d → m + i + j + k < t →
      IsDoneWithin t limits rates target before now
  approach-done zero m i j k r limits rates target before now range goes stages within falls few = absurd
      (omega arith)
  approach-done (suc t) m i j k r limits rates target before now range goes stages within falls few =
      let rates_ok : AreRates rates = goes.rates_ok in
      let inside : IsMoveWithin limits rates target = goes.within in
      let kept : IsKept limits before now = goes.kept in
      let some : 0 < unsigned_abs rates.d = omega (arith, ints) in
      let short : unsigned_abs (target -ℤ now) ≤ 2000000000000000 = omega (arith, ints) in
      elim (choice ways searches toward rates target before now rates_ok) [
        | may_go l w ahead way is fits quick ↦ follows-done ways searches steps
            (suc t) i j k r limits rates target before now l w goes ahead stages way (omega arith)
            (omega arith) fits quick (omega arith)
        | must_slow slowing ↦
            let cut = slowed-taken steps limits rates target before now goes slowing.slows in
            let goes_next : IsUnderWay limits rates target now
            (now +ℤ move_taken_of limits rates target before now) =
            under-way-next steps limits rates target before now goes in
            let slowed : IsSlowedTo (unsigned_abs (now -ℤ before))
            (unsigned_abs (move_taken_of limits rates target before now))
            (unsigned_abs (now +ℤ move_taken_of limits rates target before now -ℤ now))
            (unsigned_abs rates.d) =
            slowed-sizes (now -ℤ before) (move_taken_of limits rates target before now)
            (now +ℤ move_taken_of limits rates target before now -ℤ now) rates.d
            (omega (arith, ints)) cut in
            let reserved : unsigned_abs (target -ℤ
            (now +ℤ move_taken_of limits rates target before now)) + run_of
            (unsigned_abs (now +ℤ move_taken_of limits rates target before now -ℤ now))
            (unsigned_abs rates.d) ≤ r =
            reserve ways _ _ _ (unsigned_abs rates.d) (unsigned_abs (target -ℤ now)) _ r some slowed
            (omega (arith, ints)) within in
            elim (cases_lt (unsigned_abs (now -ℤ before)) (unsigned_abs rates.d)) [
              | inl last ↦ let still : move_taken_of limits rates target before now ≡ pos 0 =
                  omega (arith, ints, slowed.less) in
                  elim (cases_lt 0 (unsigned_abs (target -ℤ now))) [
                    | inl away ↦ inr (rest-done ways searches steps t i j k r limits rates target now
                        (now +ℤ move_taken_of limits rates target before now) goes_next stages
                        (omega (arith, ints)) (λ there. omega (arith, ints)) (omega (arith, ints)) (omega (arith, ints))
                        (omega (arith, some-falls (unsigned_abs (now -ℤ before)) (unsigned_abs rates.d) m falls)))
                    | inr there ↦ inl (omega (arith, ints), still)
                  ]
              | inr more ↦ inr (approach-done t (m - 1) i j k r limits rates target now
                  (now +ℤ move_taken_of limits rates target before now) range goes_next stages reserved
                  (fewer-falls _ _ _ (unsigned_abs rates.d) m slowed more falls)
                  (omega (arith, some-falls (unsigned_abs (now -ℤ before)) (unsigned_abs rates.d) m falls)))
            ]
      ]

  -- the move is done within its cycles bound
  pub move-done : (limits : Limits) (rates : Rates) (target before now : ℤ) → AreLimits limits →
      (limits.hi -ℤ limits.lo) ≤ℤ pos 2000000000000000 → AreRates rates → IsMoveWithin limits rates target →
      IsKept limits before now →
      IsDoneWithin (cycles_of_sizes (unsigned_abs (target -ℤ now))
      (unsigned_abs (now -ℤ before)) rates) limits rates target before now
  unfolding cycles_of_sizes
  move-done limits rates target before now limits_ok range rates_ok within kept =
      approach-done _ (unsigned_abs (now -ℤ before) / unsigned_abs rates.d + 1)
      (div_ceil (unsigned_abs rates.v) (unsigned_abs rates.a))
      (div_ceil (min (unsigned_abs (target -ℤ now) + run_of (unsigned_abs (now -ℤ before))
      (unsigned_abs rates.d)) 2000000000000000) (unsigned_abs rates.v))
      (unsigned_abs rates.v / unsigned_abs rates.d + 1)
      (unsigned_abs (target -ℤ now) + run_of (unsigned_abs (now -ℤ before)) (unsigned_abs rates.d))
      limits rates target before now range
      (record { limits_ok = limits_ok; rates_ok = rates_ok; within = within; kept = kept })
      (record {
        ups = covers (unsigned_abs rates.v) (unsigned_abs rates.a) (omega (arith, ints));
        flats = covers _ (unsigned_abs rates.v) (omega (arith, ints));
        downs = passes (unsigned_abs rates.v) (unsigned_abs rates.d) (omega (arith, ints));
      })
      (omega arith)
      (passes (unsigned_abs (now -ℤ before)) (unsigned_abs rates.d) (omega (arith, ints)))
      (omega arith)
