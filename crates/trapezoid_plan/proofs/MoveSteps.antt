-- The steps that may follow in whole numbers, and the move step among them.
-- for: move_step, move_steps_are_greatest, move_steps_are_safe and others
use Rattle.std.proofs.Common.{◌≡◌, ℕ, ◌+◌, ◌-◌, ◌≤◌, ◌<◌, ℤ, pos, neg_ℤ, ◌<ℤ◌, ◌≤ℤ◌, unsigned_abs, max, min, arith, refl, ◌∙◌, sym, ap, inl, inr}
use Rattle.std.proofs.lemmas.Int.{ints, by_lt_z}
use Rattle.motion_numbers.specs.Run.{run_of, reach_of}
use Rattle.kin_core.specs.Toward.{toward_zero}
use Rattle.command_pool.specs.declared.rates.Rates.{Rates}
use Rattle.std.proofs.lemmas.Bool.{cases_lt}
use Rattle.command_pool.specs.Rates.{AreRates}
use Rattle.trapezoid_plan.specs.MoveStep.{MayFollow, IsStepAhead, IsMoveStep, step_ahead_of, move_step_of}
use Rattle.trapezoid_plan.proofs.StepsAhead.{MayFollowSize, step_ahead-closed, move_step-forward, move_step-backward, move_step-slowed}
use Rattle.motion_numbers.specs.Laws.{AreWays, AreSearches}
use Rattle.kin_core.specs.Laws.{AreTowardZero}

-- a step may follow in whole numbers where its size may
pub follow-sizes : (rates : Rates) (l w u : ℤ) → AreRates rates → pos 0 ≤ℤ l → pos 0 ≤ℤ w →
    MayFollow rates l w u →
    MayFollowSize (unsigned_abs rates.v) (unsigned_abs rates.a) (unsigned_abs rates.d) (unsigned_abs l)
    (unsigned_abs w) (unsigned_abs u)
follow-sizes rates l w u ok p q follows = record {
  velocity = omega (arith, ints);
  deceleration = omega (arith, ints);
  acceleration = omega (arith, ints);
  run = omega (arith, ints);
}

pub sizes-follow : (rates : Rates) (x v : ℤ) (l w u : ℕ) → AreRates rates → x ≡ pos l → v ≡ pos w →
    MayFollowSize (unsigned_abs rates.v) (unsigned_abs rates.a) (unsigned_abs rates.d) l w u →
    MayFollow rates x v (pos u)
sizes-follow rates x v l w u ok way speed follows = record {
  ahead = omega (arith, ints);
  velocity = omega (arith, ints);
  deceleration = omega (arith, ints);
  acceleration = omega (arith, ints);
  run = let fits : run_of u (unsigned_abs rates.d) ≤ l = follows.run in omega (arith, ints);
}

module _ (ways : AreWays) (searches : AreSearches) where
  open ways use {fits_below_reach, reach_greatest}

  -- the step ahead in closed form, of rates that are in range
  pub ahead-closed : (rates : Rates) (l w : ℕ) → AreRates rates →
      step_ahead_of l w rates ≡ max (min (min (unsigned_abs rates.v) (w + unsigned_abs rates.a))
      (reach_of l (unsigned_abs rates.d))) (w - unsigned_abs rates.d)
  ahead-closed rates l w ok = step_ahead-closed ways searches rates _ _ _ l w refl refl refl (omega (arith, ints))

  -- where some step may follow, the greatest one is the step ahead
  pub ahead-follows : (rates : Rates) (l w k : ℕ) → AreRates rates →
      MayFollowSize (unsigned_abs rates.v) (unsigned_abs rates.a) (unsigned_abs rates.d) l w k →
      MayFollowSize (unsigned_abs rates.v) (unsigned_abs rates.a) (unsigned_abs rates.d) l w
      (step_ahead_of l w rates)
  ahead-follows rates l w k ok follows =
      let some : 0 < unsigned_abs rates.d = omega (arith, ints) in
      let under : k ≤ reach_of l (unsigned_abs rates.d) =
      reach_greatest k l (unsigned_abs rates.d) some follows.run in
      let closed : step_ahead_of l w rates ≡ max
      (min (min (unsigned_abs rates.v) (w + unsigned_abs rates.a)) (reach_of l (unsigned_abs rates.d)))
      (w - unsigned_abs rates.d) =
      ahead-closed rates l w ok in
      record {
        velocity = omega (arith, follows.velocity, follows.deceleration);
        deceleration = omega arith;
        acceleration = omega arith;
        run = fits_below_reach (step_ahead_of l w rates) l (unsigned_abs rates.d) some
            (omega (arith, follows.deceleration));
      }

  pub ahead-greatest : (rates : Rates) (l w k : ℕ) → AreRates rates →
      MayFollowSize (unsigned_abs rates.v) (unsigned_abs rates.a) (unsigned_abs rates.d) l w k →
      k ≤ step_ahead_of l w rates
  ahead-greatest rates l w k ok follows =
      let under : k ≤ reach_of l (unsigned_abs rates.d) =
      reach_greatest k l (unsigned_abs rates.d) (omega (arith, ints)) follows.run in
      omega (arith, ahead-closed rates l w ok, follows.velocity, follows.acceleration)

  -- where none may, the step ahead is the old step slowed
  pub ahead-slowed : (rates : Rates) (l w : ℕ) → AreRates rates →
      ((k : ℕ) → MayFollowSize (unsigned_abs rates.v) (unsigned_abs rates.a) (unsigned_abs rates.d) l w k → ⊥) →
      step_ahead_of l w rates ≡ w - unsigned_abs rates.d
  ahead-slowed rates l w ok none =
      let some : 0 < unsigned_abs rates.d = omega (arith, ints) in
      let closed : step_ahead_of l w rates ≡ max
      (min (min (unsigned_abs rates.v) (w + unsigned_abs rates.a)) (reach_of l (unsigned_abs rates.d)))
      (w - unsigned_abs rates.d) =
      ahead-closed rates l w ok in
      elim (cases_lt (w - unsigned_abs rates.d) (min (min (unsigned_abs rates.v) (w + unsigned_abs rates.a))
      (reach_of l (unsigned_abs rates.d)))) [
        | inl below ↦ absurd (none (min (min (unsigned_abs rates.v) (w + unsigned_abs rates.a))
            (reach_of l (unsigned_abs rates.d))) (record {
              velocity = omega arith;
              deceleration = omega arith;
              acceleration = omega arith;
              run = fits_below_reach _ l (unsigned_abs rates.d) some (omega arith);
            }))
        | inr above ↦ omega arith
      ]

module _ (ways : AreWays) (searches : AreSearches) (toward : AreTowardZero) where
  open toward use {ahead as toward_zero-ahead, turned as toward_zero-turned}

  -- the step ahead is the one that the definition asks for
  pub is-step-ahead : (rates : Rates) (l w u : ℤ) → AreRates rates → pos 0 <ℤ l →
      (pos 0 ≤ℤ w → u ≡ pos (step_ahead_of (unsigned_abs l) (unsigned_abs w) rates)) →
      (w <ℤ pos 0 → u ≡ toward_zero w rates.d) → IsStepAhead rates l w u
  is-step-ahead rates l w u ok way ahead other = record {
    follows = λ forward k follows.
        rw (ahead forward) (sizes-follow rates l w _ _ _ ok (omega (arith, ints)) (omega (arith, ints))
        (ahead-follows ways searches rates (unsigned_abs l) (unsigned_abs w) (unsigned_abs k) ok
        (follow-sizes rates l w k ok (omega (arith, ints)) forward follows)));
    greatest = λ forward k follows.
        let below : unsigned_abs k ≤ step_ahead_of (unsigned_abs l) (unsigned_abs w) rates =
        ahead-greatest ways searches rates (unsigned_abs l) (unsigned_abs w) (unsigned_abs k) ok
        (follow-sizes rates l w k ok (omega (arith, ints)) forward follows) in
        let is : u ≡ pos (step_ahead_of (unsigned_abs l) (unsigned_abs w) rates) = ahead forward in
        omega (arith, ints);
    none = λ none. by_lt_z w (pos 0) other (λ forward.
        let slowed : step_ahead_of (unsigned_abs l)
        (unsigned_abs w) rates ≡ unsigned_abs w - unsigned_abs rates.d =
        ahead-slowed ways searches rates (unsigned_abs l) (unsigned_abs w) ok
        (λ k follows. none forward (pos k)
        (sizes-follow rates l w _ _ k ok (omega (arith, ints)) (omega (arith, ints)) follows)) in
        ahead forward ∙ ap pos slowed ∙ sym (toward_zero-ahead w rates.d forward (omega (arith, ints))));
  }

  -- the move step is the one that the definition asks for
  pub is-move-step : (x v : ℤ) (rates : Rates) → AreRates rates → IsMoveStep x v rates (move_step_of x v rates)
  is-move-step x v rates ok = record {
    forward = λ way. is-step-ahead rates x v (move_step_of x v rates) ok way
        (λ ahead. sym (move_step-forward rates x v _ _ _ way ahead refl refl refl))
        (λ other. sym (move_step-slowed rates x v _ (λ p q. omega (arith, ints))
        (λ p q. omega (arith, ints)) refl));
    backward = λ way. is-step-ahead rates (neg_ℤ x) (neg_ℤ v) (neg_ℤ (move_step_of x v rates)) ok
        (omega (arith, ints))
        (λ ahead.
        let back : neg_ℤ (pos (step_ahead_of (unsigned_abs (neg_ℤ x))
        (unsigned_abs (neg_ℤ v)) rates)) ≡ move_step_of x v rates =
        move_step-backward rates x v _ (unsigned_abs (neg_ℤ x)) (unsigned_abs (neg_ℤ v)) way
        (omega (arith, ints)) (omega (arith, ints)) (omega (arith, ints)) refl in
        omega (arith, ints))
        (λ other.
        let slowed : toward_zero v rates.d ≡ move_step_of x v rates =
        move_step-slowed rates x v _ (λ p q. omega (arith, ints)) (λ p q. omega (arith, ints)) refl in
        let turned : toward_zero (neg_ℤ v) rates.d ≡ neg_ℤ (toward_zero v rates.d) =
        toward_zero-turned v rates.d (omega (arith, ints)) in
        omega (arith, ints));
    there = λ here. sym (move_step-slowed rates x v _ (λ p q. omega (arith, ints))
        (λ p q. omega (arith, ints)) refl);
  }
