-- The taken step of a move, in either direction.
-- for: move_steps_are_safe, moves_head_for_their_targets, moves_that_head_away_brake and others
use Rattle.std.proofs.Common.{◌≡◌, ℕ, suc, ◌-◌, ◌≤◌, ◌<◌, ℤ, pos, neg_ℤ, ◌-ℤ◌, ◌+ℤ◌, ◌<ℤ◌, ◌≤ℤ◌, unsigned_abs, arith, refl, ◌∙◌, ap, inl, inr}
use Rattle.std.proofs.lemmas.Int.{ints}
use Rattle.plc_types.specs.declared.limits.Limits.{Limits}
use Rattle.plc_types.specs.Limits.{AreLimits}
use Rattle.kin_core.specs.Admissible.{IsKept, IsSafe}
use Rattle.motion_numbers.specs.Run.{run_of}
use Rattle.kin_core.specs.Toward.{toward_zero}
use Rattle.command_pool.specs.declared.rates.Rates.{Rates}
use Rattle.command_pool.specs.Rates.{AreRates}
use Rattle.trapezoid_plan.specs.MoveStep.{MayFollow, HasMoveStep, step_ahead_of, move_step_of}
use Rattle.trapezoid_plan.specs.MoveRun.{IsMoveWithin, move_taken_of, IsDoneWithin}
use Rattle.trapezoid_plan.proofs.StepsAhead.{MayFollowSize, move_step-forward, move_step-backward}
use Rattle.trapezoid_plan.proofs.MoveSteps.{follow-sizes, sizes-follow, ahead-follows}
use Rattle.motion_numbers.specs.Laws.{AreWays, AreSearches}
use Rattle.kin_core.specs.Laws.{AreSafeSteps}

-- what a move is under way with
pub record IsUnderWay (limits : Limits) (rates : Rates) (target before now : ℤ) : Type 0 where
  pub limits_ok : AreLimits limits
  pub rates_ok : AreRates rates
  pub within : IsMoveWithin limits rates target
  pub kept : IsKept limits before now

-- the target lies at the distance l in the direction of the old step, whose size is w
pub data LiesAhead (target before now : ℤ) (l w : ℕ) : Type 0 where
  upward : (target -ℤ now) ≡ pos l → (now -ℤ before) ≡ pos w → LiesAhead target before now l w
  downward : (now -ℤ target) ≡ pos l → (before -ℤ now) ≡ pos w → LiesAhead target before now l w

-- the velocity is at most that of the limits
velocity-within : (limits : Limits) (rates : Rates) (target before now : ℤ) → IsUnderWay limits rates target before now →
    unsigned_abs rates.v ≤ unsigned_abs limits.vmax
velocity-within limits rates target before now goes =
    let rates_ok : AreRates rates = goes.rates_ok in
    let within : IsMoveWithin limits rates target = goes.within in
    omega (arith, ints)

-- what is taken of a step that slows: it is slower by the deceleration, as far as rest, and doesn't
-- turn back
pub record IsBraked (v t d : ℤ) : Type 0 where
  pub slower : unsigned_abs t ≤ unsigned_abs v - unsigned_abs d
  pub forward : pos 0 ≤ℤ v → pos 0 ≤ℤ t
  pub backward : v ≤ℤ pos 0 → t ≤ℤ pos 0

-- by other names of the distance and the old step
may-same : (rates : Rates) (x y v w u : ℤ) → x ≡ y → v ≡ w → MayFollow rates x v u → MayFollow rates y w u
may-same rates x y v w u way speed may = rw (way, speed) at may

module _ (steps : AreSafeSteps) where
  open steps use {ahead.{downward as down_is_safe, upward as up_is_safe}, braking.{backward as braking_goes_backward, forward as braking_goes_forward, slower as braking_is_slower}, taken.{exact as taken_step_is_exact, kept as taken_step_keeps}}

  -- upward, a step that may follow is safe
  pub safe-up : (limits : Limits) (rates : Rates) (target before now u : ℤ) → IsUnderWay limits rates target before now →
      MayFollow rates (target -ℤ now) (now -ℤ before) u → IsSafe limits before now (now +ℤ u)
  safe-up limits rates target before now u goes may =
      let rates_ok : AreRates rates = goes.rates_ok in
      let within : IsMoveWithin limits rates target = goes.within in
      up_is_safe limits before now u rates.a rates.d rates.d goes.limits_ok goes.kept within.acceleration within.deceleration
      may.ahead (omega (arith, ints)) may.deceleration may.acceleration (omega (arith, ints)) within.deceleration (omega (arith, ints))

  -- and downward
  pub safe-down : (limits : Limits) (rates : Rates) (target before now u : ℤ) → IsUnderWay limits rates target before now →
      MayFollow rates (now -ℤ target) (before -ℤ now) u → IsSafe limits before now (now -ℤ u)
  safe-down limits rates target before now u goes may =
      let rates_ok : AreRates rates = goes.rates_ok in
      let within : IsMoveWithin limits rates target = goes.within in
      down_is_safe limits before now u rates.a rates.d rates.d goes.limits_ok goes.kept within.acceleration within.deceleration
      may.ahead (omega (arith, ints)) may.deceleration may.acceleration (omega (arith, ints)) within.deceleration (omega (arith, ints))

  -- upward, the step ahead is the taken step where it is within the window of a velocity v, up to
  -- the limit, and its run fits
  pub taken-up : (limits : Limits) (rates : Rates) (target before now : ℤ) (v l w : ℕ) →
      IsUnderWay limits rates target before now → v ≤ unsigned_abs limits.vmax →
      (target -ℤ now) ≡ pos l → (now -ℤ before) ≡ pos w → 0 < l →
      MayFollowSize v (unsigned_abs rates.a) (unsigned_abs rates.d) l w (step_ahead_of l w rates) →
      move_taken_of limits rates target before now ≡ pos (step_ahead_of l w rates)
  unfolding move_taken_of
  taken-up limits rates target before now v l w goes slow way speed some follows =
      let limits_ok : AreLimits limits = goes.limits_ok in
      let rates_ok : AreRates rates = goes.rates_ok in
      let within : IsMoveWithin limits rates target = goes.within in
      let fits : run_of (step_ahead_of l w rates) (unsigned_abs rates.d) ≤ l = follows.run in
      let wanted : pos (step_ahead_of l w rates) ≡ move_step_of (target -ℤ now) (now -ℤ before) rates =
      move_step-forward rates (target -ℤ now) (now -ℤ before) _ l w (omega (arith, ints)) (omega (arith, ints))
      (omega (arith, ints)) (omega (arith, ints)) refl in
      rw (← wanted) (taken_step_is_exact limits before now (pos (step_ahead_of l w rates)) goes.limits_ok goes.kept
      (up_is_safe limits before now (pos (step_ahead_of l w rates)) rates.a rates.d rates.d goes.limits_ok goes.kept
      within.acceleration within.deceleration
      (omega (arith, ints)) (omega (arith, ints, follows.velocity)) (omega (arith, ints, follows.deceleration))
      (omega (arith, ints, follows.acceleration)) (omega (arith, ints)) within.deceleration (omega (arith, ints, within.below))))

  -- and downward
  pub taken-down : (limits : Limits) (rates : Rates) (target before now : ℤ) (v l w : ℕ) →
      IsUnderWay limits rates target before now → v ≤ unsigned_abs limits.vmax →
      (now -ℤ target) ≡ pos l → (before -ℤ now) ≡ pos w → 0 < l →
      MayFollowSize v (unsigned_abs rates.a) (unsigned_abs rates.d) l w (step_ahead_of l w rates) →
      move_taken_of limits rates target before now ≡ neg_ℤ (pos (step_ahead_of l w rates))
  unfolding move_taken_of
  taken-down limits rates target before now v l w goes slow way speed some follows =
      let limits_ok : AreLimits limits = goes.limits_ok in
      let rates_ok : AreRates rates = goes.rates_ok in
      let within : IsMoveWithin limits rates target = goes.within in
      let fits : run_of (step_ahead_of l w rates) (unsigned_abs rates.d) ≤ l = follows.run in
      let wanted : neg_ℤ (pos (step_ahead_of l w rates)) ≡ move_step_of (target -ℤ now) (now -ℤ before) rates =
      move_step-backward rates (target -ℤ now) (now -ℤ before) _ l w (omega (arith, ints)) (omega (arith, ints))
      (omega (arith, ints)) (omega (arith, ints)) refl in
      let here : now +ℤ neg_ℤ (pos (step_ahead_of l w rates)) ≡ now -ℤ pos (step_ahead_of l w rates) = omega (arith, ints) in
      rw (← wanted) (taken_step_is_exact limits before now (neg_ℤ (pos (step_ahead_of l w rates))) goes.limits_ok goes.kept
      (rw here (down_is_safe limits before now (pos (step_ahead_of l w rates)) rates.a rates.d rates.d goes.limits_ok goes.kept
      within.acceleration within.deceleration
      (omega (arith, ints)) (omega (arith, ints, follows.velocity)) (omega (arith, ints, follows.deceleration))
      (omega (arith, ints, follows.acceleration)) (omega (arith, ints)) within.deceleration (omega (arith, ints, within.above)))))

  -- after a taken step the move is still under way
  pub under-way-next : (limits : Limits) (rates : Rates) (target before now : ℤ) →
      IsUnderWay limits rates target before now →
      IsUnderWay limits rates target now (now +ℤ move_taken_of limits rates target before now)
  unfolding move_taken_of
  under-way-next limits rates target before now goes = record {
    limits_ok = goes.limits_ok;
    rates_ok = goes.rates_ok;
    within = goes.within;
    kept = taken_step_keeps limits before now _ goes.limits_ok goes.kept;
  }

  -- one cycle on the way: the step ahead is taken, and the rest of the way lies ahead
  pub goes-on : (n : ℕ) (limits : Limits) (rates : Rates) (target before now : ℤ) (l w u : ℕ) →
      IsUnderWay limits rates target before now → LiesAhead target before now l w → 0 < l →
      step_ahead_of l w rates ≡ u →
      MayFollowSize (unsigned_abs rates.v) (unsigned_abs rates.a) (unsigned_abs rates.d) l w u → u ≤ l →
      ((next : ℤ) → IsUnderWay limits rates target now next → LiesAhead target now next (l - u) u →
      IsDoneWithin n limits rates target now next) →
      IsDoneWithin (suc n) limits rates target before now
  goes-on n limits rates target before now l w u goes (upward way speed) some is follows short more =
      let taken : move_taken_of limits rates target before now ≡ pos u =
      taken-up limits rates target before now (unsigned_abs rates.v) l w goes (velocity-within limits rates target before now goes)
      way speed some (rw is follows) ∙ ap pos is in
      inr (more (now +ℤ move_taken_of limits rates target before now)
      (under-way-next limits rates target before now goes)
      (upward (omega (arith, ints)) (omega (arith, ints))))
  goes-on n limits rates target before now l w u goes (downward way speed) some is follows short more =
      let taken : move_taken_of limits rates target before now ≡ neg_ℤ (pos u) =
      taken-down limits rates target before now (unsigned_abs rates.v) l w goes (velocity-within limits rates target before now goes)
      way speed some (rw is follows) ∙ ap
      (λ n. neg_ℤ (pos n)) is in
      inr (more (now +ℤ move_taken_of limits rates target before now)
      (under-way-next limits rates target before now goes)
      (downward (omega (arith, ints)) (omega (arith, ints))))

  -- a wanted step that slows is at most cut
  pub slowed-taken : (limits : Limits) (rates : Rates) (target before now : ℤ) →
      IsUnderWay limits rates target before now →
      move_step_of (target -ℤ now) (now -ℤ before) rates ≡ toward_zero (now -ℤ before) rates.d →
      IsBraked (now -ℤ before) (move_taken_of limits rates target before now) rates.d
  unfolding move_taken_of
  slowed-taken limits rates target before now goes slows =
      let rates_ok : AreRates rates = goes.rates_ok in
      let some : pos 0 ≤ℤ rates.d = omega (arith, ints) in
      rw slows (record {
        slower = braking_is_slower limits before now rates.d goes.limits_ok goes.kept some goes.within.deceleration;
        forward = λ up. braking_goes_forward limits before now rates.d goes.limits_ok goes.kept some goes.within.deceleration (omega (arith, ints));
        backward = λ down. braking_goes_backward limits before now rates.d goes.limits_ok goes.kept some goes.within.deceleration (omega (arith, ints));
      })

module _ (ways : AreWays) (searches : AreSearches) where
  -- where a step may follow toward the target, the move step may
  follows-up : (rates : Rates) (x v k : ℤ) → AreRates rates → pos 0 <ℤ x → pos 0 ≤ℤ v → MayFollow rates x v k →
      MayFollow rates x v (move_step_of x v rates)
  follows-up rates x v k ok way forward follows =
      let wanted : pos (step_ahead_of (unsigned_abs x) (unsigned_abs v) rates) ≡ move_step_of x v rates =
      move_step-forward rates x v _ _ _ way forward refl refl refl in
      rw (← wanted) (sizes-follow rates x v (unsigned_abs x) (unsigned_abs v) _ ok (omega (arith, ints)) (omega (arith, ints))
      (ahead-follows ways searches rates _ _ (unsigned_abs k) ok (follow-sizes rates x v k ok (omega (arith, ints)) forward follows)))

  follows-down : (rates : Rates) (x v k : ℤ) → AreRates rates → pos 0 <ℤ neg_ℤ x → pos 0 ≤ℤ neg_ℤ v → MayFollow rates (neg_ℤ x) (neg_ℤ v) k →
      MayFollow rates (neg_ℤ x) (neg_ℤ v) (neg_ℤ (move_step_of x v rates))
  follows-down rates x v k ok way backward follows =
      let wanted : neg_ℤ (pos (step_ahead_of (unsigned_abs (neg_ℤ x)) (unsigned_abs (neg_ℤ v)) rates)) ≡ move_step_of x v rates =
      move_step-backward rates x v _ (unsigned_abs (neg_ℤ x)) (unsigned_abs (neg_ℤ v)) (omega (arith, ints)) (omega (arith, ints))
      (omega (arith, ints)) (omega (arith, ints)) refl in
      let back : pos (step_ahead_of (unsigned_abs (neg_ℤ x)) (unsigned_abs (neg_ℤ v)) rates) ≡ neg_ℤ (move_step_of x v rates) = omega (arith, ints) in
      rw (← back) (sizes-follow rates (neg_ℤ x) (neg_ℤ v) (unsigned_abs (neg_ℤ x)) (unsigned_abs (neg_ℤ v)) _ ok (omega (arith, ints)) (omega (arith, ints))
      (ahead-follows ways searches rates _ _ (unsigned_abs k) ok (follow-sizes rates (neg_ℤ x) (neg_ℤ v) k ok (omega (arith, ints)) backward follows)))

module _ (ways : AreWays) (searches : AreSearches) (steps : AreSafeSteps) where
  open steps use {taken.{exact as taken_step_is_exact}}

  -- so it is safe, and taken
  pub safe-move : (limits : Limits) (rates : Rates) (target before now : ℤ) →
      IsUnderWay limits rates target before now → HasMoveStep rates (target -ℤ now) (now -ℤ before) →
      IsSafe limits before now (now +ℤ move_step_of (target -ℤ now) (now -ℤ before) rates)
  safe-move limits rates target before now goes (inl has) =
      safe-up steps limits rates target before now _ goes
      (follows-up ways searches rates (target -ℤ now) (now -ℤ before) has.step goes.rates_ok has.way has.forward has.follows)
  safe-move limits rates target before now goes (inr has) =
      let here : now -ℤ neg_ℤ (move_step_of (target -ℤ now) (now -ℤ before) rates) ≡ now +ℤ move_step_of (target -ℤ now) (now -ℤ before) rates = omega (arith, ints) in
      rw (← here) (safe-down steps limits rates target before now _ goes
      (may-same rates _ _ _ _ _ (omega (arith, ints)) (omega (arith, ints))
      (follows-down ways searches rates (target -ℤ now) (now -ℤ before) has.step goes.rates_ok has.way has.forward has.follows)))

  pub taken-move : (limits : Limits) (rates : Rates) (target before now : ℤ) →
      IsUnderWay limits rates target before now → HasMoveStep rates (target -ℤ now) (now -ℤ before) →
      move_taken_of limits rates target before now ≡ move_step_of (target -ℤ now) (now -ℤ before) rates
  unfolding move_taken_of
  taken-move limits rates target before now goes has = taken_step_is_exact limits before now _ goes.limits_ok goes.kept (safe-move limits rates target before now goes has)
