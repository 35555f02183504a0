-- The step ahead is the greatest that fits, or the slowed old step.
-- for: move_step, move_steps_are_greatest, move_steps_are_safe and others
use Rattle.std.proofs.Common.{◌≡◌, ℕ, ◌+◌, ◌-◌, ◌≤◌, ◌<◌, Bool, true, false, nat_le, ◌&&◌, int_lt, int_le, unwrap_or, ℤ, pos, neg_ℤ, ◌<ℤ◌, ◌≤ℤ◌, unsigned_abs, max, min, arith, refl, ◌∙◌, sym, ap, inl, inr}
use Rattle.std.proofs.lemmas.Bool.{and_parts, and_from, and_left, cond-true, cond-false, false_from_ne_true, cases_lt}
use Rattle.std.proofs.lemmas.Bool.Decides.{nat_tests}
use Rattle.std.proofs.lemmas.Int.{ints}
use Rattle.motion_numbers.specs.Greatest.{greatest, IsFound}
use Rattle.motion_numbers.specs.Greatest.IsFound.{found_at, found_none}
use Rattle.motion_numbers.specs.Run.{run_of, reach_of}
use Rattle.kin_core.specs.Toward.{toward_zero}
use Rattle.command_pool.specs.declared.rates.Rates.{Rates}
use Rattle.trapezoid_plan.specs.MoveStep.{may_follow, step_ahead_of, move_step_of}
use Rattle.motion_numbers.specs.Laws.{AreWays, AreSearches}

-- what the test says
pub record MayFollowSize (v a d l w u : ℕ) : Type 0 where
  pub velocity : u ≤ v
  pub deceleration : w - d ≤ u
  pub acceleration : u ≤ w + a
  pub run : run_of u d ≤ l

pub may_follow-says : (rates : Rates) (l w u : ℕ) → may_follow rates l w u ≡ true →
    MayFollowSize (unsigned_abs rates.v) (unsigned_abs rates.a) (unsigned_abs rates.d) l w u
may_follow-says rates l w u h =
    tests_say (nat_le u (unsigned_abs rates.v)) (nat_le (w - unsigned_abs rates.d) u)
    (nat_le u (w + unsigned_abs rates.a)) (nat_le (run_of u (unsigned_abs rates.d)) l) h
    (λ velocity deceleration acceleration run. record {
      velocity = grind (arith, nat_tests);
      deceleration = grind (arith, nat_tests);
      acceleration = grind (arith, nat_tests);
      run = grind (arith, nat_tests);
    })
  where
    tests_say : {P : Type 0} (a b c d : Bool) → (a && b && c && d) ≡ true →
        (a ≡ true → b ≡ true → c ≡ true → d ≡ true → P) → P
    tests_say true true true true h k = k refl refl refl refl
    tests_say true true true false h k = cc
    tests_say true true false d h k = cc
    tests_say true false c d h k = cc
    tests_say false b c d h k = cc

pub may_follow-holds : (rates : Rates) (l w u : ℕ) →
    MayFollowSize (unsigned_abs rates.v) (unsigned_abs rates.a) (unsigned_abs rates.d) l w u →
    may_follow rates l w u ≡ true
may_follow-holds rates l w u h = grind (arith, nat_tests)

-- g is the greatest step up to the velocity and the acceleration whose run fits the way
pub record IsTop (v a d l w g : ℕ) : Type 0 where
  pub velocity : g ≤ v
  pub acceleration : g ≤ w + a
  pub run : run_of g d ≤ l
  pub most : (u : ℕ) → u ≤ v → u ≤ w + a → run_of u d ≤ l → u ≤ g

-- the move step toward a target ahead
pub move_step-forward : (rates : Rates) (x v : ℤ) (r l w : ℕ) → pos 0 <ℤ x → pos 0 ≤ℤ v → l ≡ unsigned_abs x →
    w ≡ unsigned_abs v → r ≡ step_ahead_of l w rates → pos r ≡ move_step_of x v rates
unfolding move_step_of
move_step-forward rates x v r l w p q way speed is =
    let chosen =
    cond-true (int_lt (pos 0) x && int_le (pos 0) v)
    (pos (step_ahead_of (unsigned_abs x) (unsigned_abs v) rates)) _
    (and_from (int_lt (pos 0) x) (int_le (pos 0) v) (grind (arith, ints)) (grind (arith, ints))) in
    let same : pos r ≡ pos (step_ahead_of (unsigned_abs x) (unsigned_abs v) rates) =
    ap pos (is ∙ rw (way, speed) refl) in
    same ∙ sym chosen

-- the move step toward a target behind
pub move_step-backward : (rates : Rates) (x v : ℤ) (r l w : ℕ) → x <ℤ pos 0 → v ≤ℤ pos 0 →
    l ≡ unsigned_abs x → w ≡ unsigned_abs v → r ≡ step_ahead_of l w rates →
    neg_ℤ (pos r) ≡ move_step_of x v rates
unfolding move_step_of
move_step-backward rates x v r l w p q way speed is =
    let other =
    cond-false (int_lt (pos 0) x && int_le (pos 0) v)
    (pos (step_ahead_of (unsigned_abs x) (unsigned_abs v) rates)) _
    (and_left (int_lt (pos 0) x) (int_le (pos 0) v) (grind (arith, ints))) in
    let chosen =
    cond-true (int_lt x (pos 0) && int_le v (pos 0))
    (neg_ℤ (pos (step_ahead_of (unsigned_abs x) (unsigned_abs v) rates))) (toward_zero v rates.d)
    (and_from (int_lt x (pos 0)) (int_le v (pos 0)) (grind (arith, ints)) (grind (arith, ints))) in
    let same : neg_ℤ (pos r) ≡ neg_ℤ (pos (step_ahead_of (unsigned_abs x) (unsigned_abs v) rates)) =
    ap (λ n. neg_ℤ (pos n)) (is ∙ rw (way, speed) refl) in
    same ∙ sym (other ∙ chosen)

-- the move step at the target, and where the old step leads away from it
pub move_step-slowed : (rates : Rates) (x v r : ℤ) → (pos 0 <ℤ x → pos 0 ≤ℤ v → ⊥) →
    (x <ℤ pos 0 → v ≤ℤ pos 0 → ⊥) → r ≡ toward_zero v rates.d → r ≡ move_step_of x v rates
unfolding move_step_of
move_step-slowed rates x v r not_ahead not_behind is =
    let first = cond-false (int_lt (pos 0) x && int_le (pos 0) v)
    (pos (step_ahead_of (unsigned_abs x) (unsigned_abs v) rates)) _
    (false_from_ne_true _ (λ h.
    let parts = and_parts (int_lt (pos 0) x) (int_le (pos 0) v) h in
    let way : int_lt (pos 0) x ≡ true = parts.0 in
    let forward : int_le (pos 0) v ≡ true = parts.1 in
    not_ahead (omega (arith, ints)) (omega (arith, ints)))) in
    let second = cond-false (int_lt x (pos 0) && int_le v (pos 0))
    (neg_ℤ (pos (step_ahead_of (unsigned_abs x) (unsigned_abs v) rates))) (toward_zero v rates.d)
    (false_from_ne_true _ (λ h.
    let parts = and_parts (int_lt x (pos 0)) (int_le v (pos 0)) h in
    let way : int_lt x (pos 0) ≡ true = parts.0 in
    let backward : int_le v (pos 0) ≡ true = parts.1 in
    not_behind (omega (arith, ints)) (omega (arith, ints)))) in
    is ∙ sym (first ∙ second)

module _ (searches : AreSearches) where
  open searches use {search_finds}

  -- from the greatest step g that fits: it, unless the old step slowed is greater
  pub step_ahead-is : (rates : Rates) (l w g r : ℕ) →
      IsTop (unsigned_abs rates.v) (unsigned_abs rates.a) (unsigned_abs rates.d) l w g →
      r ≡ max g (w - unsigned_abs rates.d) → r ≡ step_ahead_of l w rates
  unfolding step_ahead_of
  step_ahead-is rates l w g r top is = by_search (search_finds (unsigned_abs rates.v) (may_follow rates l w))
    where
      own : w - unsigned_abs rates.d ≤ g → may_follow rates l w g ≡ true
      own above = may_follow-holds rates l w g (record { velocity = top.velocity; deceleration = above; acceleration = top.acceleration; run = top.run })

      by_search : IsFound (unsigned_abs rates.v) (may_follow rates l w) (greatest (unsigned_abs rates.v) (may_follow rates l w)) →
          r ≡ unwrap_or (greatest (unsigned_abs rates.v) (may_follow rates l w)) (w - unsigned_abs rates.d)
      by_search (found_at k found passes most) =
          let says : MayFollowSize (unsigned_abs rates.v) (unsigned_abs rates.a) (unsigned_abs rates.d) l w k =
          may_follow-says rates l w k passes in
          let under : k ≤ g = top.most k says.velocity says.acceleration says.run in
          let over : g ≤ k = most g top.velocity (own (omega (arith, says.deceleration))) in
          let here : r ≡ k = omega (arith, says.deceleration) in
          here ∙ sym (ap (λ o. unwrap_or o (w - unsigned_abs rates.d)) found)
      by_search (found_none found fails) =
          elim (cases_lt g (w - unsigned_abs rates.d)) [
            | inl below ↦ (let here : r ≡ w - unsigned_abs rates.d = omega arith in
                here ∙ sym (ap (λ o. unwrap_or o (w - unsigned_abs rates.d)) found))
            | inr above ↦ absurd (fails g top.velocity (own above))
          ]

module _ (ways : AreWays) (searches : AreSearches) where
  open ways use {below_reach_of, fits_below_reach, reach_greatest}

  -- the step ahead in closed form
  pub step_ahead-closed : (rates : Rates) (v a d l w : ℕ) → v ≡ unsigned_abs rates.v → a ≡ unsigned_abs rates.a →
      d ≡ unsigned_abs rates.d → 0 < d → step_ahead_of l w rates ≡ max (min (min v (w + a)) (reach_of l d))
      (w - d)
  step_ahead-closed rates v a d l w p q t some =
      sym (step_ahead-is searches rates l w (min (min v (w + a)) (reach_of l d)) _
      (rw (← p, ← q, ← t) (record {
        velocity = omega arith;
        acceleration = omega arith;
        run = fits_below_reach _ l d some (omega arith);
        most = λ u slow smooth fits. let under : u ≤ reach_of l d = reach_greatest u l d some fits in omega arith;
      }))
      (ap (λ n. max (min (min v (w + a)) (reach_of l d)) (w - n)) t))

  -- where the fastest step fits the way
  pub step_ahead-fastest : (rates : Rates) (v a d l w n r : ℕ) → v ≡ unsigned_abs rates.v →
      a ≡ unsigned_abs rates.a → d ≡ unsigned_abs rates.d → 0 < d → n ≡ min v (w + a) → run_of n d ≤ l →
      r ≡ max n (w - d) → r ≡ step_ahead_of l w rates
  step_ahead-fastest rates v a d l w n r p q t some is fits e =
      let under : n ≤ reach_of l d = reach_greatest n l d some fits in
      let here : r ≡ max (min (min v (w + a)) (reach_of l d)) (w - d) = omega arith in
      here ∙ sym (step_ahead-closed rates v a d l w p q t some)

  -- where no step above the slowest does
  pub step_ahead-slowest : (rates : Rates) (v a d l w r : ℕ) → v ≡ unsigned_abs rates.v →
      a ≡ unsigned_abs rates.a → d ≡ unsigned_abs rates.d → 0 < d → l < run_of (w - d + 1) d → r ≡ w - d →
      r ≡ step_ahead_of l w rates
  step_ahead-slowest rates v a d l w r p q t some over e =
      let under : reach_of l d < w - d + 1 = below_reach_of (w - d + 1) l d some over in
      let here : r ≡ max (min (min v (w + a)) (reach_of l d)) (w - d) = omega arith in
      here ∙ sym (step_ahead-closed rates v a d l w p q t some)

  -- and in between
  pub step_ahead-reached : (rates : Rates) (v a d l w n r : ℕ) → v ≡ unsigned_abs rates.v →
      a ≡ unsigned_abs rates.a → d ≡ unsigned_abs rates.d → 0 < d → n ≡ min v (w + a) →
      r ≡ max (min n (reach_of l d)) (w - d) → r ≡ step_ahead_of l w rates
  step_ahead-reached rates v a d l w n r p q t some is e =
      let here : r ≡ max (min (min v (w + a)) (reach_of l d)) (w - d) = omega arith in
      here ∙ sym (step_ahead-closed rates v a d l w p q t some)
