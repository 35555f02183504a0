-- The velocity step, by cases.
-- for: velocity_step
use Rattle.std.proofs.Common.{◌≡◌, ℕ, ◌+◌, ◌-◌, ◌≤◌, ◌<◌, true, false, nat_lt, ◌&&◌, ◌||◌, ℤ, pos, neg_ℤ, ◌<ℤ◌, ◌≤ℤ◌, int_lt, unsigned_abs, max, min, arith, ◌∙◌, sym, ap, inl, inr}
use Rattle.std.specs.Ordering.{int_eq}
use Rattle.std.proofs.lemmas.Int.{ints, by_lt_z}
use Rattle.kin_core.specs.Toward.{toward_zero}
use Rattle.command_pool.specs.declared.rates.Rates.{Rates}
use Rattle.std.proofs.lemmas.Bool.{and_from, and_left, and_right, or_left, or_right, or_from, cond-true, cond-false, lt-ltb, le-ltb, cases_lt}
use Rattle.trapezoid_plan.specs.VelocityStep.{is_same_sign, with_sign_of, velocity_step_of}
use Rattle.kin_core.specs.Laws.{AreTowardZero}

same-ahead : (v w : ℤ) → pos 0 <ℤ v → pos 0 <ℤ w → is_same_sign v w ≡ true
same-ahead v w p q = or_left (int_lt (pos 0) v && int_lt (pos 0) w) _
    (and_from (int_lt (pos 0) v) (int_lt (pos 0) w) (grind (arith, ints)) (grind (arith, ints)))

same-behind : (v w : ℤ) → v <ℤ pos 0 → w <ℤ pos 0 → is_same_sign v w ≡ true
same-behind v w p q = or_right (int_lt (pos 0) v && int_lt (pos 0) w) _
    (and_from (int_lt v (pos 0)) (int_lt w (pos 0)) (grind (arith, ints)) (grind (arith, ints)))

not-same : (v w : ℤ) → (pos 0 <ℤ v → w ≤ℤ pos 0) → (v <ℤ pos 0 → pos 0 ≤ℤ w) → is_same_sign v w ≡ false
not-same v w p q =
    or_from (int_lt (pos 0) v && int_lt (pos 0) w) (int_lt v (pos 0) && int_lt w (pos 0))
    (by_lt_z (pos 0) v (λ ahead. and_right (int_lt (pos 0) v) (int_lt (pos 0) w)
    (grind (arith, ints))) (λ not_ahead. and_left (int_lt (pos 0) v) (int_lt (pos 0) w)
    (grind (arith, ints))))
    (by_lt_z v (pos 0) (λ behind. and_right (int_lt v (pos 0)) (int_lt w (pos 0))
    (grind (arith, ints))) (λ not_behind. and_left (int_lt v (pos 0)) (int_lt w (pos 0))
    (grind (arith, ints))))

-- toward a greater step with its sign, or from rest
velocity-faster : (rates : Rates) (w v : ℤ) → (is_same_sign v w || int_eq v (pos 0)) ≡ true →
    unsigned_abs v < unsigned_abs w →
    velocity_step_of w v rates ≡ with_sign_of w (min (unsigned_abs v + unsigned_abs rates.a) (unsigned_abs w))
unfolding velocity_step_of
velocity-faster rates w v sign slow =
    cond-true ((is_same_sign v w || int_eq v (pos 0)) && nat_lt (unsigned_abs v) (unsigned_abs w)) _ _
    (and_from _ _ sign (lt-ltb _ _ slow))

-- toward a smaller step with its sign
velocity-slower : (rates : Rates) (w v : ℤ) → is_same_sign v w ≡ true → unsigned_abs w < unsigned_abs v →
    velocity_step_of w v rates ≡ with_sign_of w (max (unsigned_abs v - unsigned_abs rates.d) (unsigned_abs w))
unfolding velocity_step_of
velocity-slower rates w v sign fast =
    cond-false ((is_same_sign v w || int_eq v (pos 0)) && nat_lt (unsigned_abs v) (unsigned_abs w)) _ _
    (and_right (is_same_sign v w || int_eq v (pos 0)) _ (le-ltb _ _ (omega arith)))
    ∙ cond-true (is_same_sign v w && nat_lt (unsigned_abs w) (unsigned_abs v)) _ _
    (and_from _ _ sign (lt-ltb _ _ fast))

-- at the step
velocity-same : (rates : Rates) (w v : ℤ) → v ≡ w → velocity_step_of w v rates ≡ v
unfolding velocity_step_of
velocity-same rates w v same =
    let sizes : unsigned_abs v ≡ unsigned_abs w = ap unsigned_abs same in
    cond-false ((is_same_sign v w || int_eq v (pos 0)) && nat_lt (unsigned_abs v) (unsigned_abs w)) _ _
    (and_right (is_same_sign v w || int_eq v (pos 0)) _ (le-ltb _ _ (omega arith)))
    ∙ cond-false (is_same_sign v w && nat_lt (unsigned_abs w) (unsigned_abs v)) _ _
    (and_right (is_same_sign v w) _ (le-ltb _ _ (omega arith)))
    ∙ cond-true (int_eq v w) _ _ (grind (arith, ints))

-- away from it
velocity-turned : (rates : Rates) (w v : ℤ) → is_same_sign v w ≡ false → (v ≡ pos 0 → ⊥) → (v ≡ w → ⊥) →
    velocity_step_of w v rates ≡ toward_zero v rates.d
unfolding velocity_step_of
velocity-turned rates w v sign moves differs =
    cond-false ((is_same_sign v w || int_eq v (pos 0)) && nat_lt (unsigned_abs v) (unsigned_abs w)) _ _
    (and_left _ (nat_lt (unsigned_abs v) (unsigned_abs w))
    (or_from (is_same_sign v w) (int_eq v (pos 0)) sign (grind (arith, ints))))
    ∙ cond-false (is_same_sign v w && nat_lt (unsigned_abs w) (unsigned_abs v)) _ _
    (and_left (is_same_sign v w) _ sign)
    ∙ cond-false (int_eq v w) _ _ (grind (arith, ints))

with-ahead : (w : ℤ) (n : ℕ) → pos 0 ≤ℤ w → with_sign_of w n ≡ pos n
with-ahead w n h = cond-false (int_lt w (pos 0)) _ _ (grind (arith, ints))

with-behind : (w : ℤ) (n : ℕ) → w <ℤ pos 0 → with_sign_of w n ≡ neg_ℤ (pos n)
with-behind w n h = cond-true (int_lt w (pos 0)) _ _ (grind (arith, ints))

-- where the old step leads the other way
pub velocity-other_way : (rates : Rates) (w v r : ℤ) → (pos 0 ≤ℤ w → pos 0 ≤ℤ v → ⊥) →
    (w ≤ℤ pos 0 → v ≤ℤ pos 0 → ⊥) → r ≡ toward_zero v rates.d → r ≡ velocity_step_of w v rates
velocity-other_way rates w v r not_ahead not_behind is =
    is ∙ sym (velocity-turned rates w v
    (not-same v w
    (λ ahead. by_lt_z (pos 0) w (λ goes. absurd (not_ahead (omega (arith, ints)) (omega (arith, ints))))
    (λ stops. stops))
    (λ behind. by_lt_z w (pos 0) (λ goes. absurd (not_behind (omega (arith, ints)) (omega (arith, ints))))
    (λ stops. stops)))
    (λ rest. by_lt_z w (pos 0) (λ goes. not_behind (omega (arith, ints)) (omega (arith, ints)))
    (λ stops. not_ahead stops (omega (arith, ints))))
    (λ same. by_lt_z w (pos 0) (λ goes. not_behind (omega (arith, ints)) (omega (arith, ints)))
    (λ stops. not_ahead stops (omega (arith, ints)))))

module _ (toward : AreTowardZero) where
  open toward use {ahead as toward_zero-ahead, turned as toward_zero-turned}

  -- the velocity step where or_from step is negative
  pub velocity-ahead : (rates : Rates) (w v : ℤ) (r t o : ℕ) → pos 0 ≤ℤ w → pos 0 ≤ℤ v → pos 1 ≤ℤ rates.d →
      t ≡ unsigned_abs w → o ≡ unsigned_abs v → (o < t → r ≡ min (o + unsigned_abs rates.a) t) →
      (t ≤ o → r ≡ max (o - unsigned_abs rates.d) t) → pos r ≡ velocity_step_of w v rates
  velocity-ahead rates w v r t o p q some tw ov faster slower =
      elim (cases_lt o t) [
        | inl slow ↦ let is : r ≡ min (unsigned_abs v + unsigned_abs rates.a) (unsigned_abs w) =
            rw (← tw, ← ov) (faster slow) in
            let sign : (is_same_sign v w || int_eq v (pos 0)) ≡ true =
            by_lt_z (pos 0) v
            (λ ahead. or_left _ (int_eq v (pos 0)) (same-ahead v w ahead (omega (arith, ints))))
            (λ rest. or_right (is_same_sign v w) _ (grind (arith, ints))) in
            sym (velocity-faster rates w v sign (omega arith) ∙ with-ahead w _ p ∙ ap pos (sym is))
        | inr fast ↦ elim (cases_lt t o) [
          | inl above ↦ by_lt_z (pos 0) w
              (λ goes.
              let is : r ≡ max (unsigned_abs v - unsigned_abs rates.d) (unsigned_abs w) =
              rw (← tw, ← ov) (slower fast) in
              sym (velocity-slower rates w v (same-ahead v w (omega (arith, ints)) goes) (omega arith)
              ∙ with-ahead w _ p ∙ ap pos (sym is)))
              (λ stops.
              let turned : velocity_step_of w v rates ≡ toward_zero v rates.d =
              velocity-turned rates w v (not-same v w (λ ahead. stops) (λ behind. p)) (λ e. omega (arith, ints))
              (λ e. omega (arith, ints)) in
              let slowed : pos (unsigned_abs v - unsigned_abs rates.d) ≡ toward_zero v rates.d =
              sym (toward_zero-ahead v rates.d q (omega (arith, ints))) in
              let is : r ≡ unsigned_abs v - unsigned_abs rates.d = omega (arith, ints, slower fast) in
              ap pos is ∙ slowed ∙ sym turned)
          | inr same ↦ let is : r ≡ o = omega (arith, slower fast) in
              let at : v ≡ w = omega (arith, ints) in
              let whole : pos r ≡ v = omega (arith, ints) in
              whole ∙ sym (velocity-same rates w v at)
        ]
      ]

  -- the velocity step where or_from step is positive
  pub velocity-behind : (rates : Rates) (w v : ℤ) (r t o : ℕ) → w ≤ℤ pos 0 → v ≤ℤ pos 0 → pos 1 ≤ℤ rates.d →
      t ≡ unsigned_abs w → o ≡ unsigned_abs v → (o < t → r ≡ min (o + unsigned_abs rates.a) t) →
      (t ≤ o → r ≡ max (o - unsigned_abs rates.d) t) → neg_ℤ (pos r) ≡ velocity_step_of w v rates
  velocity-behind rates w v r t o p q some tw ov faster slower =
      elim (cases_lt o t) [
        | inl slow ↦ let is : r ≡ min (unsigned_abs v + unsigned_abs rates.a) (unsigned_abs w) =
            rw (← tw, ← ov) (faster slow) in
            let sign : (is_same_sign v w || int_eq v (pos 0)) ≡ true =
            by_lt_z v (pos 0)
            (λ behind. or_left _ (int_eq v (pos 0)) (same-behind v w behind (omega (arith, ints))))
            (λ rest. or_right (is_same_sign v w) _ (grind (arith, ints))) in
            sym (velocity-faster rates w v sign (omega arith) ∙ with-behind w _ (omega (arith, ints)) ∙ ap
            (λ n. neg_ℤ (pos n)) (sym is))
        | inr fast ↦ elim (cases_lt t o) [
          | inl above ↦ by_lt_z w (pos 0)
              (λ goes.
              let is : r ≡ max (unsigned_abs v - unsigned_abs rates.d) (unsigned_abs w) =
              rw (← tw, ← ov) (slower fast) in
              sym (velocity-slower rates w v (same-behind v w (omega (arith, ints)) goes) (omega arith)
              ∙ with-behind w _ goes ∙ ap (λ n. neg_ℤ (pos n)) (sym is)))
              (λ stops.
              let turned : velocity_step_of w v rates ≡ toward_zero v rates.d =
              velocity-turned rates w v (not-same v w (λ ahead. p) (λ behind. stops)) (λ e. omega (arith, ints))
              (λ e. omega (arith, ints)) in
              let slowed : pos (unsigned_abs (neg_ℤ v) - unsigned_abs rates.d) ≡ toward_zero (neg_ℤ v) rates.d =
              sym (toward_zero-ahead (neg_ℤ v) rates.d (omega (arith, ints)) (omega (arith, ints))) in
              let mirrored : toward_zero (neg_ℤ v) rates.d ≡ neg_ℤ (toward_zero v rates.d) =
              toward_zero-turned v rates.d (omega (arith, ints)) in
              let is : r ≡ unsigned_abs (neg_ℤ v) - unsigned_abs rates.d =
              omega (arith, ints, slower fast) in
              let whole : neg_ℤ (pos r) ≡ toward_zero v rates.d = omega (arith, ints) in
              whole ∙ sym turned)
          | inr same ↦ let is : r ≡ o = omega (arith, slower fast) in
              let at : v ≡ w = omega (arith, ints) in
              let whole : neg_ℤ (pos r) ≡ v = omega (arith, ints) in
              whole ∙ sym (velocity-same rates w v at)
        ]
      ]
