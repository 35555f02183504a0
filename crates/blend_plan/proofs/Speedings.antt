-- Sums of the steps of a ramp below a velocity, by the number of their terms.
-- for: crossings_have_the_target_between, blends_go_on_until_they_cross, blends_without_steps_brake
use Rattle.std.proofs.Common.{◌≡◌, ℕ, zero, suc, ◌+◌, ◌-◌, ◌*◌, ◌^◌, ◌≤◌, ◌<◌, arith, refl, ◌∙◌, ap, sym, inl, inr}
use Rattle.std.specs.Int.{div_ceil}
use Rattle.std.proofs.lemmas.Grind.{div_ceil_times}
use Rattle.std.proofs.lemmas.Nat.{mul-le}
use Rattle.ramp_root.specs.Sums.{sum_of}
use Rattle.std.proofs.lemmas.Bool.{cond-true, cond-false, lt-ltb, le-ltb, cases_lt}
use Rattle.blend_plan.specs.Sums.{rise, rise_of}
use Rattle.ramp_root.specs.Laws.{AreSums}

-- no term is below v
pub rise-none : (n u v a : ℕ) → v ≤ u → rise n u v a ≡ v
rise-none zero u v a h = refl
rise-none (suc n) u v a h = cond-false _ _ _ (le-ltb u v h)

-- a term that is below v
pub rise-some : (n u v a : ℕ) → u < v → rise (suc n) u v a ≡ u + rise n (u + a) v a
rise-some n u v a h = cond-true _ _ _ (lt-ltb u v h)

-- once they are enough, more terms add nothing
pub rise-same : (n m u v a : ℕ) → 0 < a → v ≤ u + n → v ≤ u + m → rise n u v a ≡ rise m u v a
rise-same zero m u v a some low high = sym (rise-none m u v a (omega arith))
rise-same (suc n) zero u v a some low high = rise-none (suc n) u v a (omega arith)
rise-same (suc n) (suc m) u v a some low high =
    elim (cases_lt u v) [
      | inl more ↦ let rest : rise n (u + a) v a ≡ rise m (u + a) v a =
          rise-same n m (u + a) v a some (omega arith) (omega arith) in
          rise-some n u v a more ∙ ap (λ s. u + s) rest ∙ sym (rise-some m u v a more)
      | inr none ↦ rise-none (suc n) u v a none ∙ sym (rise-none (suc m) u v a none)
    ]

-- v alone, from a step that is not below it
pub rise-there : (u v a : ℕ) → v ≤ u → rise_of u v a ≡ v
unfolding rise_of
rise-there u v a h = rise-none (v - u) u v a h

-- the first term, and the sum of the others
pub rise-unfold : (u v a : ℕ) → 0 < a → u < v → rise_of u v a ≡ u + rise_of (u + a) v a
unfolding rise_of
rise-unfold u v a some h =
    let one_more : v - u ≡ suc (v - suc u) = omega arith in
    let first : rise (suc (v - suc u)) u v a ≡ u + rise (v - suc u) (u + a) v a =
    rise-some (v - suc u) u v a h in
    let rest : rise (v - suc u) (u + a) v a ≡ rise (v - (u + a)) (u + a) v a =
    rise-same (v - suc u) (v - (u + a)) (u + a) v a some (omega arith) (omega arith) in
    ap (λ n. rise n u v a) one_more ∙ first ∙ ap (λ s. u + s) rest

-- no term is above v
rise-within : (n u v a : ℕ) → rise n u v a ≤ (n + 1) * v
rise-within zero u v a = omega arith
rise-within (suc n) u v a =
    elim (cases_lt u v) [
      | inl more ↦ let rest : rise n (u + a) v a ≤ (n + 1) * v = rise-within n (u + a) v a in
          omega (arith, rise-some n u v a more)
      | inr none ↦ omega (arith, rise-none (suc n) u v a none)
    ]

pub rise-small : (u v a : ℕ) → v ≤ 10000000000 → rise_of u v a < 2 ^ 70
unfolding rise_of
rise-small u v a small =
    let product : (v - u + 1) * v ≤ 10000000001 * 10000000000 =
    mul-le (v - u + 1) v 10000000001 10000000000 (omega arith) (omega arith) in
    omega (arith, rise-within (v - u) u v a)

-- the sum is no smaller than v, and than a first term that is not above v
pub rise-ge : (u v a : ℕ) → v ≤ rise_of u v a
unfolding rise_of
rise-ge u v a = within (v - u) u
  where
    within : (n w : ℕ) → v ≤ rise n w v a
    within zero w = omega arith
    within (suc n) w =
        elim (cases_lt w v) [
          | inl more ↦ omega (arith, within n (w + a), rise-some n w v a more)
          | inr none ↦ omega (arith, rise-none (suc n) w v a none)
        ]

-- from u there are n terms below v, in steps of a
pub record HasTerms (u v a n : ℕ) : Type 0 where
  pub enough : v ≤ u + n * a
  pub few : u + n * a < v + a

-- the number of terms from a step that is not above v
pub terms-counted : (u v a : ℕ) → 0 < a → u ≤ v → HasTerms u v a (div_ceil (v - u) a)
terms-counted u v a some h =
    let bounds = div_ceil_times (v - u) a some in
    record { enough = omega (arith, bounds.0); few = omega (arith, bounds.1) }

-- a greater step has no more terms
pub terms-fewer : (u w v a m n : ℕ) → HasTerms u v a m → HasTerms w v a n → u ≤ w → n ≤ m
terms-fewer u w v a m n low high h =
    elim (cases_lt m n) [
      | inl more ↦ let product : suc m * a ≤ n * a = mul-le (suc m) a n a more (omega arith) in
          absurd (omega (arith, low.enough, high.few))
      | inr fewer ↦ fewer
    ]

module _ (sums : AreSums) where
  open sums use {sum_front, sum_shifts}

  -- the sum by the number of its terms
  pub rise-counted : (n u v a : ℕ) → 0 < a → HasTerms u v a n → rise_of u v a ≡ sum_of n a u + v
  unfolding sum_of
  rise-counted zero u v a some has = omega (arith, rise-there u v a (omega (arith, has.enough)))
  rise-counted (suc n) u v a some has =
      let rest : rise_of (u + a) v a ≡ sum_of n a (u + a) + v =
      rise-counted n (u + a) v a some (record {
        enough = omega (arith, has.enough);
        few = omega (arith, has.few);
      }) in
      omega (arith, has.few, rise-unfold u v a some (omega (arith, has.few)), sum_front n a u)

  -- with as many terms the sum grows with the step
  pub rise-grows : (u w v a n : ℕ) → 0 < a → HasTerms u v a n → HasTerms w v a n → u ≤ w →
      rise_of u v a ≤ rise_of w v a
  rise-grows u w v a n some low high h =
      let product : u * n ≤ w * n = mul-le u n w n h (omega arith) in
      omega (
        arith,
        rise-counted n u v a some low,
        rise-counted n w v a some high,
        sum_shifts n a u,
        sum_shifts n a w,
      )
