-- The greatest step from which the speeding up takes no less than a way.
-- for: blend_step_counted
use Rattle.std.proofs.Common.{◌≡◌, ℕ, suc, ◌+◌, ◌-◌, ◌*◌, ◌≤◌, ◌<◌, max, arith, ap, inl, inr}
use Rattle.std.specs.Int.{div_ceil}
use Rattle.std.proofs.lemmas.Nat.{mul-le}
use Rattle.ramp_root.specs.Sums.{sum_of}
use Rattle.std.proofs.lemmas.Bool.{cases_lt}
use Rattle.blend_plan.specs.Sums.{rise_of}
use Rattle.blend_plan.proofs.Speedings.{HasTerms, rise-counted, terms-counted, terms-fewer, rise-grows}
use Rattle.ramp_root.specs.Laws.{AreSums}

-- t is the greatest step with n terms below v
pub record IsTopStep (t v a n : ℕ) : Type 0 where
  pub is : t + n * a + 1 ≡ v + a

-- it has them
pub top-has : (t v a n : ℕ) → 0 < a → IsTopStep t v a n → HasTerms t v a n
top-has t v a n some top = record { enough = omega (arith, top.is); few = omega (arith, top.is) }

-- the greatest step with as many terms as u
pub top-of : (u v a n : ℕ) → HasTerms u v a n → IsTopStep (v + a - (n * a + 1)) v a n
top-of u v a n has = record { is = omega (arith, has.few) }

pub top-above : (u t v a n : ℕ) → HasTerms u v a n → IsTopStep t v a n → u ≤ t
top-above u t v a n has top = omega (arith, has.few, top.is)

-- more terms, a smaller step
pub top-order : (s t v a m n : ℕ) → IsTopStep s v a m → IsTopStep t v a n → n ≤ m → s ≤ t
top-order s t v a m n low high h =
    let product : n * a ≤ m * a = mul-le n a m a h (omega arith) in
    omega (arith, low.is, high.is)

-- a way that is longer than the rise from high
pub record IsShort (way from high v a fewest most : ℕ) : Type 0 where
  pub gain : 0 < a
  pub within : high ≤ v
  pub order : from < high
  pub short : rise_of high v a < way
  pub high_has : HasTerms high v a fewest
  pub from_has : HasTerms (from + 1) v a most

-- a step that serves
pub record Serves (way from high v a u : ℕ) : Type 0 where
  pub above : from < u
  pub below : u ≤ high
  pub risen : way ≤ rise_of u v a

-- r is the greatest step that serves
pub record IsGreatestServing (way from high v a r : ℕ) : Type 0 where
  pub serves : Serves way from high v a r
  pub greatest : (u : ℕ) → Serves way from high v a u → u ≤ r

-- the least step above from with its number of terms
pub least-above : (from v a most e : ℕ) → HasTerms (from + 1) v a most → IsTopStep e v a most → from < e
least-above from v a most e has top = omega (arith, has.few, top.is)

module _ (sums : AreSums) where
  open sums use {sum_grows, sum_splits}

  -- the rise from the greatest step with k terms more has these terms more
  pub left-out : (k n e t v a : ℕ) → 0 < a → IsTopStep e v a (k + n) → IsTopStep t v a n →
      rise_of e v a ≡ sum_of k a e + rise_of t v a
  left-out k n e t v a some low high =
      let here : t ≡ e + k * a = omega (arith, low.is, high.is) in
      let rest : rise_of t v a ≡ sum_of n a t + v = rise-counted sums n t v a some (top-has t v a n some high) in
      let last : sum_of n a t ≡ sum_of n a (e + k * a) = ap (λ s. sum_of n a s) here in
      omega (
        arith,
        rise-counted sums (k + n) e v a some (top-has e v a (k + n) some low),
        sum_splits k n a e,
      )

  -- a step that serves has more terms than high, and at most as many as the steps above from
  pub serving-terms : (way from high v a fewest most u m : ℕ) → IsShort way from high v a fewest most →
      Serves way from high v a u → HasTerms u v a m → (fewest < m) × (m ≤ most)
  serving-terms way from high v a fewest most u m is serves has =
      let low : fewest ≤ m = terms-fewer u high v a m fewest has is.high_has serves.below in
      let high_end : m ≤ most = terms-fewer (from + 1) u v a most m is.from_has has (omega (arith, serves.above)) in (
        elim (cases_lt fewest m) [
          | inl h ↦ h
          | inr few ↦ let same : m ≡ fewest = omega arith in
              absurd (omega (arith, rise-grows sums u high v a fewest is.gain (rw same at has) is.high_has serves.below, serves.risen, is.short))
        ],
        high_end,
      )

  -- none serves where the numbers of terms leave none
  pub none-left : (way from high v a fewest most u : ℕ) → IsShort way from high v a fewest most →
      most ≤ fewest → Serves way from high v a u → ⊥
  none-left way from high v a fewest most u is few serves =
      let has : HasTerms u v a (div_ceil (v - u) a) =
      terms-counted u v a is.gain (omega (arith, serves.below, is.within)) in
      let bounds = serving-terms way from high v a fewest most u (div_ceil (v - u) a) is serves has in
      omega (arith, bounds.0, bounds.1)

  -- the terms that a step which serves leaves out
  pub serving-left : (way from high v a fewest most e u m : ℕ) → IsShort way from high v a fewest most →
      IsTopStep e v a most → Serves way from high v a u → HasTerms u v a m →
      sum_of (most - m) a e + way ≤ rise_of e v a
  serving-left way from high v a fewest most e u m is top serves has =
      let bounds = serving-terms way from high v a fewest most u m is serves has in
      let parts : most - m + m ≡ most = omega (arith, bounds.1) in
      let whole : IsTopStep e v a (most - m + m) = rw parts top in
      let own : IsTopStep (v + a - (m * a + 1)) v a m = top-of u v a m has in
      let left : rise_of e v a ≡ sum_of (most - m) a e + rise_of (v + a - (m * a + 1)) v a =
      left-out (most - m) m e (v + a - (m * a + 1)) v a is.gain whole own in
      let grows : rise_of u v a ≤ rise_of (v + a - (m * a + 1)) v a =
      rise-grows sums u (v + a - (m * a + 1)) v a m is.gain has (top-has _ v a m is.gain own)
      (top-above u _ v a m has own) in
      omega (arith, serves.risen)

  -- none serves where the longest rise is too short
  pub none-long : (way from high v a fewest most e u : ℕ) → IsShort way from high v a fewest most →
      IsTopStep e v a most → rise_of e v a < way → Serves way from high v a u → ⊥
  none-long way from high v a fewest most e u is top short serves =
      let has : HasTerms u v a (div_ceil (v - u) a) =
      terms-counted u v a is.gain (omega (arith, serves.below, is.within)) in
      omega (arith, serving-left way from high v a fewest most e u _ is top serves has)

  pub greatest-serving : (way from high v a fewest most e count n r : ℕ) →
      IsShort way from high v a fewest most → fewest < most → IsTopStep e v a most → way ≤ rise_of e v a →
      sum_of count a e ≤ rise_of e v a - way →
      ((k : ℕ) → sum_of k a e ≤ rise_of e v a - way → k ≤ count) → n ≡ max (most - count) (fewest + 1) →
      IsTopStep r v a n → IsGreatestServing way from high v a r
  greatest-serving way from high v a fewest most e count n r is more top long fits greatest chosen own = record {
    serves = record {
      above = omega (arith, least-above from v a most e is.from_has top, top-order e r v a most n top own (omega arith));
      below =
          let product : suc fewest * a ≤ n * a = mul-le (suc fewest) a n a (omega arith) (omega arith) in
          let enough : v ≤ high + fewest * a = is.high_has.enough in
          omega (arith, own.is);
      risen =
          let parts : most - n + n ≡ most = omega arith in
          let whole : IsTopStep e v a (most - n + n) = rw parts top in
          let left : rise_of e v a ≡ sum_of (most - n) a e + rise_of r v a =
          left-out (most - n) n e r v a is.gain whole own in
          let fewer : sum_of (most - n) a e ≤ sum_of count a e = sum_grows (most - n) count a e (omega arith) in
          omega arith;
    };
    greatest = λ u serves.
        let has : HasTerms u v a (div_ceil (v - u) a) =
        terms-counted u v a is.gain (omega (arith, serves.below, is.within)) in
        let bounds = serving-terms way from high v a fewest most u (div_ceil (v - u) a) is serves has in
        let left : sum_of (most - div_ceil (v - u) a) a e + way ≤ rise_of e v a =
        serving-left way from high v a fewest most e u (div_ceil (v - u) a) is top serves has in
        let few : most - div_ceil (v - u) a ≤ count = greatest _ (omega arith) in
        let under : n ≤ div_ceil (v - u) a = omega (arith, bounds.0, bounds.1) in
        let tops : IsTopStep (v + a - (div_ceil (v - u) a * a + 1)) v a (div_ceil (v - u) a) =
        top-of u v a (div_ceil (v - u) a) has in
        omega (
          arith,
          top-order _ r v a (div_ceil (v - u) a) n tops own under,
          top-above u _ v a (div_ceil (v - u) a) has tops,
        );
  }
