-- Sums of the steps of a ramp above a velocity, and the greatest step whose sum fits a way.
-- for: blend_step, blend_steps_are_safe, crossings_have_the_target_between and others
use Rattle.std.proofs.Common.{◌≡◌, ℕ, zero, suc, ◌+◌, ◌-◌, ◌*◌, ◌/◌, ◌%◌, ◌≤◌, ◌<◌, min, arith, refl, ◌∙◌, ap, sym, inl, inr}
use Rattle.std.proofs.lemmas.Nat.{div-add-mod', mod_below, mul-le}
use Rattle.motion_numbers.specs.Run.{ramp, run_of}
use Rattle.ramp_root.specs.Sums.{sum_of}
use Rattle.std.proofs.lemmas.Bool.{cond-true, cond-false, lt-ltb, le-ltb, cases_lt}
use Rattle.blend_plan.specs.Sums.{above, above_of}
use Rattle.ramp_root.specs.Laws.{AreSums}

-- no term is above v
pub above-none : (n u v d : ℕ) → u ≤ v → above n u v d ≡ 0
above-none zero u v d h = refl
above-none (suc n) u v d h = cond-false _ _ _ (le-ltb v u h)

-- a term that is above v
pub above-some : (n u v d : ℕ) → v < u → above (suc n) u v d ≡ u + above n (u - d) v d
above-some n u v d h = cond-true _ _ _ (lt-ltb v u h)

-- once they are enough, more terms add nothing
pub above-same : (n m u v d : ℕ) → 0 < d → u ≤ n → u ≤ m → above n u v d ≡ above m u v d
above-same zero m u v d some low high = sym (above-none m u v d (omega arith))
above-same (suc n) zero u v d some low high = above-none (suc n) u v d (omega arith)
above-same (suc n) (suc m) u v d some low high =
    elim (cases_lt v u) [
      | inl more ↦ let rest : above n (u - d) v d ≡ above m (u - d) v d =
          above-same n m (u - d) v d some (omega arith) (omega arith) in
          above-some n u v d more ∙ ap (λ s. u + s) rest ∙ sym (above-some m u v d more)
      | inr none ↦ above-none (suc n) u v d none ∙ sym (above-none (suc m) u v d none)
    ]

-- a greater first term gives no smaller sum
pub above-greater : (n u t v d : ℕ) → u ≤ t → above n u v d ≤ above n t v d
above-greater zero u t v d h = omega arith
above-greater (suc n) u t v d h =
    elim (cases_lt v u) [
      | inl more ↦ let rest : above n (u - d) v d ≤ above n (t - d) v d = above-greater n (u - d) (t - d) v d (omega arith) in
          omega (arith, above-some n u v d more, above-some n t v d (omega arith))
      | inr none ↦ omega (arith, above-none (suc n) u v d none)
    ]

-- from no step above v
pub above-zero : (u v d : ℕ) → u ≤ v → above_of u v d ≡ 0
unfolding above_of
above-zero u v d h = above-none u u v d h

-- the first term, and the sum of the others
pub above-unfold : (u v d : ℕ) → 0 < d → v < u → above_of u v d ≡ u + above_of (u - d) v d
unfolding above_of
above-unfold zero v d some h = absurd (omega arith)
above-unfold (suc u) v d some h =
    above-some u (suc u) v d h ∙ ap (λ s. suc u + s)
    (above-same u (suc u - d) (suc u - d) v d some (omega arith) (omega arith))

-- from a greater step the sum is no smaller
pub above-mono : (u t v d : ℕ) → 0 < d → u ≤ t → above_of u v d ≤ above_of t v d
unfolding above_of
above-mono u t v d some h = rw (above-same u t u v d some (omega arith) h) (above-greater t u t v d h)

-- a term of the sum is one of the run
above-ramp : (n u v d : ℕ) → above n u v d ≤ ramp n u d
above-ramp zero u v d = omega arith
above-ramp (suc n) u v d =
    elim (cases_lt v u) [
      | inl more ↦ let rest : above n (u - d) v d ≤ ramp n (u - d) d = above-ramp n (u - d) v d in omega (arith, above-some n u v d more)
      | inr none ↦ omega (arith, above-none (suc n) u v d none)
    ]

-- so the sum is no greater than the run
pub above-run : (u v d : ℕ) → above_of u v d ≤ run_of u d
unfolding above_of run_of
above-run u v d = above-ramp u u v d

-- the sum of r above v and of j times d is the sum of j + 1 terms from v + r
pub above-sum : (j r v d : ℕ) → 0 < d → 0 < r → r ≤ d →
    above_of (j * d + (v + r)) v d ≡ sum_of (suc j) d (v + r)
unfolding sum_of
above-sum zero r v d some more h =
    let first : zero * d + (v + r) ≡ v + r = omega arith in
    rw first (omega (arith, above-unfold (v + r) v d some (omega arith), above-zero (v + r - d) v d (omega arith)))
above-sum (suc j) r v d some more h =
    let less : suc j * d + (v + r) - d ≡ j * d + (v + r) = omega arith in
    let rest : above_of (j * d + (v + r)) v d ≡ sum_of (suc j) d (v + r) = above-sum j r v d some more h in
    let first : above_of (suc j * d + (v + r)) v d ≡ suc j * d + (v + r) + above_of (j * d + (v + r)) v d =
    above-unfold (suc j * d + (v + r)) v d some (omega arith) ∙ ap
    (λ n. suc j * d + (v + r) + above_of n v d) less in
    omega arith

-- the last term fills what is left, up to v + d
pub record IsLastAbove (l v d k last : ℕ) : Type 0 where
  pub sum : sum_of k d 0 ≤ l
  pub over : v < last
  pub within : last ≤ v + d
  pub fits : last * k ≤ l - sum_of k d 0
  pub most : last < v + d → l - sum_of k d 0 < suc last * k

-- the step with k terms above v
above-last : (l v d j last : ℕ) → 0 < d → IsLastAbove l v d (suc j) last →
    above_of (j * d + last) v d ≡ sum_of (suc j) d last
above-last l v d j last some is =
    let parts : v + (last - v) ≡ last = omega (arith, is.over) in
    let sum : above_of (j * d + (v + (last - v))) v d ≡ sum_of (suc j) d (v + (last - v)) =
    above-sum j (last - v) v d some (omega (arith, is.over)) (omega (arith, is.within)) in
    rw parts at sum

-- a way without room for one term above v
pub slowed-none : (l v d : ℕ) → 0 < d → ((k : ℕ) → sum_of k d (v + 1) ≤ l → k ≤ 0) → (u : ℕ) →
    above_of u v d ≤ l → u ≤ v
slowed-none l v d some none u fits =
    elim (cases_lt v u) [
      | inl beyond ↦ let here : 0 * d + (v + 1) ≡ suc v = omega arith in
          let one : above_of (0 * d + (v + 1)) v d ≡ sum_of 1 d (v + 1) = above-sum 0 1 v d some (omega arith) some in
          let least : above_of (suc v) v d ≡ sum_of 1 d (v + 1) = rw here at one in
          absurd (omega (arith, none 1 (omega (arith, above-mono (suc v) u v d some (omega arith)))))
      | inr within ↦ within
    ]

module _ (sums : AreSums) where
  open sums use {sum_shifts}

  pub last-above : (l v d k : ℕ) → 0 < d → 0 < k → sum_of k d (v + 1) ≤ l →
      IsLastAbove l v d k (min (v + d) ((l - sum_of k d 0) / k))
  last-above l v d k rises some fits =
      let shift : sum_of k d (v + 1) ≡ sum_of k d 0 + (v + 1) * k = sum_shifts k d (v + 1) in
      let parts : (l - sum_of k d 0) / k * k + (l - sum_of k d 0) % k ≡ l - sum_of k d 0 =
      div-add-mod' (l - sum_of k d 0) k in
      let below : (l - sum_of k d 0) % k < k = mod_below (l - sum_of k d 0) k some in
      let enough : v < (l - sum_of k d 0) / k =
      elim (cases_lt v ((l - sum_of k d 0) / k)) [
        | inl h ↦ h
        | inr few ↦ absurd (let less : (l - sum_of k d 0) / k * k ≤ v * k = mul-le
            ((l - sum_of k d 0) / k) k v k few (omega arith) in omega arith)
      ] in
      record {
        sum = omega arith;
        over = omega arith;
        within = omega arith;
        fits = let less : min (v + d) ((l - sum_of k d 0) / k) * k ≤ (l - sum_of k d 0) / k * k = mul-le
            (min (v + d) ((l - sum_of k d 0) / k)) k ((l - sum_of k d 0) / k) k (omega arith)
            (omega arith) in omega arith;
        most = λ short.
            let here : min (v + d) ((l - sum_of k d 0) / k) ≡ (l - sum_of k d 0) / k = omega arith in
            rw here (omega arith);
      }

  -- its sum fits
  pub slowed-fits : (l v d k last : ℕ) → 0 < d → 0 < k → IsLastAbove l v d k last →
      above_of ((k - 1) * d + last) v d ≤ l
  slowed-fits l v d zero last some none is = absurd (omega arith)
  slowed-fits l v d (suc j) last some none is =
      let less : suc j - 1 ≡ j = omega arith in
      rw less (omega (arith, above-last l v d j last some is, sum_shifts (suc j) d last, is.fits, is.sum))

  -- that of the next greater step does not
  slowed-over : (l v d j last : ℕ) → 0 < d → IsLastAbove l v d (suc j) last → l < sum_of (suc (suc j)) d (v + 1) →
      l < above_of (suc (j * d + last)) v d
  slowed-over l v d j last some is over =
      elim (cases_lt last (v + d)) [
        | inl short ↦ let next : suc (j * d + last) ≡ j * d + (v + (suc last - v)) = omega (arith, is.over) in
            let parts : v + (suc last - v) ≡ suc last = omega (arith, is.over) in
            let sum : above_of (j * d + (v + (suc last - v))) v d ≡ sum_of (suc j) d (v + (suc last - v)) =
            above-sum j (suc last - v) v d some (omega (arith, is.over)) (omega arith) in
            let more : l - sum_of (suc j) d 0 < suc last * suc j = is.most short in
            rw (next, sum, parts) (omega (arith, sum_shifts (suc j) d (suc last)))
        | inr full ↦ let next : suc (j * d + last) ≡ suc j * d + (v + 1) = omega (arith, is.within) in
            let sum : above_of (suc j * d + (v + 1)) v d ≡ sum_of (suc (suc j)) d (v + 1) =
            above-sum (suc j) 1 v d some (omega arith) some in
            rw (next, sum) over
      ]

  -- so no greater step fits
  pub slowed-greatest : (l v d k last : ℕ) → 0 < d → 0 < k → IsLastAbove l v d k last →
      ((m : ℕ) → sum_of m d (v + 1) ≤ l → m ≤ k) → (u : ℕ) → above_of u v d ≤ l → u ≤ (k - 1) * d + last
  slowed-greatest l v d zero last some none is most u fits = absurd (omega arith)
  slowed-greatest l v d (suc j) last some none is most u fits =
      let less : suc j - 1 ≡ j = omega arith in
      let over : l < sum_of (suc (suc j)) d (v + 1) =
      elim (cases_lt l (sum_of (suc (suc j)) d (v + 1))) [
        | inl h ↦ h
        | inr more ↦ absurd (omega (arith, most (suc (suc j)) more))
      ] in
      rw less (elim (cases_lt (j * d + last) u) [
        | inl beyond ↦ absurd (omega (arith, slowed-over l v d j last some is over, above-mono (suc (j * d + last)) u v d some (omega arith)))
        | inr within ↦ within
      ])

  -- the step is no greater than v or the way
  pub slowed-short : (l v d k last : ℕ) → 0 < d → 0 < k → IsLastAbove l v d k last → (k - 1) * d + last ≤ l
  slowed-short l v d k last some none is =
      elim (cases_lt v ((k - 1) * d + last)) [
        | inl more ↦ omega (arith, slowed-fits l v d k last some none is, above-unfold ((k - 1) * d + last) v d some more)
        | inr few ↦ absurd (omega (arith, is.over))
      ]
