-- The greatest step from which the braking fits a way, from the greatest number of its terms.
-- for: reach
use Rattle.std.proofs.Common.{inl, inr, ◌≡◌, ℕ, zero, suc, ◌+◌, ◌-◌, ◌*◌, ◌/◌, ◌%◌, ◌≤◌, ◌<◌, min, arith, lit<, ◌∙◌, ap}
use Rattle.std.proofs.lemmas.Nat.{div-add-mod', mod_below, mul-le}
use Rattle.motion_numbers.specs.Run.{run_of, reach_of}
use Rattle.ramp_root.specs.Sums.{sum_of}
use Rattle.std.proofs.lemmas.Bool.{cases_lt}
use Rattle.ramp_root.proofs.SumLemmas.{sum_of-shift, sum_of-size}
use Rattle.motion_numbers.specs.Laws.{AreWays}

-- the last term fills what is left, up to d
pub record IsLast (l d k last : ℕ) : Type 0 where
  pub sum : sum_of k d 0 ≤ l
  pub within : last ≤ d
  pub fits : last * k ≤ l - sum_of k d 0
  pub most : last < d → l - sum_of k d 0 < suc last * k

pub last-is : (l d k : ℕ) → 0 < k → sum_of k d 1 ≤ l → IsLast l d k (min d ((l - sum_of k d 0) / k))
last-is l d k some fits =
    let shift : sum_of k d 1 ≡ sum_of k d 0 + 1 * k = sum_of-shift k d 1 in
    let parts : (l - sum_of k d 0) / k * k + (l - sum_of k d 0) % k ≡ l - sum_of k d 0 =
    div-add-mod' (l - sum_of k d 0) k in
    let below : (l - sum_of k d 0) % k < k = mod_below (l - sum_of k d 0) k some in
    record {
      sum = omega arith;
      within = omega arith;
      fits = let less : min d ((l - sum_of k d 0) / k) * k ≤ (l - sum_of k d 0) / k * k = mul-le
          (min d ((l - sum_of k d 0) / k)) k ((l - sum_of k d 0) / k) k (omega arith)
          (omega arith) in omega arith;
      most = λ short.
          let here : min d ((l - sum_of k d 0) / k) ≡ (l - sum_of k d 0) / k = omega arith in
          rw here (omega arith);
    }

-- the sum of a number of terms that is greatest is below that of one more
pub count-over : (l d k : ℕ) → ((m : ℕ) → sum_of m d 1 ≤ l → m ≤ k) → l < sum_of (suc k) d 1
count-over l d k most =
    elim (cases_lt l (sum_of (suc k) d 1)) [
      | inl over ↦ over
      | inr fits ↦ absurd (omega (arith, most (suc k) fits))
    ]

-- the number of terms is no greater than the way
pub count-pairs : (l d k : ℕ) → 0 < d → sum_of k d 1 ≤ l → k * (k - 1) ≤ 2 * l
count-pairs l d k some fits =
    let size : k * k ≤ 2 * sum_of k d 1 = sum_of-size k d 1 some (lit< tt) in
    let less : k * (k - 1) ≤ k * k = mul-le k (k - 1) k k (omega arith) (omega arith) in
    omega arith

module _ (ways : AreWays) where
  open ways use {reach_fits, reach_is, run_ge, run_small, run_unfold, run_zero}

  -- the run of r and j times d is the sum of j + 1 terms from r
  pub run-sum : (j r d : ℕ) → 0 < d → r ≤ d → run_of (j * d + r) d ≡ sum_of (suc j) d r
  unfolding sum_of
  run-sum zero r d some h = let last : zero * d + r ≡ r = omega arith in rw last
      (run_small r d some h ∙ omega arith)
  run-sum (suc j) r d some h =
      let less : suc j * d + r - d ≡ j * d + r = omega arith in
      let rest : run_of (j * d + r) d ≡ sum_of (suc j) d r = run-sum j r d some h in
      let first : run_of (suc j * d + r) d ≡ suc j * d + r + run_of (j * d + r) d =
      run_unfold (suc j * d + r) d some ∙ ap (λ n. suc j * d + r + run_of n d) less in
      omega arith

  -- the reach by its number of terms
  pub reach-counted : (l d k last : ℕ) → 0 < d → 0 < k → IsLast l d k last → l < sum_of (suc k) d 1 →
      reach_of l d ≡ (k - 1) * d + last
  reach-counted l d zero last some none is over = absurd (omega arith)
  reach-counted l d (suc j) last some none is over =
      let less : suc j - 1 ≡ j = omega arith in
      rw less (reach_is (j * d + last) l d some
      (let run : run_of (j * d + last) d ≡ sum_of (suc j) d last = run-sum j last d some is.within in
      omega (arith, sum_of-shift (suc j) d last, is.fits, is.sum))
      (elim (cases_lt last d) [
        | inl short ↦ let next : suc (j * d + last) ≡ j * d + suc last = omega arith in
            let run : run_of (j * d + suc last) d ≡ sum_of (suc j) d (suc last) = run-sum j (suc last) d some short in
            let more : l - sum_of (suc j) d 0 < suc last * suc j = is.most short in
            rw next (omega (arith, sum_of-shift (suc j) d (suc last)))
        | inr full ↦ let next : suc (j * d + last) ≡ suc j * d + 1 = omega (arith, is.within) in
            let run : run_of (suc j * d + 1) d ≡ sum_of (suc (suc j)) d 1 = run-sum (suc j) 1 d some some in
            rw next (omega arith)
      ]))

  -- a way without room for one term is none
  pub reach-none : (l d : ℕ) → 0 < d → ((k : ℕ) → sum_of k d 1 ≤ l → k ≤ 0) → reach_of l d ≡ 0
  reach-none l d some none =
      elim (cases_lt 0 l) [
        | inl room ↦ let one : run_of (0 * d + 1) d ≡ sum_of 1 d 1 = run-sum 0 1 d some some in
            let first : 0 * d + 1 ≡ 1 = omega arith in
            let small : run_of 1 d ≡ 1 = run_small 1 d some some in
            let fits : sum_of 1 d 1 ≤ l = omega (arith, rw first at one) in
            absurd (omega (arith, none 1 fits))
        | inr rest ↦ reach_is 0 l d some (omega (arith, run_zero d)) (omega (arith, run_small 1 d some some))
      ]

  -- and the reach neither
  pub reach-short : (l d k last : ℕ) → 0 < d → 0 < k → IsLast l d k last → l < sum_of (suc k) d 1 →
      (k - 1) * d + last ≤ l
  reach-short l d k last some none is over =
      let here : reach_of l d ≡ (k - 1) * d + last = reach-counted l d k last some none is over in
      let fits : run_of (reach_of l d) d ≤ l = reach_fits l d in
      omega (arith, run_ge (reach_of l d) d some)
