-- The reach is read off the greatest number of terms.
use Rattle.std.proofs.Common.{◌≡◌, ◌≤◌, ◌<◌, ◌+◌, ◌-◌, ◌*◌, ◌/◌, arith, refl, sym, ℕ, min}
use Rattle.ramp_root.specs.Sums.{sum_of}
use Rattle.ramp_root.proofs.SumLemmas.{sum_of-pairs}
use Rattle.ramp_root.proofs.ReachCounts.{IsLast, last-is, reach-counted, reach-none, count-over, count-pairs, reach-short}
use Rattle.motion_numbers.specs.Laws.{AreWays}
use Rattle.ramp_root.proofs.reaches.reach.Goals as goal

-- the pairs of terms fit the way
pairs_fit : (l d k : ℕ) → 0 < d → 0 < k → sum_of k d 1 ≤ l → d * (k * (k - 1) / 2) ≤ l
pairs_fit l d k rises some fits =
    let last : IsLast l d k (min d ((l - sum_of k d 0) / k)) = last-is l d k some fits in
    rw (sum_of-pairs k d) last.sum

-- the last term as the code computes it
last_of : (l d k last : ℕ) → 0 < k → sum_of k d 1 ≤ l → last ≡ min d ((l - d * (k * (k - 1) / 2)) / k) →
    IsLast l d k last
last_of l d k last some fits is = rw (is, sum_of-pairs k d) (last-is l d k some fits)

module _ (ways : AreWays) where
  short : (l d k last : ℕ) → 0 < d → 0 < k → sum_of k d 1 ≤ l → ((m : ℕ) → sum_of m d 1 ≤ l → m ≤ k) →
      last ≡ min d ((l - d * (k * (k - 1) / 2)) / k) → (k - 1) * d + last ≤ l
  short l d k last rises some fits most is = reach-short ways l d k last rises some (last_of l d k last some fits is)
      (count-over l d k most)

pub returns-then-terms-eq0-clause-value : goal.returns-then-terms-eq0-clause-value
returns-then-terms-eq0-clause-value g c =
    sym (reach-none c.ways_to_rest.ensures c.args.way c.args.d c.requires.least
    (λ k fits. omega (arith, c.greatest_count_counted-terms.ensures.greatest k fits)))

pub overflow_mul-rest : goal.overflow_mul-rest
overflow_mul-rest g c =
    omega (arith, count-pairs c.args.way c.args.d c.greatest_count_counted-terms.result c.requires.least c.greatest_count_counted-terms.ensures.fits)

pub overflow_mul-rest-2 : goal.overflow_mul-rest-2
overflow_mul-rest-2 g c =
    omega (
      arith,
      pairs_fit c.args.way c.args.d c.greatest_count_counted-terms.result c.requires.least
          (omega arith) c.greatest_count_counted-terms.ensures.fits,
    )

pub overflow_sub-rest-2 : goal.overflow_sub-rest-2
overflow_sub-rest-2 g c =
    pairs_fit c.args.way c.args.d c.greatest_count_counted-terms.result c.requires.least
    (omega arith) c.greatest_count_counted-terms.ensures.fits

pub overflow_mul-result : goal.overflow_mul-result
overflow_mul-result g c =
    omega (
      arith,
      short c.ways_to_rest.ensures c.args.way c.args.d c.greatest_count_counted-terms.result _ c.requires.least
          (omega arith) c.greatest_count_counted-terms.ensures.fits c.greatest_count_counted-terms.ensures.greatest refl,
    )

pub overflow_add-result : goal.overflow_add-result
overflow_add-result g c =
    omega (arith, short c.ways_to_rest.ensures c.args.way c.args.d c.greatest_count_counted-terms.result c.min.result c.requires.least (omega arith) c.greatest_count_counted-terms.ensures.fits c.greatest_count_counted-terms.ensures.greatest c.min.ensures)

pub returns-clause-value : goal.returns-clause-value
returns-clause-value g c =
    sym (reach-counted c.ways_to_rest.ensures c.args.way c.args.d c.greatest_count_counted-terms.result c.min.result c.requires.least
    (omega arith)
    (last_of c.args.way c.args.d c.greatest_count_counted-terms.result c.min.result
    (omega arith) c.greatest_count_counted-terms.ensures.fits c.min.ensures)
    (count-over c.args.way c.args.d c.greatest_count_counted-terms.result c.greatest_count_counted-terms.ensures.greatest))
