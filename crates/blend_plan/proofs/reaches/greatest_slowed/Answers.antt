-- The step is read off the greatest number of its terms.
use Rattle.std.proofs.Common.{◌≡◌, ◌≤◌, ◌<◌, ◌+◌, ◌-◌, ◌*◌, ◌/◌, arith, refl, ℕ, min}
use Rattle.ramp_root.specs.Sums.{sum_of}
use Rattle.std.proofs.lemmas.Nat.{mul-le}
use Rattle.blend_plan.proofs.Slowings.{IsLastAbove, last-above, slowed-fits, slowed-greatest, slowed-none, slowed-short, above-zero}
use Rattle.ramp_root.specs.Laws.{AreSums}
use Rattle.blend_plan.proofs.reaches.greatest_slowed.Goals as goal

module _ (sums : AreSums) where
  open sums use {sum_pairs, sum_shifts, sum_size}

  -- the number of terms is no greater than the way
  pairs : (l d r k : ℕ) → 0 < d → 0 < r → sum_of k d r ≤ l → k * (k - 1) ≤ 2 * l
  pairs l d r k some first fits =
      let size : k * k ≤ 2 * sum_of k d r = sum_size k d r some first in
      let less : k * (k - 1) ≤ k * k = mul-le k (k - 1) k k (omega arith) (omega arith) in
      omega arith

  -- the pairs of terms fit the way
  pairs_fit : (l d r k : ℕ) → sum_of k d r ≤ l → d * (k * (k - 1) / 2) ≤ l
  pairs_fit l d r k fits = rw (sum_pairs k d) (omega (arith, sum_shifts k d r))

  -- the last term as the code computes it
  last_of : (l v d k last : ℕ) → 0 < d → 0 < k → sum_of k d (v + 1) ≤ l →
      last ≡ min (v + d) ((l - d * (k * (k - 1) / 2)) / k) → IsLastAbove l v d k last
  last_of l v d k last rises some fits is = rw (is, sum_pairs k d) (last-above sums l v d k rises some fits)

  short : (l v d k last : ℕ) → 0 < d → 0 < k → sum_of k d (v + 1) ≤ l →
      last ≡ min (v + d) ((l - d * (k * (k - 1) / 2)) / k) → (k - 1) * d + last ≤ l
  short l v d k last rises some fits is = slowed-short sums l v d k last rises some (last_of l v d k last rises some fits is)

pub returns-then-terms-eq0-clause-slowed : goal.returns-then-terms-eq0-clause-slowed
returns-then-terms-eq0-clause-slowed g c = omega (arith, above-zero c.args.to c.args.to c.args.d (omega arith))

pub returns-then-terms-eq0-clause-greatest : goal.returns-then-terms-eq0-clause-greatest
returns-then-terms-eq0-clause-greatest g c =
    slowed-none c.args.way c.args.to c.args.d c.requires.least
    (λ k fits. omega (arith, c.greatest_count_counted-terms.ensures.greatest k fits))

pub overflow_mul-rest : goal.overflow_mul-rest
overflow_mul-rest g c =
    omega (arith, pairs c.sums_of_ramps.ensures c.args.way c.args.d (c.args.to + 1) c.greatest_count_counted-terms.result c.requires.least (omega arith) c.greatest_count_counted-terms.ensures.fits)

pub overflow_mul-rest-2 : goal.overflow_mul-rest-2
overflow_mul-rest-2 g c =
    omega (arith, pairs_fit c.sums_of_ramps.ensures c.args.way c.args.d (c.args.to + 1) c.greatest_count_counted-terms.result c.greatest_count_counted-terms.ensures.fits)

pub overflow_sub-rest-2 : goal.overflow_sub-rest-2
overflow_sub-rest-2 g c =
    pairs_fit c.sums_of_ramps.ensures c.args.way c.args.d (c.args.to + 1) c.greatest_count_counted-terms.result c.greatest_count_counted-terms.ensures.fits

pub overflow_mul-result : goal.overflow_mul-result
overflow_mul-result g c =
    omega (
      arith,
      short c.sums_of_ramps.ensures c.args.way c.args.to c.args.d c.greatest_count_counted-terms.result _ c.requires.least
          (omega arith) c.greatest_count_counted-terms.ensures.fits refl,
    )

pub overflow_add-result : goal.overflow_add-result
overflow_add-result g c =
    omega (
      arith,
      short c.sums_of_ramps.ensures c.args.way c.args.to c.args.d c.greatest_count_counted-terms.result c.min.result c.requires.least
          (omega arith) c.greatest_count_counted-terms.ensures.fits c.min.ensures,
    )

pub returns-clause-slowed : goal.returns-clause-slowed
returns-clause-slowed g c =
    slowed-fits c.sums_of_ramps.ensures c.args.way c.args.to c.args.d c.greatest_count_counted-terms.result c.min.result c.requires.least
    (omega arith)
    (last_of c.sums_of_ramps.ensures c.args.way c.args.to c.args.d c.greatest_count_counted-terms.result c.min.result c.requires.least
    (omega arith) c.greatest_count_counted-terms.ensures.fits c.min.ensures)

pub returns-clause-greatest : goal.returns-clause-greatest
returns-clause-greatest g c =
    slowed-greatest c.sums_of_ramps.ensures c.args.way c.args.to c.args.d c.greatest_count_counted-terms.result c.min.result c.requires.least
    (omega arith)
    (last_of c.sums_of_ramps.ensures c.args.way c.args.to c.args.d c.greatest_count_counted-terms.result c.min.result c.requires.least
    (omega arith) c.greatest_count_counted-terms.ensures.fits c.min.ensures)
    c.greatest_count_counted-terms.ensures.greatest
