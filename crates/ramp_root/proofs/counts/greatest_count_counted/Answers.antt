-- Where not even one term fits, none does.
use Rattle.std.proofs.Common.{ℕ, zero, suc, ◌≤◌, arith}
use Rattle.ramp_root.specs.Sums.{sum_of}
use Rattle.ramp_root.proofs.SumLemmas.{sum_of-first, sum_of-none, count-size}
use Rattle.ramp_root.proofs.counts.greatest_count_counted.Goals as goal

none_fits : (k l d r : ℕ) → (sum_of 1 d r ≤ l → ⊥) → sum_of k d r ≤ l → k ≤ 0
none_fits zero l d r no_first fits = omega arith
none_fits (suc k) l d r no_first fits = let first : sum_of 1 d r ≤ sum_of
    (suc k) d r = sum_of-first k d r in absurd (no_first (omega arith))

pub returns-then-fits-clause-small : goal.returns-then-fits-clause-small
returns-then-fits-clause-small g c = count-size c.count_by_root.result c.args.l c.args.d c.args.r c.requires.least_rise c.requires.least_first c.requires.sum c.count_by_root.ensures.fits

pub returns-else-fits-clause-fits : goal.returns-else-fits-clause-fits
returns-else-fits-clause-fits g c = omega (arith, sum_of-none c.args.d c.args.r)

pub returns-else-fits-clause-greatest : goal.returns-else-fits-clause-greatest
returns-else-fits-clause-greatest g c = λ k fits. none_fits k c.args.l c.args.d c.args.r
    (λ h. let yes_fits = c.if-fits.ensures.value.1 h in cc) fits
