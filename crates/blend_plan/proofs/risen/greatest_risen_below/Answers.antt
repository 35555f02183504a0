-- The number of terms that may be left out gives the step.
use Rattle.std.proofs.Common.{◌≡◌, ℕ, ◌+◌, ◌-◌, ◌≤◌, ◌<◌, arith}
use Rattle.std.specs.Int.{div_ceil}
use Rattle.blend_plan.specs.Sums.{rise_of}
use Rattle.blend_plan.proofs.Speedings.{terms-counted}
use Rattle.blend_plan.proofs.RiseTops.{IsShort, Serves, IsGreatestServing, none-left, none-long, greatest-serving}
use Rattle.blend_plan.proofs.risen.greatest_risen_below.Given.{Over}
use Rattle.blend_plan.proofs.risen.greatest_risen_below.Goals as goal

-- the numbers of terms that the code computes
is-short : (way from high v a fewest most : ℕ) → 0 < a → from < high → high ≤ v → rise_of high v a < way →
    fewest ≡ div_ceil (v - high) a → most ≡ div_ceil (v - from - 1) a → IsShort way from high v a fewest most
is-short way from high v a fewest most some order within short low top = record {
  gain = some;
  within = within;
  order = order;
  short = short;
  high_has = rw low (terms-counted high v a some within);
  from_has =
      let less : v - from - 1 ≡ v - (from + 1) = omega arith in
      rw (top, less) (terms-counted (from + 1) v a some (omega arith));
}

-- where no step serves, none is above from
none-above : (way from high v a : ℕ) → ((u : ℕ) → Serves way from high v a u → ⊥) →
    (u : ℕ) → from < u → u ≤ high → way ≤ rise_of u v a → u ≤ from
none-above way from high v a none u above below risen =
    absurd (none u (record { above = above; below = below; risen = risen }))

pub returns-then-most-fewest-clause-greatest : goal.returns-then-most-fewest-clause-greatest
returns-then-most-fewest-clause-greatest g c =
    none-above c.args.way c.args.from c.args.high c.args.top c.args.a
    (λ u serves. none-left c.sums_of_ramps.ensures c.args.way c.args.from c.args.high c.args.top c.args.a
    c.div_ceil-fewest.result c.div_ceil-most.result u
    (is-short c.args.way c.args.from c.args.high c.args.top c.args.a c.div_ceil-fewest.result c.div_ceil-most.result
    c.requires.least c.requires.order c.requires.within c.requires.short c.div_ceil-fewest.ensures c.div_ceil-most.ensures)
    (omega arith) serves)

pub returns-then-rise-way-clause-greatest : goal.returns-then-rise-way-clause-greatest
returns-then-rise-way-clause-greatest g c =
    none-above c.args.way c.args.from c.args.high c.args.top c.args.a
    (λ u serves. none-long c.sums_of_ramps.ensures c.args.way c.args.from c.args.high c.args.top c.args.a
    c.div_ceil-fewest.result c.div_ceil-most.result c.greatest_with_terms-slowest.result u
    (is-short c.args.way c.args.from c.args.high c.args.top c.args.a c.div_ceil-fewest.result c.div_ceil-most.result
    c.requires.least c.requires.order c.requires.within c.requires.short c.div_ceil-fewest.ensures c.div_ceil-most.ensures)
    (record { is = c.greatest_with_terms-slowest.ensures.value }) (omega arith) serves)

-- the greatest step that serves
found : (g : Over) (c : goal.After-greatest_with_terms g) → IsGreatestServing c.args.way c.args.from c.args.high c.args.top c.args.a c.greatest_with_terms.result
found g c =
    greatest-serving c.sums_of_ramps.ensures c.args.way c.args.from c.args.high c.args.top c.args.a
    c.div_ceil-fewest.result c.div_ceil-most.result c.greatest_with_terms-slowest.result
    c.greatest_count_counted-left_out.result c.max.result c.greatest_with_terms.result
    (is-short c.args.way c.args.from c.args.high c.args.top c.args.a c.div_ceil-fewest.result c.div_ceil-most.result
    c.requires.least c.requires.order c.requires.within c.requires.short c.div_ceil-fewest.ensures c.div_ceil-most.ensures)
    (omega arith)
    (record { is = c.greatest_with_terms-slowest.ensures.value })
    (omega arith)
    (omega (arith, c.greatest_count_counted-left_out.ensures.fits))
    (λ k fits. c.greatest_count_counted-left_out.ensures.greatest k (omega arith))
    (omega (arith, c.max.ensures, c.saturating_sub.ensures))
    (record { is = c.greatest_with_terms.ensures.value })

pub returns-clause-below : goal.returns-clause-below
returns-clause-below g c = (found g c).serves.below

pub returns-clause-risen : goal.returns-clause-risen
returns-clause-risen g c = λ _. (found g c).serves.risen

pub returns-clause-greatest : goal.returns-clause-greatest
returns-clause-greatest g c = λ u above below risen. (found g c).greatest u (record { above = above; below = below; risen = risen })
