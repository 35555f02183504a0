-- The sum in closed form.
use Rattle.std.proofs.Common.{◌≡◌, ℕ, ◌+◌, ◌-◌, ◌*◌, ◌/◌, ◌≤◌, ◌<◌, arith}
use Rattle.std.specs.Int.{div_ceil}
use Rattle.ramp_root.specs.Sums.{sum_of}
use Rattle.blend_plan.specs.Sums.{rise_of}
use Rattle.blend_plan.proofs.Speedings.{HasTerms, rise-counted, terms-counted, rise-small}
use Rattle.ramp_root.specs.Laws.{AreSums}
use Rattle.blend_plan.proofs.risen.rise_sum.Goals as goal

module _ (sums : AreSums) where
  open sums use {sum_pairs, sum_shifts}

  -- as the code computes it
  closed : (r u v a n : ℕ) → 0 < a → u ≤ v → n ≡ div_ceil (v - u) a →
      r ≡ a * (n * (n - 1) / 2) + u * n + v → r ≡ rise_of u v a
  closed r u v a n some order terms is =
      let has : HasTerms u v a n = rw terms (terms-counted u v a some order) in
      let pairs : a * (n * (n - 1) / 2) ≡ sum_of n a 0 = sum_pairs n a in
      rw is (rw pairs (omega (arith, rise-counted sums n u v a some has, sum_shifts n a u)))

pub returns-clause-value : goal.returns-clause-value
returns-clause-value c =
    closed c.sums_of_ramps.ensures _ c.args.u c.args.v c.args.a c.div_ceil.result c.requires.least c.requires.order
    c.div_ceil.ensures c.with_terms.ensures

pub returns-clause-small : goal.returns-clause-small
returns-clause-small c = rw (returns-clause-value c) (rise-small c.args.u c.args.v c.args.a c.requires.velocity)
