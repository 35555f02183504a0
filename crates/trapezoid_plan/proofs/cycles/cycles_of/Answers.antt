-- The rates' sizes are those of the bound.
use Rattle.std.proofs.Common.{◌≡◌, refl, unsigned_abs, to_z, of_z, w64, arith}
use Rattle.std.proofs.lemmas.Int.{ints}
use Rattle.trapezoid_plan.specs.CyclesBound.{cycles_of_sizes}
use Rattle.trapezoid_plan.proofs.cycles.cycles_of.Goals as goal

pub returns-clause-value : goal.returns-clause-value
unfolding cycles_of_sizes
returns-clause-value c =
    let v : unsigned_abs (to_z w64 (of_z w64 c.args.rates.now.v)) ≡ unsigned_abs c.args.rates.now.v = omega (arith, ints) in
    let a : unsigned_abs (to_z w64 (of_z w64 c.args.rates.now.a)) ≡ unsigned_abs c.args.rates.now.a = omega (arith, ints) in
    let d : unsigned_abs (to_z w64 (of_z w64 c.args.rates.now.d)) ≡ unsigned_abs c.args.rates.now.d = omega (arith, ints) in
    rw (c.div_ceil-2.ensures, c.div_ceil.ensures, c.min-longest.ensures, c.ramp_sum.ensures.value, v, a, d) refl
