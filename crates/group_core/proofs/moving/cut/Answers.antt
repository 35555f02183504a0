-- The rates by their parts.
use Rattle.std.specs.Int.{int_min}
use Rattle.std.proofs.Common.{◌≡◌, ◌∙◌, ℤ, arith, w64, FitsSigned, to_z-of_z}
use Rattle.std.proofs.lemmas.Int.{ints}
use Rattle.command_pool.specs.declared.rates.Rates.{Rates}
use Rattle.group_core.proofs.moving.cut.Goals as goal

rates-as : (x y z v a d : ℤ) → x ≡ v → y ≡ a → z ≡ d →
    (let r : Rates = record { v = x; a = y; d = z } in r) ≡ record { v = v; a = a; d = d }
rates-as x y z v a d e f g = λ i. record { v = e i; a = f i; d = g i }

pub returns-clause-value : goal.returns-clause-value
returns-clause-value c =
    let v : FitsSigned w64 c.lesser.result = omega (arith, ints, c.lesser.ensures.least, c.lesser.ensures.most) in
    let a : FitsSigned w64 c.lesser-2.result = omega (arith, ints, c.lesser-2.ensures.least, c.lesser-2.ensures.most) in
    let d : FitsSigned w64 c.lesser-3.result = omega (arith, ints, c.lesser-3.ensures.least, c.lesser-3.ensures.most) in
    let rv : FitsSigned w64 c.args.rates.now.v = omega (arith, ints) in
    let ra : FitsSigned w64 c.args.rates.now.a = omega (arith, ints) in
    let rd : FitsSigned w64 c.args.rates.now.d = omega (arith, ints) in
    let lv : FitsSigned w64 c.args.limits.now.vmax = omega (arith, ints) in
    let la : FitsSigned w64 c.args.limits.now.amax = omega (arith, ints) in
    let ld : FitsSigned w64 c.args.limits.now.dmax = omega (arith, ints) in
    let e : c.lesser.result ≡ int_min c.args.rates.now.v c.args.limits.now.vmax = simp to_z-of_z at c.lesser.ensures.value in
    let f : c.lesser-2.result ≡ int_min c.args.rates.now.a c.args.limits.now.amax = simp to_z-of_z at c.lesser-2.ensures.value in
    let g : c.lesser-3.result ≡ int_min c.args.rates.now.d c.args.limits.now.dmax = simp to_z-of_z at c.lesser-3.ensures.value in
    rates-as _ _ _ _ _ _ (to_z-of_z v ∙ e) (to_z-of_z a ∙ f) (to_z-of_z d ∙ g)
