-- The quotient is that of the product itself, in either width.
use Rattle.std.proofs.Common.{◌≡◌, arith, ◌∙◌, ◌*ℤ◌, to_z, of_z, to_z-of_z, FitsSigned, w64}
use Rattle.std.specs.Int.{w128}
use Rattle.std.proofs.lemmas.Int.{ints, fits_signed_mul}
use Rattle.follow_plan.specs.Floor.{floor_of}
use Rattle.follow_plan.proofs.Floors.{floor_small}
use Rattle.follow_plan.proofs.floor.floor_of_product.Goals as goal

-- the product that fits, and its quotient
narrow : (c : goal.After-div_euclid) → c.div_euclid.result ≡ floor_of (c.args.a *ℤ c.args.b) c.args.d
unfolding floor_of
narrow c =
    let a : FitsSigned w64 c.args.a = c.ranges.a in
    let b : FitsSigned w64 c.args.b = c.ranges.b in
    let d : FitsSigned w64 c.args.d = c.ranges.d in
    let told : FitsSigned w64 (c.args.a *ℤ c.args.b) × (c.in-Some.product ≡ c.args.a *ℤ c.args.b) = simp to_z-of_z at c.in-Some.ensures in
    let product : FitsSigned w64 (c.args.a *ℤ c.args.b) = told.0 in
    simp to_z-of_z at (rw told.1 at c.div_euclid.ensures)

pub returns-in-Some-clause-value : goal.returns-in-Some-clause-value
returns-in-Some-clause-value c =
    let same : to_z w128 (of_z w128 (to_z w64 (of_z w64 c.div_euclid.result))) ≡ c.div_euclid.result = omega (arith, ints) in same ∙ narrow c

-- the quotient of the wide product
wide : (c : goal.After-div_euclid-in-None) → c.div_euclid-in-None.result ≡ floor_of (c.args.a *ℤ c.args.b) c.args.d
unfolding floor_of
wide c =
    let a : FitsSigned w64 c.args.a = c.ranges.a in
    let b : FitsSigned w64 c.args.b = c.ranges.b in
    let d : FitsSigned w64 c.args.d = c.ranges.d in
    let a_wide : FitsSigned w128 c.args.a = omega (arith, ints) in
    let b_wide : FitsSigned w128 c.args.b = omega (arith, ints) in
    let d_wide : FitsSigned w128 c.args.d = omega (arith, ints) in
    let product : FitsSigned w128 (c.args.a *ℤ c.args.b) = fits_signed_mul w128 c.args.a c.args.b 9223372036854775808 9223372036854775808 (omega (arith, ints)) (omega (arith, ints)) (omega arith) in
    simp to_z-of_z at c.div_euclid-in-None.ensures

pub returns-in-None-clause-value : goal.returns-in-None-clause-value
returns-in-None-clause-value c =
    let same : to_z w128 (of_z w128 c.div_euclid-in-None.result) ≡ c.div_euclid-in-None.result = omega (arith, ints) in same ∙ wide c

pub returns-in-None-clause-small : goal.returns-in-None-clause-small
returns-in-None-clause-small c =
    let same : to_z w128 (of_z w128 c.div_euclid-in-None.result) ≡ c.div_euclid-in-None.result = omega (arith, ints) in
    rw (same ∙ wide c) (floor_small (c.args.a *ℤ c.args.b) c.args.d c.requires)
