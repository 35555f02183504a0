-- The position lies between those of the two points.
use Rattle.std.proofs.Common.{◌≡◌, ◌≤◌, arith, ap, ◌∙◌, ℤ, pos, neg_ℤ, ◌+ℤ◌, ◌-ℤ◌, ◌*ℤ◌, ◌≤ℤ◌, unsigned_abs, to_z, of_z, to_z-of_z, FitsSigned, w64}
use Rattle.std.specs.Int.{w128}
use Rattle.std.proofs.lemmas.Int.{ints}
use Rattle.follow_plan.specs.Floor.{floor_of}
use Rattle.follow_plan.specs.Cam.{position_between}
use Rattle.follow_plan.proofs.CamPlaces.{between_in_range}
use Rattle.follow_plan.proofs.cam.interpolate.Goals as goal

-- the rounded part of the way
part : (c : goal.After-floor_of_product) → c.floor_of_product.result ≡ floor_of ((c.args.after.now.1 -ℤ c.args.before.now.1) *ℤ (c.args.master -ℤ c.args.before.now.0)) (c.args.after.now.0 -ℤ c.args.before.now.0)
part c =
    let x0 : FitsSigned w64 c.args.before.now.0 = omega (arith, ints, c.requires.before_in_range) in
    let y0 : FitsSigned w64 c.args.before.now.1 = omega (arith, ints, c.requires.before_in_range) in
    let x1 : FitsSigned w64 c.args.after.now.0 = omega (arith, ints, c.requires.after_in_range) in
    let y1 : FitsSigned w64 c.args.after.now.1 = omega (arith, ints, c.requires.after_in_range) in
    let way : FitsSigned w64 (c.args.after.now.1 -ℤ c.args.before.now.1) = omega (arith, ints, c.requires.before_in_range, c.requires.after_in_range) in
    let passed : FitsSigned w64 (c.args.master -ℤ c.args.before.now.0) = omega (arith, ints, c.requires.before_in_range, c.requires.after_in_range) in
    let width : FitsSigned w64 (c.args.after.now.0 -ℤ c.args.before.now.0) = omega (arith, ints, c.requires.before_in_range, c.requires.after_in_range) in
    let master : FitsSigned w64 c.args.master = c.ranges.master in
    simp to_z-of_z at c.floor_of_product.ensures.value

-- the whole position lies within the range of the two points
within : (c : goal.After-floor_of_product) → (neg_ℤ (pos 1000000000000000) ≤ℤ (c.args.before.now.1 +ℤ c.floor_of_product.result)) × ((c.args.before.now.1 +ℤ c.floor_of_product.result) ≤ℤ pos 1000000000000000)
unfolding position_between
within c =
    rw (part c)
    (between_in_range c.args.before.now c.args.after.now (neg_ℤ (pos 1000000000000000)) (pos 1000000000000000) c.args.master c.requires.passed c.requires.ahead
    (omega (arith, ints, c.requires.before_in_range)) (omega (arith, ints, c.requires.before_in_range)) (omega (arith, ints, c.requires.after_in_range)) (omega (arith, ints, c.requires.after_in_range)))

pub overflow_cast-result : goal.overflow_cast-result
overflow_cast-result c = omega (arith, ints, c.requires.before_in_range, within c)

pub overflow_add-result : goal.overflow_add-result
overflow_add-result c = omega (arith, ints, c.requires.before_in_range, within c)

-- a sum in range is what the code's sum of it gives
sum_back : (y r : ℤ) → unsigned_abs y ≤ 1000000000000000 → (neg_ℤ (pos 1000000000000000) ≤ℤ (y +ℤ r)) × ((y +ℤ r) ≤ℤ pos 1000000000000000) → to_z w64 (of_z w64 (to_z w64 (of_z w64 y) +ℤ to_z w64 (of_z w64 (to_z w128 (of_z w128 r))))) ≡ y +ℤ r
sum_back y r small (low, high) =
    let y_fits : FitsSigned w64 y = omega (arith, ints) in
    let r_fits : FitsSigned w64 r = omega (arith, ints) in
    let r_wide : FitsSigned w128 r = omega (arith, ints) in
    let sum_fits : FitsSigned w64 (y +ℤ r) = omega (arith, ints) in
    simp to_z-of_z

small_sum : (z y r : ℤ) → z ≡ y +ℤ r → (neg_ℤ (pos 1000000000000000) ≤ℤ (y +ℤ r)) × ((y +ℤ r) ≤ℤ pos 1000000000000000) → unsigned_abs z ≤ 1000000000000000
small_sum z y r is (low, high) = omega (arith, ints)

pub returns-clause-value : goal.returns-clause-value
unfolding position_between
returns-clause-value c =
    sum_back c.args.before.now.1 c.floor_of_product.result (omega (arith, c.requires.before_in_range)) (within c)
    ∙ ap (λ z. c.args.before.now.1 +ℤ z) (part c)

pub returns-clause-small : goal.returns-clause-small
returns-clause-small c =
    small_sum _ c.args.before.now.1 c.floor_of_product.result
    (sum_back c.args.before.now.1 c.floor_of_product.result (omega (arith, c.requires.before_in_range)) (within c)) (within c)
