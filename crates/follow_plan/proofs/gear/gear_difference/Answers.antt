-- Both quotients are no larger than the products, which leave room in 128 bits.
use Rattle.std.proofs.Common.{◌≡◌, ◌≤◌, ◌^◌, arith, ap, ◌∙◌, ℤ, ◌*ℤ◌, ◌-ℤ◌, unsigned_abs, to_z, of_z, to_z-of_z, FitsSigned, w64, mul-le-mul}
use Rattle.std.specs.Int.{w128}
use Rattle.std.proofs.lemmas.Int.{ints, unsigned_abs-mul}
use Rattle.follow_plan.specs.Floor.{floor_of}
use Rattle.follow_plan.proofs.gear.gear_difference.Goals as goal

product_small : (n m : ℤ) → unsigned_abs n ≤ 1000000 → FitsSigned w64 m → unsigned_abs (n *ℤ m) ≤ 9223372036854775808000000
product_small n m n_small fits =
    let m_small : unsigned_abs m ≤ 9223372036854775808 = omega (arith, ints) in
    rw (unsigned_abs-mul n m) (omega (arith, mul-le-mul n_small m_small))

-- the two quotients, of numbers that fit
last : (c : goal.After-floor_of_product-2) → (c.floor_of_product.result ≡ floor_of (c.args.n *ℤ c.args.m1) c.args.d) × (unsigned_abs c.floor_of_product.result ≤ 9223372036854775808000000)
last c =
    let n : FitsSigned w64 c.args.n = c.ranges.n in
    let m : FitsSigned w64 c.args.m1 = c.ranges.m1 in
    let d : FitsSigned w64 c.args.d = c.ranges.d in
    let small : unsigned_abs c.floor_of_product.result ≤ unsigned_abs (c.args.n *ℤ c.args.m1) = simp to_z-of_z at c.floor_of_product.ensures.small in
    (simp to_z-of_z at c.floor_of_product.ensures.value, omega (arith, product_small c.args.n c.args.m1 c.requires.numerator m))

first : (c : goal.After-floor_of_product-2) → (c.floor_of_product-2.result ≡ floor_of (c.args.n *ℤ c.args.m0) c.args.d) × (unsigned_abs c.floor_of_product-2.result ≤ 9223372036854775808000000)
first c =
    let n : FitsSigned w64 c.args.n = c.ranges.n in
    let m : FitsSigned w64 c.args.m0 = c.ranges.m0 in
    let d : FitsSigned w64 c.args.d = c.ranges.d in
    let small : unsigned_abs c.floor_of_product-2.result ≤ unsigned_abs (c.args.n *ℤ c.args.m0) = simp to_z-of_z at c.floor_of_product-2.ensures.small in
    (simp to_z-of_z at c.floor_of_product-2.ensures.value, omega (arith, product_small c.args.n c.args.m0 c.requires.numerator m))

-- what the code's difference of two such numbers gives
difference_back : (a b : ℤ) → unsigned_abs a ≤ 9223372036854775808000000 → unsigned_abs b ≤ 9223372036854775808000000 → (FitsSigned w128 (to_z w128 (of_z w128 a) -ℤ to_z w128 (of_z w128 b))) × (to_z w128 (of_z w128 (to_z w128 (of_z w128 a) -ℤ to_z w128 (of_z w128 b))) ≡ a -ℤ b)
difference_back a b a_small b_small =
    let a_fits : FitsSigned w128 a = omega (arith, ints) in
    let b_fits : FitsSigned w128 b = omega (arith, ints) in
    let fits : FitsSigned w128 (a -ℤ b) = omega (arith, ints) in
    (simp to_z-of_z fits, simp to_z-of_z)

small_difference : (z a b : ℤ) → z ≡ a -ℤ b → unsigned_abs a ≤ 9223372036854775808000000 → unsigned_abs b ≤ 9223372036854775808000000 → unsigned_abs z ≤ 2 ^ 84
small_difference z a b is a_small b_small = omega (arith, ints)

pub overflow_sub-result : goal.overflow_sub-result
overflow_sub-result c = (difference_back c.floor_of_product.result c.floor_of_product-2.result (last c).1 (first c).1).0

pub returns-clause-value : goal.returns-clause-value
returns-clause-value c =
    (difference_back c.floor_of_product.result c.floor_of_product-2.result (last c).1 (first c).1).1
    ∙ ap (λ z. z -ℤ c.floor_of_product-2.result) (last c).0
    ∙ ap (λ z. floor_of (c.args.n *ℤ c.args.m1) c.args.d -ℤ z) (first c).0

pub returns-clause-small : goal.returns-clause-small
returns-clause-small c = small_difference _ c.floor_of_product.result c.floor_of_product-2.result (difference_back c.floor_of_product.result c.floor_of_product-2.result (last c).1 (first c).1).1 (last c).1 (first c).1
