-- A step that is moved toward zero, by cases.
-- for: nearest_safe, taken_steps_keep_for_ever
use Rattle.std.proofs.Common.{◌≡◌, ◌-◌, true, false, ℤ, pos, neg_ℤ, ◌+ℤ◌, ◌-ℤ◌, ◌<ℤ◌, ◌≤ℤ◌, int_lt, unsigned_abs, arith, ◌∙◌}
use Rattle.std.proofs.lemmas.Bool.{cond-true, cond-false}
use Rattle.std.proofs.lemmas.Int.{ints, by_lt_z}
use Rattle.kin_core.specs.Toward.{toward_zero}

-- a test of order that holds, and one that fails
lt-true : (a b : ℤ) → a <ℤ b → int_lt a b ≡ true
lt-true a b h = grind (arith, ints)

lt-false : (a b : ℤ) → b ≤ℤ a → int_lt a b ≡ false
lt-false a b h = grind (arith, ints)

-- above d
pub toward_zero-above : (v d : ℤ) → d <ℤ v → toward_zero v d ≡ v -ℤ d
unfolding toward_zero
toward_zero-above v d above = cond-true _ _ _ (lt-true d v above)

-- below -d
pub toward_zero-below : (v d : ℤ) → v ≤ℤ d → v <ℤ neg_ℤ d → toward_zero v d ≡ v +ℤ d
unfolding toward_zero
toward_zero-below v d under below = cond-false _ _ _ (lt-false d v under) ∙ cond-true _ _ _ (lt-true v (neg_ℤ d) below)

-- between the two
pub toward_zero-near : (v d : ℤ) → v ≤ℤ d → neg_ℤ d ≤ℤ v → toward_zero v d ≡ pos 0
unfolding toward_zero
toward_zero-near v d under above = cond-false _ _ _ (lt-false d v under) ∙ cond-false _ _ _ (lt-false v (neg_ℤ d) above)

-- of a step that is not negative
pub toward_zero-ahead : (v d : ℤ) → pos 0 ≤ℤ v → pos 0 ≤ℤ d → toward_zero v d ≡ pos (unsigned_abs v - unsigned_abs d)
toward_zero-ahead v d p q =
    by_lt_z d v
    (λ above. let is : toward_zero v d ≡ v -ℤ d = toward_zero-above v d above in omega (arith, ints))
    (λ under. let is : toward_zero v d ≡ pos 0 = toward_zero-near v d under (omega (arith, ints)) in omega (arith, ints))

-- the other direction
pub toward_zero-turned : (v d : ℤ) → pos 0 ≤ℤ d → toward_zero (neg_ℤ v) d ≡ neg_ℤ (toward_zero v d)
toward_zero-turned v d h =
    by_lt_z d v
    (λ above.
    let a : toward_zero v d ≡ v -ℤ d = toward_zero-above v d above in
    let b : toward_zero (neg_ℤ v) d ≡ neg_ℤ v +ℤ d = toward_zero-below (neg_ℤ v) d (omega (arith, ints)) (omega (arith, ints)) in
    omega (arith, ints))
    (λ under. by_lt_z v (neg_ℤ d)
    (λ below.
    let a : toward_zero v d ≡ v +ℤ d = toward_zero-below v d under below in
    let b : toward_zero (neg_ℤ v) d ≡ neg_ℤ v -ℤ d = toward_zero-above (neg_ℤ v) d (omega (arith, ints)) in
    omega (arith, ints))
    (λ above.
    let a : toward_zero v d ≡ pos 0 = toward_zero-near v d under above in
    let b : toward_zero (neg_ℤ v) d ≡ pos 0 = toward_zero-near (neg_ℤ v) d (omega (arith, ints)) (omega (arith, ints)) in
    omega (arith, ints)))
