-- The falls fit the speed, and half of the first and the last speed is their mean.
use Rattle.std.proofs.Common.{◌≡◌, ℕ, ◌+◌, ◌-◌, ◌*◌, ◌/◌, ◌≤◌, arith, ap}
use Rattle.std.proofs.lemmas.Nat.{mul-le}
use Rattle.jerk_core.specs.Sums.{triangle_of}
use Rattle.jerk_core.proofs.Triangles.{triangle_falls, triangle_twice}
use Rattle.jerk_core.proofs.rest.way_of_flat.Goals as goal

-- one fall fits too
one_fits : (n d v : ℕ) → 1 ≤ n → n * d ≤ v → n * d + d ≤ 2 * v
one_fits n d v some h = let one : 1 * d ≤ n * d = mul-le 1 d n d some (omega arith) in omega arith

-- the sum of the speeds
sum_is : (n d v : ℕ) → 1 ≤ n → n * d ≤ v → n * (2 * v - (n * d + d)) / 2 + d * triangle_of n ≡ n * v
sum_is n d v some h = by_mean (2 * v - (n * d + d)) (n * v - d * triangle_of n) (omega (arith, one_fits n d v some h)) (omega (arith, triangle_falls n d v some h))
  where
    by_mean : (x y : ℕ) → x + (n * d + d) ≡ 2 * v → y + d * triangle_of n ≡ n * v → n * x / 2 + d * triangle_of n ≡ n * v
    by_mean x y is sum =
        let times : n * (x + (n * d + d)) ≡ n * (2 * v) = ap (λ a. n * a) is in
        let twice : d * (2 * triangle_of n) ≡ d * (n * (n + 1)) = ap (λ a. d * a) (triangle_twice n) in
        let whole : n * x ≡ 2 * y = omega arith in
        rw whole (omega arith)

pub overflow_sub-result : goal.overflow_sub-result
overflow_sub-result c = omega (arith, one_fits c.args.n c.args.d c.args.speed c.requires.some c.requires.falls)

pub returns-clause-value : goal.returns-clause-value
returns-clause-value c = sum_is c.args.n c.args.d c.args.speed c.requires.some c.requires.falls
