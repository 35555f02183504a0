-- Triangles and tetrahedra in closed form, and how they grow.
-- for: greatest_fall_of, is_ramp, landing_sum and others
use Rattle.std.proofs.Common.{inl, inr, ◌≡◌, ℕ, ◌+◌, ◌-◌, ◌*◌, ◌/◌, ◌<◌, ◌≤◌, zero, suc, arith, refl, ap}
use Rattle.std.proofs.lemmas.Bool.{cases_lt}
use Rattle.std.proofs.lemmas.Nat.{mul-le}
use Rattle.motion_numbers.specs.Run.{run_of}
use Rattle.motion_numbers.proofs.Runs.{run_unfold, run_small}
use Rattle.jerk_core.specs.Sums.{triangle_of, tetrahedron_of}

-- one more term
pub triangle_next : (n : ℕ) → triangle_of (suc n) ≡ suc n + triangle_of n
unfolding triangle_of
triangle_next n = refl

pub tetrahedron_next : (n : ℕ) → tetrahedron_of (suc n) ≡ triangle_of n + tetrahedron_of n
unfolding tetrahedron_of
tetrahedron_next n = refl

-- none
pub triangle_none : triangle_of 0 ≡ 0
unfolding triangle_of
triangle_none = refl

pub tetrahedron_none : tetrahedron_of 0 ≡ 0
unfolding tetrahedron_of
tetrahedron_none = refl

pub triangle_nothing : (a : ℕ) → a * triangle_of 0 ≡ 0
triangle_nothing a = rw triangle_none (omega arith)

pub tetrahedron_nothing : (a : ℕ) → a * tetrahedron_of 0 ≡ 0
tetrahedron_nothing a = rw tetrahedron_none (omega arith)

-- and times a number
pub triangle_times : (a n : ℕ) → a * triangle_of (suc n) ≡ a * suc n + a * triangle_of n
triangle_times a n = rw (triangle_next n) (omega arith)

pub tetrahedron_times : (a n : ℕ) → a * tetrahedron_of (suc n) ≡ a * triangle_of n + a * tetrahedron_of n
tetrahedron_times a n = rw (tetrahedron_next n) (omega arith)

-- twice a triangle
pub triangle_twice : (n : ℕ) → 2 * triangle_of n ≡ n * (n + 1)
triangle_twice zero = omega (arith, triangle_none)
triangle_twice (suc n) = omega (arith, triangle_next n, triangle_twice n)

-- six times a tetrahedron
pub tetrahedron_six : (n : ℕ) → 6 * tetrahedron_of n + n ≡ n * n * n
tetrahedron_six zero = omega (arith, tetrahedron_none)
tetrahedron_six (suc n) = omega (arith, tetrahedron_next n, tetrahedron_six n, triangle_twice n)

-- in closed form
pub triangle_half : (n : ℕ) → n * (n + 1) / 2 ≡ triangle_of n
triangle_half n = omega (arith, triangle_twice n)

pub tetrahedron_sixth : (n : ℕ) → n * (n * n - 1) / 6 ≡ tetrahedron_of n
tetrahedron_sixth zero = omega (arith, tetrahedron_none)
tetrahedron_sixth (suc n) =
    let below : suc n * suc n - 1 ≡ n * n + 2 * n = omega arith in
    rw below (omega (arith, tetrahedron_six (suc n)))

-- a triangle is no less than its side
pub triangle_least : (n : ℕ) → n ≤ triangle_of n
triangle_least zero = omega arith
triangle_least (suc n) = omega (arith, triangle_next n)

-- of a greater side it is no less
pub triangle_mono : (n m : ℕ) → n ≤ m → triangle_of n ≤ triangle_of m
triangle_mono n m h = let more : n * (n + 1) ≤ m * (m + 1) = mul-le n (n + 1) m (m + 1) h (omega arith) in omega (arith, triangle_twice n, triangle_twice m)

-- a tetrahedron is at most its side times its triangle
pub tetrahedron_most : (n : ℕ) → tetrahedron_of n ≤ n * triangle_of n
tetrahedron_most zero = omega (arith, tetrahedron_none)
tetrahedron_most (suc n) =
    let less : n * triangle_of n ≤ n * triangle_of (suc n) = mul-le n (triangle_of n) n (triangle_of (suc n)) (omega arith) (omega (arith, triangle_next n)) in
    omega (arith, tetrahedron_next n, triangle_next n, tetrahedron_most n)

-- the way from a step of whole falls and a rest
pub run_whole : (q r j : ℕ) → 0 < j → r ≤ j → run_of (q * j + r) j ≡ suc q * r + j * triangle_of q
run_whole zero r j some h =
    let first : zero * j + r ≡ r = omega arith in
    rw first (omega (arith, run_small r j some h, triangle_nothing j))
run_whole (suc q) r j some h =
    let rest : suc q * j + r - j ≡ q * j + r = omega arith in
    let below : run_of (q * j + r) j ≡ suc q * r + j * triangle_of q = run_whole q r j some h in
    rw (run_unfold (suc q * j + r) j some, rest) (omega (arith, below, triangle_times j q))

-- a third of a triangle times the side before
pub tetrahedron_third : (n t k : ℕ) → t ≡ triangle_of n → k ≡ n - 1 → t * k / 3 ≡ tetrahedron_of n
tetrahedron_third zero t k is before =
    let none : k ≡ 0 = omega arith in rw none (omega (arith, tetrahedron_none))
tetrahedron_third (suc n) t k is before =
    let last : k ≡ n = omega arith in
    let twice : 2 * t ≡ suc n * (suc n + 1) = omega (arith, triangle_twice (suc n)) in
    let times : (2 * t) * n ≡ (suc n * (suc n + 1)) * n = ap (λ a. a * n) twice in
    let whole : t * n ≡ 3 * tetrahedron_of (suc n) = omega (arith, tetrahedron_six (suc n)) in
    rw last (rw whole (omega arith))

-- as many as there are, each at least 1, are at most their sum
pub few : (n j m : ℕ) → 1 ≤ j → n * j ≤ m → n ≤ m
few n j m some h = let one : n * 1 ≤ n * j = mul-le n 1 n j (omega arith) some in omega arith

-- j times a triangle of few terms
pub triangle_span : (n j m : ℕ) → n * j ≤ m → 2 * (j * triangle_of n) ≤ m * (n + 1)
triangle_span n j m h =
    let whole : (n * j) * (n + 1) ≤ m * (n + 1) = mul-le (n * j) (n + 1) m (n + 1) h (omega arith) in
    let twice : j * (2 * triangle_of n) ≡ j * (n * (n + 1)) = ap (λ a. j * a) (triangle_twice n) in
    omega arith

-- falls by d that fit a speed fit as many times that speed
pub triangle_falls : (n d v : ℕ) → 1 ≤ n → n * d ≤ v → d * triangle_of n ≤ n * v
triangle_falls n d v some h =
    let span : 2 * (d * triangle_of n) ≤ v * (n + 1) = triangle_span n d v h in
    let one : 1 * v ≤ n * v = mul-le 1 v n v some (omega arith) in
    omega arith

-- the sides of a triangle that fits j times
pub side_most : (n j m : ℕ) → 1 ≤ j → j * triangle_of n ≤ m → n ≤ m
side_most n j m some h =
    let one : 1 * triangle_of n ≤ j * triangle_of n = mul-le 1 (triangle_of n) j (triangle_of n) some (omega arith) in
    omega (arith, triangle_least n)

-- j times a triangle, by the falls
pub triangle_product : (n j : ℕ) → n * j * (n + 1) / 2 ≡ j * triangle_of n
triangle_product n j =
    let twice : j * (2 * triangle_of n) ≡ j * (n * (n + 1)) = ap (λ a. j * a) (triangle_twice n) in
    let whole : n * j * (n + 1) ≡ 2 * (j * triangle_of n) = omega arith in
    rw whole (omega arith)

-- a triangle within the greatest step has few terms
pub few_terms : (n : ℕ) → triangle_of n ≤ 10000000000 → n ≤ 150000
few_terms n h =
    elim (cases_lt 150000 n) [
      | inr few ↦ few
      | inl more ↦ absurd (omega (arith, triangle_mono 150001 n (omega arith), triangle_twice 150001))
    ]

-- and so has j times one
pub few_times : (n j : ℕ) → 1 ≤ j → j * triangle_of n ≤ 10000000000 → n ≤ 150000
few_times n j some h =
    few_terms n (let one : 1 * triangle_of n ≤ j * triangle_of n = mul-le 1 (triangle_of n) j (triangle_of n) some (omega arith) in omega arith)

-- a triangle of few terms is small
pub triangle_few : (n : ℕ) → n ≤ 500000 → triangle_of n ≤ 200000000000
triangle_few n h = omega (arith, triangle_mono n 500000 h, triangle_twice 500000)

-- and so is it times the side before
pub tetrahedron_few : (n t k : ℕ) → n ≤ 500000 → t ≡ triangle_of n → k ≡ n - 1 → t * k ≤ 100000000000000000
tetrahedron_few n t k h is before = mul-le t k 200000000000 500000 (omega (arith, triangle_few n h)) (omega arith)

-- the parts of a landing's way are small
pub landing_even_small : (j q r : ℕ) → q ≤ 150000 → r * suc q ≤ 10000000000 → j * triangle_of q ≤ 10000000000 →
    r * triangle_of q + j * tetrahedron_of q ≤ 3000000000000000
landing_even_small j q r few_q rest whole =
    let first : (r * suc q) * q ≤ 10000000000 * 150000 = mul-le (r * suc q) q 10000000000 150000 rest few_q in
    let second : q * (j * triangle_of q) ≤ 150000 * 10000000000 = mul-le q (j * triangle_of q) 150000 10000000000 few_q whole in
    let third : j * tetrahedron_of q ≤ j * (q * triangle_of q) = mul-le j (tetrahedron_of q) j (q * triangle_of q) (omega arith) (tetrahedron_most q) in
    let twice : r * (2 * triangle_of q) ≡ r * (q * (q + 1)) = ap (λ a. r * a) (triangle_twice q) in
    omega arith

pub landing_over_small : (q e : ℕ) → q ≤ 150000 → e ≤ q → e * (q - e) ≤ 22500000000
landing_over_small q e few_q within = mul-le e (q - e) 150000 150000 (omega arith) (omega arith)

-- twice the sum of a ramp's speeds, by its sides
pub tetrahedron_sides : (n : ℕ) → suc n * triangle_of n ≡ 2 * tetrahedron_of (suc n) + tetrahedron_of n
tetrahedron_sides n =
    let twice : n * (2 * triangle_of n) ≡ n * (n * (n + 1)) = ap (λ a. n * a) (triangle_twice n) in
    omega (arith, twice, triangle_twice n, tetrahedron_six n, tetrahedron_next n)
