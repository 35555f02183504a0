-- Sums of ramps: what a proof on whole numbers needs of them.
-- for: greatest_ramp, greatest_ramp_below, ramp_sum and others
use Rattle.std.proofs.Common.{◌≡◌, ℕ, ◌+◌, ◌-◌, ◌*◌, ◌/◌, ◌%◌, ◌<◌, ◌≤◌, zero, suc, ℤ, pos, negsuc, refl, sym, ◌∙◌, ap, arith}
use Rattle.std.proofs.Math.Nat.{le_of_mul-le-mul_left}
use Rattle.std.proofs.lemmas.Nat.{div-add-mod'}
use Rattle.motion_numbers.specs.Run.{ramp, run_of, cut_at_zero}
use borrow.Author.Differences.{up, down}

-- what `omega` reads of a number cut at zero
pub cut_is : (z : ℤ) → cut_at_zero z ≡ up z - down z
unfolding cut_at_zero
cut_is (pos n) = omega arith
cut_is (negsuc n) = omega arith

-- terms that are zero add up to zero
pub ramp_zero : (n d : ℕ) → ramp n 0 d ≡ 0
ramp_zero zero d = refl
ramp_zero (suc n) d = let none : 0 - d ≡ 0 = omega arith in rw none (omega (arith, ramp_zero n d))

-- once they are enough, more terms add nothing
pub ramp_same : (n m u d : ℕ) → 0 < d → u ≤ n → u ≤ m → ramp n u d ≡ ramp m u d
ramp_same zero m u d some low high = let none : u ≡ 0 = omega arith in rw none (sym (ramp_zero m d))
ramp_same (suc n) zero u d some low high = let none : u ≡ 0 = omega arith in rw none (ramp_zero (suc n) d)
ramp_same (suc n) (suc m) u d some low high = let rest : ramp n (u - d) d ≡ ramp m (u - d) d = ramp_same n m (u - d) d some (omega arith) (omega arith) in omega (arith, rest)

-- a greater first term gives no smaller sum
pub ramp_mono : (n u t d : ℕ) → u ≤ t → ramp n u d ≤ ramp n t d
ramp_mono zero u t d h = omega arith
ramp_mono (suc n) u t d h = let rest : ramp n (u - d) d ≤ ramp n (t - d) d = ramp_mono n (u - d) (t - d) d (omega arith) in omega (arith, rest)

-- a greater fall gives no greater sum
pub ramp_anti : (n u d e : ℕ) → d ≤ e → ramp n u e ≤ ramp n u d
ramp_anti zero u d e h = omega arith
ramp_anti (suc n) u d e h =
    let fewer : ramp n (u - e) e ≤ ramp n (u - e) d = ramp_anti n (u - e) d e h in
    let less : ramp n (u - e) d ≤ ramp n (u - d) d = ramp_mono n (u - e) (u - d) d (omega arith) in
    omega (arith, fewer, less)

-- no way from rest
pub run_zero : (d : ℕ) → run_of 0 d ≡ 0
unfolding run_of
run_zero d = refl

-- the first term, and the sum of the others
pub run_unfold : (u d : ℕ) → 0 < d → run_of u d ≡ u + run_of (u - d) d
unfolding run_of
run_unfold zero d some = let none : 0 - d ≡ 0 = omega arith in rw none (omega arith)
run_unfold (suc u) d some = ap (λ n. suc u + n) (ramp_same u (suc u - d) (suc u - d) d some (omega arith) (omega arith))

-- the way is no shorter than the first step
pub run_ge : (u d : ℕ) → 0 < d → u ≤ run_of u d
run_ge u d some = omega (arith, run_unfold u d some)

-- a step of at most d is the only one
pub run_small : (u d : ℕ) → 0 < d → u ≤ d → run_of u d ≡ u
run_small u d some h =
    let last : u - d ≡ 0 = omega arith in
    run_unfold u d some ∙ rw (last, run_zero d) (omega arith)

-- from a greater step the way is no shorter
pub run_mono : (u t d : ℕ) → 0 < d → u ≤ t → run_of u d ≤ run_of t d
unfolding run_of
run_mono u t d some h = rw (ramp_same u t u d some (omega arith) h) (ramp_mono t u t d h)

-- from a greater step it is longer
pub run_less : (u t d : ℕ) → 0 < d → u < t → run_of u d < run_of t d
run_less u t d some h = omega (arith, run_unfold u d some, run_unfold t d some, run_mono (u - d) (t - d) d some (omega arith))

-- harder braking makes it no longer
pub run_anti : (u d e : ℕ) → d ≤ e → run_of u e ≤ run_of u d
unfolding run_of
run_anti u d e h = ramp_anti u u d e h

-- a whole number of falls and a rest: the terms lie evenly between the first and the last
pub run_terms : (k r d : ℕ) → r < d → 2 * run_of (k * d + r) d ≡ (k + 1) * (k * d + 2 * r)
run_terms zero r d h =
    let first : zero * d + r ≡ r = omega arith in
    rw (first, run_small r d (omega arith) (omega arith)) (omega arith)
run_terms (suc k) r d h =
    let rest : suc k * d + r - d ≡ k * d + r = omega arith in
    let below : 2 * run_of (k * d + r) d ≡ (k + 1) * (k * d + 2 * r) = run_terms k r d h in
    rw (run_unfold (suc k * d + r) d (omega arith), rest) (omega (arith, below))

-- twice the way, in closed form
pub run_twice : (u d : ℕ) → 0 < d → 2 * run_of u d ≡ (u / d + 1) * (u / d * d + 2 * (u % d))
run_twice u d some =
    let terms : 2 * run_of (u / d * d + u % d) d ≡ (u / d + 1) * (u / d * d + 2 * (u % d)) = run_terms (u / d) (u % d) d (omega arith) in
    rw (div-add-mod' u d) at terms

-- the number of the terms times the first and the last of them, halved
pub run_half : (u d : ℕ) → 0 < d → (u / d + 1) * (u + u % d) / 2 ≡ run_of u d
run_half u d some =
    let first : u / d * d + 2 * (u % d) ≡ u + u % d = omega (arith, div-add-mod' u d) in
    let twice : 2 * run_of u d ≡ (u / d + 1) * (u + u % d) = rw first at (run_twice u d some) in
    omega (arith, twice)

-- twice the fall times the way is at most the square of the step and the fall together
square : (k r d : ℕ) → r < d → 2 * d * run_of (k * d + r) d ≤ (k * d + r + d) * (k * d + r + d)
square k r d h =
    let way : d * (2 * run_of (k * d + r) d) ≡ d * ((k + 1) * (k * d + 2 * r)) = ap (λ n. d * n) (run_terms k r d h) in
    omega (arith, way)

run_square : (u d : ℕ) → 0 < d → 2 * d * run_of u d ≤ (u + d) * (u + d)
run_square u d some = rw (div-add-mod' u d) at (square (u / d) (u % d) d (omega arith))

-- so that the way fits a room that is long enough for that
pub run_fits : (u d room : ℕ) → 0 < d → (u + d) * (u + d) ≤ 2 * d * room → run_of u d ≤ room
run_fits u d room some enough =
    le_of_mul-le-mul_left {k = 2 * d} (omega (arith, enough, run_square u d some)) (omega arith)
