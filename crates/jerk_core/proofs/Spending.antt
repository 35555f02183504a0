-- What a motion may still take in cycles until it rests, counted in the parts of a cycle: 2 d i parts
-- are one cycle. Rising by a, it has at most the greatest speed to lose, and its change to turn to a
-- fall by d; falling by u, its own speed.
-- for: crates above
use Rattle.std.proofs.Common.{inl, inr, ◌≡◌, ℕ, ◌+◌, ◌-◌, ◌*◌, ◌<◌, ◌≤◌, zero, suc, arith, ap}
use Rattle.std.proofs.lemmas.Bool.{cases_lt}
use Rattle.std.proofs.lemmas.Nat.{mul-le}
use Rattle.std.proofs.Math.Nat.{le_of_mul-le-mul_left}

-- a motion that rises by a is within n cycles
abbrev pub IsUpWithin : ℕ → ℕ → ℕ → ℕ → ℕ → Type 0
IsUpWithin n most d i a = 2 * i * most + 2 * d * (d + a) ≤ 2 * d * i * n

-- a motion of speed v that falls by u is within n cycles
abbrev pub IsDownWithin : ℕ → ℕ → ℕ → ℕ → ℕ → Type 0
IsDownWithin n d i v u = 2 * i * v + 2 * d * d + u * u + u * i ≤ 2 * d * i * n + 2 * d * u

-- and one that falls by d or lands
abbrev pub IsFlatWithin : ℕ → ℕ → ℕ → ℕ → Type 0
IsFlatWithin n d i v = 2 * i * v + d * d ≤ 2 * d * i * n

-- a cycle that rises by i less takes one
pub up_up : (n most d i a c : ℕ) → c + i ≤ a → IsUpWithin (suc n) most d i a → IsUpWithin n most d i c
up_up n most d i a c less within = let lost : d * (c + i) ≤ d * a = mul-le d (c + i) d a (omega arith) less in omega arith

-- and so does one that falls
pub up_down : (n most d i a x y : ℕ) → x + y ≤ most → i ≤ y + a → y ≤ suc i → y ≤ d → IsUpWithin (suc n) most d i a → IsDownWithin n d i x y
up_down n most d i a x y slow bends near falls within =
    let speed : i * (x + y) ≤ i * most = mul-le i (x + y) i most (omega arith) slow in
    elim (cases_lt i y) [
      | inr small ↦
          let square : y * y ≤ i * y = mul-le y y i y small (omega arith) in
          let turned : d * i ≤ d * (y + a) = mul-le d i d (y + a) (omega arith) bends in
          omega arith
      | inl large ↦
          let square : y * y ≤ suc i * y = mul-le y y (suc i) y near (omega arith) in
          let turned : d * suc i ≤ d * (y + a) = mul-le d (suc i) d (y + a) (omega arith) (omega arith) in
          omega arith
    ]

-- a fall that is slower takes no more than it had
pub up_falls : (n most d i a x y : ℕ) → x + y ≤ most → y ≤ d → IsUpWithin n most d i a → IsDownWithin n d i x y
up_falls n most d i a x y slow falls within =
    let speed : i * (x + y) ≤ i * most = mul-le i (x + y) i most (omega arith) slow in
    let square : y * y ≤ d * y = mul-le y y d y falls (omega arith) in
    omega arith

-- nor does a fall from no more than the greatest speed
pub down_start : (n most d i a v u : ℕ) → v ≤ most → u ≤ d → i ≤ d → IsUpWithin n most d i a → IsDownWithin n d i v u
down_start n most d i a v u slow falls less within =
    let speed : i * v ≤ i * most = mul-le i v i most (omega arith) slow in
    let square : u * u ≤ d * u = mul-le u u d u falls (omega arith) in
    let change : u * i ≤ u * d = mul-le u i u d (omega arith) less in
    omega arith

-- a fall greater by i takes one cycle
pub down_down : (n d i v u x : ℕ) → x + (u + i) ≡ v → IsDownWithin (suc n) d i v u → IsDownWithin n d i x (u + i)
down_down n d i v u x is within = let same : i * (x + (u + i)) ≡ i * v = ap (λ s. i * s) is in omega arith

-- and so does one greater by i and 1
pub down_more : (n d i v u x : ℕ) → x + (u + suc i) ≡ v → u + suc i ≤ d → IsDownWithin (suc n) d i v u → IsDownWithin n d i x (u + suc i)
down_more n d i v u x is falls within = let same : i * (x + (u + suc i)) ≡ i * v = ap (λ s. i * s) is in omega arith

-- so does a fall greater by j, where i is j or 1 less
pub lower : (n d i j v u x : ℕ) → i ≤ j → j ≤ suc i → x + (u + j) ≡ v → u + j ≤ d → IsDownWithin (suc n) d i v u → IsDownWithin n d i x (u + j)
lower n d i j v u x less near is falls within =
    elim (cases_lt i j) [
      | inl more ↦ let same : u + suc i ≡ u + j = omega arith in rw same at (down_more n d i v u x (omega arith) (omega arith) within)
      | inr even ↦ let same : u + i ≡ u + j = omega arith in rw same at (down_down n d i v u x (omega arith) within)
    ]

-- from no more than the greatest rates
pub up_start : (n most d i a c : ℕ) → a ≤ c → IsUpWithin n most d i c → IsUpWithin n most d i a
up_start n most d i a c less within = let lost : d * a ≤ d * c = mul-le d a d c (omega arith) less in omega arith

-- what is left once it falls by d
pub down_flat : (n d i v u : ℕ) → u ≤ d → IsDownWithin n d i v u → IsFlatWithin n d i v
down_flat n d i v u falls within = by_gap (d - u) (omega arith)
  where
    by_gap : (r : ℕ) → u + r ≡ d → 2 * i * v + d * d ≤ 2 * d * i * n
    by_gap r is =
        let one : u * (u + r) ≡ u * d = ap (λ s. u * s) is in
        let two : r * (u + r) ≡ r * d = ap (λ s. r * s) is in
        let three : d * (u + r) ≡ d * d = ap (λ s. d * s) is in
        omega arith

pub up_flat : (n most d i v a : ℕ) → v ≤ most → IsUpWithin n most d i a → IsFlatWithin n d i v
up_flat n most d i v a slow within = let speed : i * v ≤ i * most = mul-le i v i most (omega arith) slow in omega arith

-- a fall by d takes a cycle
pub flat_flat : (n d i v x : ℕ) → x + d ≡ v → IsFlatWithin (suc n) d i v → IsFlatWithin n d i x
flat_flat n d i v x is within = let same : i * (x + d) ≡ i * v = ap (λ s. i * s) is in omega arith

-- and the landing by u one for each j of u
pub flat_lands : (n d i j v u : ℕ) → 0 < d → 0 < i → i ≤ j → u * (u + j) ≤ 2 * j * v → IsFlatWithin n d i v → u ≤ n * j
flat_lands n d i j v u slows some less lands within =
    le_of_mul-le-mul_left {k = 2 * (d * i)} enough positive
  where
    positive : 0 < 2 * (d * i)
    positive = let one : 1 * 1 ≤ d * i = mul-le 1 1 d i slows some in omega arith

    between : 2 * (d * u) ≤ u * u + d * d
    between = elim (cases_lt d u) [
      | inl above ↦ by_gap_up (u - d) (omega arith)
      | inr below ↦ by_gap_down (d - u) (omega arith)
    ]
      where
        by_gap_up : (r : ℕ) → d + r ≡ u → 2 * (d * u) ≤ u * u + d * d
        by_gap_up r is = rw (← is) (omega arith)

        by_gap_down : (r : ℕ) → u + r ≡ d → 2 * (d * u) ≤ u * u + d * d
        by_gap_down r is = rw (← is) (omega arith)

    enough : 2 * (d * i) * u ≤ 2 * (d * i) * (n * j)
    enough =
        let one : i * (u * (u + j)) ≤ i * (2 * j * v) = mul-le i (u * (u + j)) i (2 * j * v) (omega arith) lands in
        let two : j * (2 * i * v + d * d) ≤ j * (2 * d * i * n) = mul-le j (2 * i * v + d * d) j (2 * d * i * n) (omega arith) within in
        let three : i * (2 * (d * u)) ≤ i * (u * u + d * d) = mul-le i (2 * (d * u)) i (u * u + d * d) (omega arith) between in
        let four : i * (d * d) ≤ j * (d * d) = mul-le i (d * d) j (d * d) less (omega arith) in
        omega arith

-- what moves takes some cycle
pub up_some : (most d i a : ℕ) → 0 < d → IsUpWithin 0 most d i a → ⊥
up_some most d i a slows within = let one : 1 * 1 ≤ d * d = mul-le 1 1 d d slows slows in omega arith

pub down_some : (d i v u : ℕ) → 0 < d → u ≤ d → IsDownWithin 0 d i v u → ⊥
down_some d i v u slows falls within =
    let one : 1 * 1 ≤ d * d = mul-le 1 1 d d slows slows in
    let two : d * u ≤ d * d = mul-le d u d d (omega arith) falls in
    by_zero u falls within one
  where
    by_zero : (u : ℕ) → u ≤ d → IsDownWithin 0 d i v u → 1 ≤ d * d → ⊥
    by_zero u falls within one =
        let two : d * u ≤ d * d = mul-le d u d d (omega arith) falls in
        elim (cases_lt 0 u) [
          | inl some ↦ let three : 1 * 1 ≤ u * u = mul-le 1 1 u u some some in omega arith
          | inr none ↦ let is : u ≡ 0 = omega arith in
              let product : d * u ≡ 0 = rw is (omega arith) in omega arith
        ]

pub flat_some : (d i v : ℕ) → 0 < d → IsFlatWithin 0 d i v → ⊥
flat_some d i v slows within = let one : 1 * 1 ≤ d * d = mul-le 1 1 d d slows slows in omega arith

-- with a change greater by 1, one cycle more
pub up_next : (n most d i a : ℕ) → 0 < i → IsUpWithin n most d i a → IsUpWithin (suc n) most d i (suc a)
up_next n most d i a some within = let one : d * 1 ≤ d * i = mul-le d 1 d i (omega arith) some in omega arith

pub down_next : (n d i v u : ℕ) → 0 < d → 0 < i → IsDownWithin n d i v (suc u) → IsDownWithin (suc n) d i (suc v) u
down_next n d i v u slows some within = let least : d + i ≤ d * i + 1 = product d i slows some in omega arith
  where
    product : (d i : ℕ) → 0 < d → 0 < i → d + i ≤ d * i + 1
    product zero i slows some = absurd (omega arith)
    product (suc d) zero slows some = absurd (omega arith)
    product (suc d) (suc i) slows some = omega arith

-- the greatest rates count the cycles: k of i have the changes, n of d the speed
pub up_rates : (k n most d i a : ℕ) → a + d ≤ k * i → most ≤ n * d → IsUpWithin (k + n) most d i a
up_rates k n most d i a ramp flat =
    let one : d * (a + d) ≤ d * (k * i) = mul-le d (a + d) d (k * i) (omega arith) ramp in
    let two : i * most ≤ i * (n * d) = mul-le i most i (n * d) (omega arith) flat in
    omega arith
