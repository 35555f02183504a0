-- Newton's steps to a root: where they begin, and that they never go below it.
-- for: root
use Rattle.std.proofs.Common.{inl, inr, ◌≡◌, ℕ, ◌+◌, ◌-◌, ◌*◌, ◌/◌, ◌%◌, ◌^◌, ◌<◌, ◌≤◌, arith, lit<}
use Rattle.std.proofs.lemmas.Nat.{pow-add, pow_pos, one_shl, div-add-mod', mod_below, mul-le}
use Rattle.std.proofs.Math.Nat.{pow-le-pow_right}
use Rattle.std.proofs.lemmas.Bool.{cases_lt}

-- a power of two that fits has a small exponent
pub exponent-below : (n g : ℕ) → 2 ^ g ≤ n → n < 2 ^ 120 → g < 120
exponent-below n g under short =
    elim (cases_lt g 120) [
      | inl below ↦ below
      | inr above ↦ let more : 2 ^ 120 ≤ 2 ^ g = pow-le-pow_right (lit< tt) above in omega arith
    ]

-- a number from which the steps may begin
pub record IsStart (n start : ℕ) : Type 0 where
  pub some : 0 < start
  pub size : start ≤ 2 ^ 60
  pub not_below : n < (start + 1) * (start + 1)

pub first-start : (n g : ℕ) → 2 ^ g ≤ n → n < 2 * 2 ^ g → n < 2 ^ 120 → IsStart n (1 * 2 ^ (g / 2 + 1) % 2 ^ 64)
first-start n g under over short =
    let below : g < 120 = exponent-below n g under short in
    let whole : 1 * 2 ^ (g / 2 + 1) % 2 ^ 64 ≡ 2 ^ (g / 2 + 1) = one_shl (g / 2 + 1) 64 (omega arith) in
    let twice : 2 ^ (g / 2 + 1 + (g / 2 + 1)) ≡ 2 ^ (g / 2 + 1) * 2 ^ (g / 2 + 1) = pow-add 2 (g / 2 + 1) (g / 2 + 1) in
    let more : 2 ^ (1 + g) ≤ 2 ^ (g / 2 + 1 + (g / 2 + 1)) = pow-le-pow_right (lit< tt) (omega arith) in
    let next : 2 ^ (1 + g) ≡ 2 ^ 1 * 2 ^ g = pow-add 2 1 g in
    let within : g / 2 + 1 ≤ 60 = omega arith in
    let small : 2 ^ (g / 2 + 1) ≤ 2 ^ 60 = pow-le-pow_right (lit< tt) within in
    rw whole (record {
      some = pow_pos (g / 2 + 1);
      size = small;
      not_below = omega arith;
    })

-- four times a product is at most the square of the sum
mean : (a b : ℕ) → 4 * (a * b) ≤ (a + b) * (a + b)
mean a b = elim (cases_lt a b) [
  | inl less ↦ ordered a b (omega arith)
  | inr more ↦ let turned : 4 * (b * a) ≤ (b + a) * (b + a) = ordered b a more in omega arith
]
  where
    ordered : (a b : ℕ) → a ≤ b → 4 * (a * b) ≤ (a + b) * (a + b)
    ordered a b h = spread a (b - a) b (omega arith)
      where
        spread : (a d b : ℕ) → b ≡ a + d → 4 * (a * b) ≤ (a + b) * (a + b)
        spread a d b is = rw is (omega arith)

-- the mean isn't below the root
pub mean-not_below : (n x : ℕ) → 0 < x → n < ((x + n / x) / 2 + 1) * ((x + n / x) / 2 + 1)
mean-not_below n x some =
    let parts : n / x * x + n % x ≡ n = div-add-mod' n x in
    let below : n % x < x = mod_below n x some in
    let product : 4 * (x * (n / x + 1)) ≤ (x + (n / x + 1)) * (x + (n / x + 1)) = mean x (n / x + 1) in
    let half : x + (n / x + 1) ≤ 2 * ((x + n / x) / 2 + 1) = omega arith in
    let squares : (x + (n / x + 1)) * (x + (n / x + 1)) ≤ 2 * ((x + n / x) / 2 + 1) * (2 * ((x + n / x) / 2 + 1)) =
    mul-le (x + (n / x + 1)) (x + (n / x + 1)) (2 * ((x + n / x) / 2 + 1)) (2 * ((x + n / x) / 2 + 1)) half half in
    finished n (n / x) x (n % x) ((x + n / x) / 2 + 1) parts below (omega arith)
  where
    finished : (n q x r y : ℕ) → q * x + r ≡ n → r < x → 4 * (x * (q + 1)) ≤ 2 * y * (2 * y) → n < y * y
    finished n q x r y parts below product = omega arith
