-- Sums of a ramp's first terms, and their squares.
-- for: greatest_count_counted
use Rattle.std.proofs.Common.{inl, inr, ◌≡◌, ℕ, zero, suc, ◌+◌, ◌-◌, ◌*◌, ◌/◌, ◌%◌, ◌^◌, ◌<◌, ◌≤◌, ◌↔◌, IsTrue, nat_le, arith, ap, refl, sym, ◌∙◌}
use Rattle.std.proofs.lemmas.Nat.{mul-le, le-div, div-add-mod'}
use Rattle.std.proofs.lemmas.Bool.Decides.{nat_tests}
use Rattle.ramp_root.specs.Sums.{sum_of}
use Rattle.std.proofs.lemmas.Bool.{cases_lt}

-- twice the sum, without a difference
pub sum_of-twice : (k d r : ℕ) → 2 * sum_of k d r + d * k ≡ d * k * k + 2 * r * k
unfolding sum_of
sum_of-twice zero d r = omega arith
sum_of-twice (suc k) d r =
    let before : 2 * sum_of k d r + d * k ≡ d * k * k + 2 * r * k = sum_of-twice k d r in omega arith

-- the sum in closed form, with half of the pairs
pub sum_of-closed : (k d r : ℕ) → sum_of k d r ≡ d * k * (k - 1) / 2 + r * k
sum_of-closed zero d r = omega (arith, sum_of-twice zero d r)
sum_of-closed (suc k) d r =
    let less : suc k - 1 ≡ k = omega arith in
    let twice : 2 * sum_of (suc k) d r + d * suc k ≡ d * suc k * suc k + 2 * r * suc k =
    sum_of-twice (suc k) d r in
    rw less (omega arith)

-- completing the square, where the double first term is the rise and an offset
pub square-above : (k d r m o : ℕ) → 2 * r ≡ o + d → m + d ≡ 2 * d * k + 2 * r →
    m * m ≡ 8 * (d * sum_of k d r) + o * o
square-above k d r m o first is =
    let whole : m ≡ 2 * d * k + o = omega arith in
    let twice : 2 * sum_of k d r + d * k ≡ d * k * k + 2 * r * k = sum_of-twice k d r in
    let more : (2 * r) * k ≡ (o + d) * k = ap (λ n. n * k) first in
    let sum : 2 * sum_of k d r ≡ d * k * k + o * k = omega arith in
    let times : (4 * d) * (2 * sum_of k d r) ≡ (4 * d) * (d * k * k + o * k) = ap (λ n. (4 * d) * n) sum in
    let squared : m * m ≡ (2 * d * k + o) * (2 * d * k + o) = ap (λ n. n * n) whole in
    omega arith

-- the same, where the rise is the double first term and an offset
pub square-below : (k d r m o : ℕ) → d ≡ o + 2 * r → m + d ≡ 2 * d * k + 2 * r →
    m * m ≡ 8 * (d * sum_of k d r) + o * o
square-below k d r m o first is =
    let whole : m + o ≡ 2 * d * k = omega arith in
    let twice : 2 * sum_of k d r + d * k ≡ d * k * k + 2 * r * k = sum_of-twice k d r in
    let more : d * k ≡ (o + 2 * r) * k = ap (λ n. n * k) first in
    let sum : 2 * sum_of k d r + o * k ≡ d * k * k = omega arith in
    let times : (4 * d) * (2 * sum_of k d r + o * k) ≡ (4 * d) * (d * k * k) = ap (λ n. (4 * d) * n) sum in
    let squared : (m + o) * (m + o) ≡ (2 * d * k) * (2 * d * k) = ap (λ n. n * n) whole in
    let across : o * (m + o) ≡ o * (2 * d * k) = ap (λ n. o * n) whole in
    omega arith

-- one term more makes the sum no smaller
pub sum_of-first : (k d r : ℕ) → sum_of 1 d r ≤ sum_of (suc k) d r
unfolding sum_of
sum_of-first zero d r = omega arith
sum_of-first (suc k) d r = let before : sum_of 1 d r ≤ sum_of (suc k) d r = sum_of-first k d r in omega arith

-- no terms, no sum
pub sum_of-none : (d r : ℕ) → sum_of 0 d r ≡ 0
unfolding sum_of
sum_of-none d r = refl

-- the sum of k terms that rise is at least half of a square
pub sum_of-size : (k d r : ℕ) → 0 < d → 0 < r → k * k ≤ 2 * sum_of k d r
unfolding sum_of
sum_of-size zero d r rises some = omega arith
sum_of-size (suc k) d r rises some =
    let before : k * k ≤ 2 * sum_of k d r = sum_of-size k d r rises some in
    let rise : k * 1 ≤ k * d = mul-le k 1 k d (omega arith) rises in
    omega arith

-- so a count is short
pub count-size : (k l d r : ℕ) → 0 < d → 0 < r → l < 2 ^ 70 → sum_of k d r ≤ l → k < 2 ^ 36
count-size k l d r rises some short fits =
    elim (cases_lt k (2 ^ 36)) [
      | inl below ↦ below
      | inr above ↦ let size : k * k ≤ 2 * sum_of k d r = sum_of-size k d r rises some in
          let large : 2 ^ 36 * 2 ^ 36 ≤ k * k = mul-le (2 ^ 36) (2 ^ 36) k k above above in
          omega arith
    ]

-- a factor that is not 0 may be left out
pub cancel : (d a b : ℕ) → 0 < d → d * a ≤ d * b → a ≤ b
cancel d a b some h =
    elim (cases_lt b a) [
      | inl less ↦ let more : d * (b + 1) ≤ d * a = mul-le d (b + 1) d a (omega arith) (omega arith) in omega arith
      | inr enough ↦ enough
    ]

-- an offset between the double first term and the rise
pub data Offset (d r o : ℕ) : Type 0 where
  above : 2 * r ≡ o + d → Offset d r o
  below : d ≡ o + 2 * r → Offset d r o

square : (k d r m o : ℕ) → Offset d r o → m + d ≡ 2 * d * k + 2 * r → m * m ≡ 8 * (d * sum_of k d r) + o * o
square k d r m o (above first) is = square-above k d r m o first is
square k d r m o (below first) is = square-below k d r m o first is

-- a number of terms whose completed square is within the root has a sum that fits
fits_within : (k l d r s o : ℕ) → 0 < d → Offset d r o → s * s ≤ 8 * d * l + o * o → 0 < k →
    2 * d * k + 2 * r ≤ s + d → sum_of k d r ≤ l
fits_within k l d r s o rises offset squared some within =
    let whole : d * 1 ≤ d * k = mul-le d 1 d k (omega arith) some in
    let m : ℕ = 2 * d * k + 2 * r - d in
    let is : 2 * d * k + 2 * r - d + d ≡ 2 * d * k + 2 * r = omega arith in
    let short : 2 * d * k + 2 * r - d ≤ s = omega arith in
    let full : (2 * d * k + 2 * r - d) * (2 * d * k + 2 * r - d) ≡ 8 * (d * sum_of k d r) + o * o =
    square k d r (2 * d * k + 2 * r - d) o offset is in
    let less : (2 * d * k + 2 * r - d) * (2 * d * k + 2 * r - d) ≤ s * s =
    mul-le (2 * d * k + 2 * r - d) (2 * d * k + 2 * r - d) s s short short in
    cancel d (sum_of k d r) l rises (by_squares (d * sum_of k d r) (d * l) (o * o) (s * s)
    ((2 * d * k + 2 * r - d) * (2 * d * k + 2 * r - d)) full less (omega arith))
  where
    by_squares : (a b q t p : ℕ) → p ≡ 8 * a + q → p ≤ t → t ≤ 8 * b + q → a ≤ b
    by_squares a b q t p e f g = omega arith

-- the count from the root fits
pub count-fits : (l d r s o : ℕ) → 0 < d → Offset d r o → s * s ≤ 8 * d * l + o * o →
    sum_of ((s + d - 2 * r) / (2 * d)) d r ≤ l
count-fits l d r s o rises offset squared =
    elim (cases_lt 0 ((s + d - 2 * r) / (2 * d))) [
      | inl some ↦ let parts : (s + d - 2 * r) / (2 * d) * (2 * d) + (s + d - 2 * r) % (2 * d) ≡ s + d - 2 * r =
          div-add-mod' (s + d - 2 * r) (2 * d) in
          let one : 1 * (2 * d) ≤ (s + d - 2 * r) / (2 * d) * (2 * d) =
          mul-le 1 (2 * d) ((s + d - 2 * r) / (2 * d)) (2 * d) some (omega arith) in
          fits_within ((s + d - 2 * r) / (2 * d)) l d r s o rises offset squared some
          (by_parts ((s + d - 2 * r) / (2 * d)) d (s + d) (2 * r) ((s + d - 2 * r) % (2 * d)) rises one parts)
      | inr none ↦ let zero_terms : (s + d - 2 * r) / (2 * d) ≡ 0 = omega arith in
          rw zero_terms (omega (arith, sum_of-none d r))
    ]
  where
    by_parts : (k d t f m : ℕ) → 0 < d → 1 * (2 * d) ≤ k * (2 * d) → k * (2 * d) + m ≡ t - f →
        2 * d * k + f ≤ t
    by_parts k d t f m some one parts = omega arith

-- and no greater one does
pub count-greatest : (l d r s o : ℕ) → 0 < d → Offset d r o → ((m : ℕ) → m * m ≤ 8 * d * l + o * o → m ≤ s) →
    (k : ℕ) → sum_of k d r ≤ l → k ≤ (s + d - 2 * r) / (2 * d)
count-greatest l d r s o rises offset most zero fits = omega arith
count-greatest l d r s o rises offset most (suc k) fits =
    let whole : d * 1 ≤ d * suc k = mul-le d 1 d (suc k) (omega arith) (omega arith) in
    let is : 2 * d * suc k + 2 * r - d + d ≡ 2 * d * suc k + 2 * r = omega arith in
    let full : (2 * d * suc k + 2 * r - d) * (2 * d * suc k + 2 * r - d) ≡ 8 *
    (d * sum_of (suc k) d r) + o * o =
    square (suc k) d r (2 * d * suc k + 2 * r - d) o offset is in
    let less : d * sum_of (suc k) d r ≤ d * l = mul-le d (sum_of (suc k) d r) d l (omega arith) fits in
    let within : 2 * d * suc k + 2 * r - d ≤ s = most (2 * d * suc k + 2 * r - d) (omega arith) in
    le-div (suc k) (s + d - 2 * r) (2 * d) (omega arith) (omega arith)

-- the tested sum is the sum of the terms
pub fits_test : (k l d r less : ℕ) → less ≡ k - 1 →
    IsTrue (nat_le (d * (k * less) / 2 + r * k) l) ↔ (sum_of k d r ≤ l)
fits_test k l d r less is =
    let pairs : d * (k * less) ≡ d * k * (k - 1) = rw is (omega arith) in
    let same : d * (k * less) / 2 + r * k ≡ sum_of k d r =
    ap (λ n. n / 2 + r * k) pairs ∙ sym (sum_of-closed k d r) in
    rw same (tested (sum_of k d r) l)
  where
    tested : (a b : ℕ) → IsTrue (nat_le a b) ↔ (a ≤ b)
    tested a b = (λ h. grind (arith, nat_tests), λ h. grind (arith, nat_tests))

-- each term has its r
pub sum_of-shift : (k d r : ℕ) → sum_of k d r ≡ sum_of k d 0 + r * k
sum_of-shift k d r = omega (arith, sum_of-twice k d r, sum_of-twice k d 0)

-- without it the sum is d times that of 0, 1, 2 and so on
pub sum_of-scaled : (k d : ℕ) → sum_of k d 0 ≡ d * sum_of k 1 0
unfolding sum_of
sum_of-scaled zero d = omega arith
sum_of-scaled (suc k) d = let before : sum_of k d 0 ≡ d * sum_of k 1 0 = sum_of-scaled k d in omega arith

-- as the code computes it
pub sum_of-pairs : (k d : ℕ) → d * (k * (k - 1) / 2) ≡ sum_of k d 0
sum_of-pairs k d =
    let closed : sum_of k 1 0 ≡ 1 * k * (k - 1) / 2 + 0 * k = sum_of-closed k 1 0 in
    let plain : 1 * k * (k - 1) ≡ k * (k - 1) = omega arith in
    let halves : sum_of k 1 0 ≡ k * (k - 1) / 2 = closed ∙ rw plain (omega arith) in
    sym (sum_of-scaled k d ∙ ap (λ n. d * n) halves)

-- the first term apart, and the others from the next
pub sum_of-front : (n d r : ℕ) → sum_of (suc n) d r ≡ r + sum_of n d (r + d)
unfolding sum_of
sum_of-front zero d r = omega arith
sum_of-front (suc n) d r = let rest : sum_of (suc n) d r ≡ r + sum_of n d (r + d) = sum_of-front n d r in omega arith

-- the first k terms, and the others
pub sum_of-split : (k n d r : ℕ) → sum_of (k + n) d r ≡ sum_of k d r + sum_of n d (r + k * d)
unfolding sum_of
sum_of-split k zero d r = let here : k + zero ≡ k = omega arith in rw here (omega arith)
sum_of-split k (suc n) d r =
    let next : k + suc n ≡ suc (k + n) = omega arith in
    let rest : sum_of (k + n) d r ≡ sum_of k d r + sum_of n d (r + k * d) = sum_of-split k n d r in
    rw next (omega arith)

-- more terms have no smaller sum
pub sum_of-more : (k m d r : ℕ) → k ≤ m → sum_of k d r ≤ sum_of m d r
sum_of-more k m d r h =
    let parts : k + (m - k) ≡ m = omega arith in
    let sum : sum_of m d r ≡ sum_of k d r + sum_of (m - k) d (r + k * d) =
    rw parts at (sum_of-split k (m - k) d r) in
    omega arith
