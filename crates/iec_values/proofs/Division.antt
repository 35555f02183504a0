-- Quotients toward zero, and numbers that are rounded.
-- for: numbers_are_exact
use Rattle.std.proofs.Common.{◌≡◌, ◌≢◌, refl, sym, subst, ap, Bool, true, false, cond, ℕ, zero, suc, ◌+◌, ◌*◌, ◌/◌, ◌^◌, ◌<◌, ◌≤◌, ℤ, pos, negsuc, neg_ℤ, ◌-ℤ◌, ◌*ℤ◌, ◌≤ℤ◌, unsigned_abs, int_lt, arith}
use Rattle.std.specs.Ordering.{int_eq}
use Rattle.std.specs.Int.RustNames.{int_div, int_rem}
use Rattle.std.proofs.lemmas.Bool.Decides.{Decides-int_eq}
use Rattle.std.proofs.lemmas.Int.{ints, quot-rem, rem_below}
use Rattle.std.proofs.Math.Nat.{div-add-mod', zero-mod}
use Rattle.iec_values.specs.Laws.{IsTowardZero}
use Rattle.iec_values.specs.Numbers.{quotient, remainder, rounded, with_sign}

-- what a quotient leaves has the dividend's sign
above : (a d : ℤ) → pos 0 ≤ℤ a → pos 0 ≤ℤ int_rem a d
above (pos a) d h = omega (arith, ints)
above (negsuc a) d h = absurd (omega (arith, ints))

below : (a d : ℤ) → a ≤ℤ pos 0 → int_rem a d ≤ℤ pos 0
below (pos zero) d h = omega (arith, ints, zero-mod (unsigned_abs d))
below (pos (suc a)) d h = absurd (omega (arith, ints))
below (negsuc a) d h = omega (arith, ints)

toward : (a d : ℤ) → 0 < unsigned_abs d → IsTowardZero a d (int_div a d) (int_rem a d)
toward a d some = record {
  whole = quot-rem a d;
  left = rem_below a d some;
  above = above a d;
  below = below a d;
}

size : (b : ℤ) → b ≢ pos 0 → 0 < unsigned_abs b
size (pos zero) some = absurd (some refl)
size (pos (suc b)) some = omega arith
size (negsuc b) some = omega arith

tested : (b : ℤ) → b ≢ pos 0 → int_eq b (pos 0) ≡ false
tested b some = by (int_eq b (pos 0)) refl
  where
    by : (t : Bool) → int_eq b (pos 0) ≡ t → t ≡ false
    by false e = refl
    by true e = absurd (some ((Decides-int_eq b (pos 0)).0 e))

pub toward_zero : (a b : ℤ) → b ≢ pos 0 → IsTowardZero a b (quotient a b) (remainder a b)
unfolding quotient remainder
toward_zero a b some = subst (λ t. IsTowardZero a b (cond t (pos 0) (int_div a b)) (cond t (pos 0) (int_rem a b)))
    (sym (tested b some)) (toward a b (size b some))

pub quotient_zero : (a : ℤ) → quotient a (pos 0) ≡ pos 0
unfolding quotient
quotient_zero a = refl

pub remainder_zero : (a : ℤ) → remainder a (pos 0) ≡ pos 0
unfolding remainder
remainder_zero a = refl

below_zero : (n : ℕ) → int_lt (pos n) (pos 0) ≡ false
below_zero n = by (int_lt (pos n) (pos 0)) refl
  where
    by : (t : Bool) → int_lt (pos n) (pos 0) ≡ t → t ≡ false
    by false e = refl
    by true e = absurd (omega (arith, ints))

rounded-pos : (n : ℕ) → rounded (pos n) ≡ pos ((n + 500000000) / 1000000000)
unfolding rounded
rounded-pos n = ap (λ t. with_sign t (pos ((n + 500000000) / 1000000000))) (below_zero n)

rounded-negsuc : (n : ℕ) → rounded (negsuc n) ≡ neg_ℤ (pos ((suc n + 500000000) / 1000000000))
unfolding rounded
rounded-negsuc n = refl

half-pos : (n q r : ℕ) → q * 1000000000 + r ≡ n + 500000000 → r < 1000000000 → unsigned_abs (pos q *ℤ pos 1000000000 -ℤ pos n) ≤ 500000000
half-pos n q r e h = omega (arith, ints)

half-negsuc : (n q r : ℕ) → q * 1000000000 + r ≡ suc n + 500000000 → r < 1000000000 → unsigned_abs (neg_ℤ (pos q) *ℤ pos 1000000000 -ℤ negsuc n) ≤ 500000000
half-negsuc n q r e h = omega (arith, ints)

pub within_half : (z : ℤ) → unsigned_abs (rounded z *ℤ pos (10 ^ 9) -ℤ z) ≤ 500000000
within_half (pos n) = subst (λ q. unsigned_abs (q *ℤ pos (10 ^ 9) -ℤ pos n) ≤ 500000000) (sym (rounded-pos n))
    (half-pos n _ _ (div-add-mod' (n + 500000000) 1000000000) (omega arith))
within_half (negsuc n) = subst (λ q. unsigned_abs (q *ℤ pos (10 ^ 9) -ℤ negsuc n) ≤ 500000000) (sym (rounded-negsuc n))
    (half-negsuc n _ _ (div-add-mod' (suc n + 500000000) 1000000000) (omega arith))

far-pos : (y : ℤ) (n q r : ℕ) → q * 1000000000 + r ≡ n + 500000000 → r < 1000000000 → unsigned_abs (y *ℤ pos 1000000000 -ℤ pos n) ≤ 500000000 → unsigned_abs y ≤ unsigned_abs (pos q)
far-pos (pos m) n q r e h k = omega (arith, ints)
far-pos (negsuc m) n q r e h k = omega (arith, ints)

far-negsuc : (y : ℤ) (n q r : ℕ) → q * 1000000000 + r ≡ suc n + 500000000 → r < 1000000000 → unsigned_abs (y *ℤ pos 1000000000 -ℤ negsuc n) ≤ 500000000 → unsigned_abs y ≤ unsigned_abs (neg_ℤ (pos q))
far-negsuc (pos m) n q r e h k = omega (arith, ints)
far-negsuc (negsuc m) n q r e h k = omega (arith, ints)

pub halves_away : (y z : ℤ) → unsigned_abs (y *ℤ pos (10 ^ 9) -ℤ z) ≤ 500000000 → unsigned_abs y ≤ unsigned_abs (rounded z)
halves_away y (pos n) h = subst (λ q. unsigned_abs y ≤ unsigned_abs q) (sym (rounded-pos n))
    (far-pos y n _ _ (div-add-mod' (n + 500000000) 1000000000) (omega arith) h)
halves_away y (negsuc n) h = subst (λ q. unsigned_abs y ≤ unsigned_abs q) (sym (rounded-negsuc n))
    (far-negsuc y n _ _ (div-add-mod' (suc n + 500000000) 1000000000) (omega arith) h)
