-- The size of a number.
-- for: numbers_are_small
use Rattle.std.proofs.Common.{◌≡◌, ℕ, ℤ, Option, Some, None, refl, subst, ◌≤◌, List, length, inl, inr}
use Rattle.std.specs.Prelude.{nat_le, ◌&&◌, unsigned_abs}
use Rattle.std.specs.Str.Parse.{digits_value}
use Rattle.std.proofs.lemmas.Bool.{and_parts, cases_Bool, leb-true}
use Rattle.fixed_units.specs.Numbers.{is_digits, is_negative, with_sign, without_minus}
use Rattle.fixed_units.proofs.Shortest.{unsigned_abs-with_sign}
use Rattle.motion_numbers.specs.declared.TheConstants.{MOST_NUMBER}
use Rattle.line_text.specs.Numbers.{◌>>=◌, number_of, size_of}

-- a size is at most 10^18
size-small : (size : Option ℕ) (f : ℕ → ℤ) (z : ℤ) → ((n : ℕ) → size ≡ Some n → n ≤ MOST_NUMBER) → ((n : ℕ) → unsigned_abs (f n) ≡ n) →
    (size >>= λ n. Some (f n)) ≡ Some z → unsigned_abs z ≤ MOST_NUMBER
size-small (Some n) f z small same h =
    let e : f n ≡ z = cc in
    let few = small n refl in
    subst (λ y. unsigned_abs y ≤ MOST_NUMBER) e (rw (same n) few)
size-small None f z small same h = absurd (cc)

size_of-small : (digits : List ℕ) (n : ℕ) → size_of digits ≡ Some n → n ≤ MOST_NUMBER
unfolding size_of
size_of-small digits n h =
    elim (cases_Bool (is_digits digits && nat_le (length digits) 19 && nat_le (digits_value 10 digits) 1000000000000000000)) [
      | inl yet ↦
          let e : Some (digits_value 10 digits) ≡ Some n = rw yet at h in
          let is : digits_value 10 digits ≡ n = cc in
          let few = leb-true _ _ (and_parts (is_digits digits && nat_le (length digits) 19) _ yet).1 in
          subst (λ k. k ≤ MOST_NUMBER) is few
      | inr no_size ↦ let e : None ≡ Some n = rw no_size at h in absurd (cc)
    ]

-- a number is at most 10^18 in size
pub number_of-small : (word : List ℕ) (z : ℤ) → number_of word ≡ Some z → unsigned_abs z ≤ MOST_NUMBER
unfolding number_of
number_of-small word z h = size-small (size_of (without_minus word)) (with_sign (is_negative word)) z (size_of-small (without_minus word)) (unsigned_abs-with_sign (is_negative word)) h
