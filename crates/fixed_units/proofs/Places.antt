-- The places of a fraction that are significant, and that no writing has fewer.
-- for: write_units
use Rattle.std.proofs.Common.{◌≡◌, ◌≢◌, ℕ, zero, suc, ◌+◌, ◌-◌, ◌*◌, ◌/◌, ◌%◌, ◌^◌, ◌<◌, ◌≤◌, true, List, [], ◌∷◌, ◌++◌, length, inl, inr, refl, ap, ◌∙◌, arith}
use Rattle.std.proofs.Math.Nat.{pow-suc}
use Rattle.std.proofs.lemmas.Bool.{cases_eq, cases_lt}
use Rattle.std.proofs.lemmas.Bool.Decides.{nat_tests}
use Rattle.std.proofs.lemmas.Int.Digits.{digits_value_push}
use Rattle.std.proofs.lemmas.List.Folds.{list_all-append}
use Rattle.std.proofs.lemmas.Str.{digit_value_digit}
use Rattle.std.specs.Char.{is_ascii_digit}
use Rattle.std.specs.Str.Parse.{digits_value}
use Rattle.fixed_units.specs.Spelling.{last_digits, without_end_zeros}
use Rattle.fixed_units.proofs.Digits.{AreDigits, scaled-lt}
use Rattle.fixed_units.proofs.Written.{length-last_digits, without_end_zeros-zero, without_end_zeros-all}

-- the character of a digit is one
is_ascii_digit-of : (d : ℕ) → d < 10 → is_ascii_digit (48 + d) ≡ true
is_ascii_digit-of d small = grind (arith, nat_tests)

-- digits and one digit more are digits
pub AreDigits-push : (ds : List ℕ) (d : ℕ) → AreDigits ds → d < 10 → AreDigits (ds ++ (48 + d) ∷ [])
AreDigits-push ds d digits small = rw (list_all-append is_ascii_digit ds ((48 + d) ∷ []), digits, is_ascii_digit-of d small) refl

-- the last digits of a number are digits
pub AreDigits-last_digits : (places number : ℕ) → AreDigits (last_digits places number)
unfolding last_digits
AreDigits-last_digits zero number = refl
AreDigits-last_digits (suc places) number =
    AreDigits-push (last_digits places (number / 10)) (number % 10) (AreDigits-last_digits places (number / 10)) (omega arith)

-- they write the number, where it fits
pub digits_value-last_digits : (places number : ℕ) → number < 10 ^ places → digits_value 10 (last_digits places number) ≡ number
unfolding last_digits
digits_value-last_digits zero number fits = omega arith
digits_value-last_digits (suc places) number fits =
    let shorter = digits_value-last_digits places (number / 10) (omega (arith, pow-suc 10 places)) in
    let last = digit_value_digit (48 + number % 10) (omega arith, omega arith) in
    digits_value_push 10 (last_digits places (number / 10)) (48 + number % 10) ∙ omega (arith, shorter, last)

-- these digits are the number's without zeros at their end, out of this many places
pub record HasPlaces (places number : ℕ) (ds : List ℕ) : Type 0 where
  pub digits : AreDigits ds
  pub few : length ds ≤ places
  pub value : digits_value 10 ds * 10 ^ (places - length ds) ≡ number

-- a zero after the number is no significant place
without_end_zeros-tenfold : (places number : ℕ) → number % 10 ≡ 0
    → without_end_zeros (last_digits (suc places) number) ≡ without_end_zeros (last_digits places (number / 10))
unfolding last_digits
without_end_zeros-tenfold places number last = rw last (without_end_zeros-zero (last_digits places (number / 10)))

-- another last digit leaves all places
without_end_zeros-full : (places number : ℕ) → number % 10 ≢ 0
    → without_end_zeros (last_digits (suc places) number) ≡ last_digits (suc places) number
without_end_zeros-full places number last = without_end_zeros-all number (suc places) (omega arith) last

-- the same digits out of one place more stand for ten times the number
HasPlaces-tenfold : (places number : ℕ) (ds : List ℕ) → number % 10 ≡ 0 → HasPlaces places (number / 10) ds → HasPlaces (suc places) number ds
HasPlaces-tenfold places number ds last has =
    let more : suc places - length ds ≡ suc (places - length ds) = omega (arith, has.few) in
    let power : 10 ^ (suc places - length ds) ≡ 10 ^ (places - length ds) * 10 = ap (λ k. 10 ^ k) more ∙ pow-suc 10 (places - length ds) in
    record { digits = has.digits; few = omega (arith, has.few); value = omega (arith, ap (λ q. digits_value 10 ds * q) power, has.value) }

-- all places of a number
HasPlaces-all : (places number : ℕ) → number < 10 ^ places → HasPlaces places number (last_digits places number)
HasPlaces-all places number fits =
    let none : places - length (last_digits places number) ≡ 0 = omega (arith, length-last_digits places number) in
    record {
      digits = AreDigits-last_digits places number;
      few = omega (arith, length-last_digits places number);
      value = rw none (omega (arith, digits_value-last_digits places number fits));
    }

-- zero has no places
HasPlaces-none : (number : ℕ) → number ≡ 0 → HasPlaces zero number (without_end_zeros (last_digits zero number))
unfolding last_digits without_end_zeros
HasPlaces-none number none = record { digits = refl; few = omega arith; value = omega (arith, none) }

-- the significant places write the number
pub significant-places : (places number : ℕ) → number < 10 ^ places → HasPlaces places number (without_end_zeros (last_digits places number))
significant-places zero number fits = HasPlaces-none number (omega arith)
significant-places (suc places) number fits =
    elim (cases_eq (number % 10) 0) [
      | inl last ↦ rw (without_end_zeros-tenfold places number last)
          (HasPlaces-tenfold places number _ last (significant-places places (number / 10) (omega (arith, pow-suc 10 places))))
      | inr last ↦ rw (without_end_zeros-full places number last) (HasPlaces-all (suc places) number fits)
    ]

-- no digits that stand for the number are fewer
pub significant-fewest : (places few n : ℕ) → few ≤ places → n < 10 ^ few
    → length (without_end_zeros (last_digits places (n * 10 ^ (places - few)))) ≤ few
unfolding last_digits without_end_zeros
significant-fewest zero few n le fits = omega arith
significant-fewest (suc places) few n le fits =
    elim (cases_lt places few) [
      | inl all ↦ let has = significant-places (suc places) (n * 10 ^ (suc places - few)) (scaled-lt (suc places) n few le fits) in
          omega (arith, has.few)
      | inr fewer ↦
          let less : suc places - few ≡ suc (places - few) = omega arith in
          let power : n * 10 ^ (suc places - few) ≡ n * 10 ^ (places - few) * 10 =
          ap (λ k. n * 10 ^ k) less ∙ omega (arith, ap (λ q. n * q) (pow-suc 10 (places - few))) in
          let last : n * 10 ^ (suc places - few) % 10 ≡ 0 = omega (arith, power) in
          let others : n * 10 ^ (suc places - few) / 10 ≡ n * 10 ^ (places - few) = omega (arith, power) in
          rw (without_end_zeros-tenfold places (n * 10 ^ (suc places - few)) last, others) (significant-fewest places few n fewer fits)
    ]
