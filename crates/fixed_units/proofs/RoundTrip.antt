-- What is written is a number, and stands for what was written.
-- for: write_units
use Rattle.std.proofs.Common.{◌≡◌, ◌≢◌, ℕ, ◌+◌, ◌*◌, ◌/◌, ◌%◌, ◌^◌, ◌<◌, ◌≤◌, Bool, true, false, ◌==◌, List, [], ◌∷◌, ◌++◌, length, Some, None, ℤ, pos, negsuc, int_lt, unsigned_abs, decimal, inl, inr, refl, sym, subst, arith, length-append, append-nil, append_assoc}
use Rattle.std.proofs.lemmas.Bool.{cases_eq, le-ltb, lt-ltb, and_parts}
use Rattle.std.proofs.lemmas.Bool.Decides.{nat_tests}
use Rattle.std.proofs.lemmas.Fmt.{decimal_nonempty, digits_decimal, digits_value-decimal}
use Rattle.std.proofs.lemmas.List.{take_at, drop_at}
use Rattle.std.specs.Char.{is_ascii_digit}
use Rattle.std.specs.List.{position_or_len, before_first, after_first}
use Rattle.std.specs.Str.Parse.{digits_value}
use Rattle.fixed_units.specs.Numbers.{is_negative, without_minus, is_point, whole_of, fraction_of, is_digits, is_number, places_of, billionths_of, size_of, with_sign, Spells}
use Rattle.fixed_units.specs.Spelling.{last_digits, without_end_zeros, fraction_text, sign_text, units_text}
use Rattle.fixed_units.proofs.Digits.{AreDigits, numerals}
use Rattle.fixed_units.proofs.Parts.{whole_number, cut_number}
use Rattle.fixed_units.proofs.Places.{HasPlaces, significant-places}
use Rattle.fixed_units.proofs.Written.{units_text-parts, fraction_text-zero, fraction_text-places}

-- a digit is no point and no minus
digit-no_point : (d : ℕ) → is_ascii_digit d ≡ true → is_point d ≡ false
digit-no_point d digit = grind (arith, nat_tests)

digit-no_minus : (d : ℕ) → is_ascii_digit d ≡ true → (d == 45) ≡ false
digit-no_minus d digit = grind (arith, nat_tests)

-- in digits there is no point
pub position-digits : (ds : List ℕ) → AreDigits ds → position_or_len is_point ds ≡ length ds
position-digits [] digits = refl
position-digits (d ∷ ds) digits = let (here, more) = and_parts _ _ digits in rw (digit-no_point d here, position-digits ds more) (omega arith)

-- after digits the point is the first
pub position-point : (ds more : List ℕ) → AreDigits ds → position_or_len is_point (ds ++ 46 ∷ more) ≡ length ds
position-point [] more digits = refl
position-point (d ∷ ds) more digits = let (here, others) = and_parts _ _ digits in rw (digit-no_point d here, position-point ds more others) (omega arith)

-- a text of digits is a whole number
pub whole_of-digits : (ds : List ℕ) → AreDigits ds → (whole_of ds ≡ ds) × (fraction_of ds ≡ None)
whole_of-digits ds digits = whole_number ds (position-digits ds digits)

-- digits, a point and more is cut at the point
pub whole_of-point : (ds more : List ℕ) → AreDigits ds → (whole_of (ds ++ 46 ∷ more) ≡ ds) × (fraction_of (ds ++ 46 ∷ more) ≡ Some more)
whole_of-point ds more digits =
    let at = position-point ds more digits in
    let within : position_or_len is_point (ds ++ 46 ∷ more) < length (ds ++ 46 ∷ more) = rw (at, length-append) (omega arith) in
    let whole : ds ≡ before_first is_point (ds ++ 46 ∷ more) = rw at (sym (take_at ds (46 ∷ more) (length ds) refl)) in
    let rest : more ≡ after_first is_point (ds ++ 46 ∷ more) =
    rw (at, ← (append_assoc ds (46 ∷ []) more)) (sym (drop_at (ds ++ 46 ∷ []) more (length ds + 1) (length-append ds (46 ∷ [])))) in
    cut_number (ds ++ 46 ∷ more) ds more within whole rest

-- a text that begins with a digit has no minus
pub no_minus : (ds more : List ℕ) → AreDigits ds → 0 < length ds
    → (is_negative (ds ++ more) ≡ false) × (without_minus (ds ++ more) ≡ ds ++ more)
no_minus [] more digits some = absurd (omega (arith, some))
no_minus (d ∷ ds) more digits some = let (here, others) = and_parts _ _ digits in rw (digit-no_minus d here) (refl, refl)

-- a size with the sign of a number is the number
pub with_sign-size : (units : ℤ) → with_sign (int_lt units (pos 0)) (unsigned_abs units) ≡ units
with_sign-size (pos n) = rw (le-ltb n 0 (omega arith)) refl
with_sign-size (negsuc n) = refl

-- a sign stands before digits
pub signed_digits : (negative : Bool) (ds more : List ℕ) → AreDigits ds → 0 < length ds
    → (is_negative (sign_text negative ++ ds ++ more) ≡ negative) × (without_minus (sign_text negative ++ ds ++ more) ≡ ds ++ more)
signed_digits true ds more digits some = (refl, refl)
signed_digits false ds more digits some = no_minus ds more digits some

-- digits, one or more, pass the test
pub is_digits-of : (ds : List ℕ) → AreDigits ds → 0 < length ds → is_digits ds ≡ true
is_digits-of ds digits some = rw (lt-ltb 0 (length ds) some, digits) refl

-- the text is a number of at most nine places and of this size
pub record IsNumberOf (number : List ℕ) (size : ℕ) : Type 0 where
  pub number_is : is_number number ≡ true
  pub places : places_of number ≤ 9
  pub value : size_of number ≡ size

-- a whole number
IsNumberOf-whole : (ds : List ℕ) → AreDigits ds → 0 < length ds → IsNumberOf ds (digits_value 10 ds * 10 ^ 9)
unfolding billionths_of
IsNumberOf-whole ds digits some =
    let (whole, none) = whole_of-digits ds digits in
    record {
      number_is = rw (whole, none, is_digits-of ds digits some) refl;
      places = rw none (omega arith);
      value = rw (whole, none) (omega arith);
    }

-- a number with places after its point
IsNumberOf-point : (ds places : List ℕ) (part : ℕ) → AreDigits ds → 0 < length ds → HasPlaces 9 part places → 0 < length places
    → IsNumberOf (ds ++ 46 ∷ places) (digits_value 10 ds * 10 ^ 9 + part)
unfolding billionths_of
IsNumberOf-point ds places part digits some has behind =
    let (whole, fraction) = whole_of-point ds places digits in
    record {
      number_is = rw (whole, fraction, is_digits-of ds digits some, is_digits-of places has.digits behind) refl;
      places = rw fraction has.few;
      value = rw (whole, fraction, has.value) refl;
    }

-- places that stand for a part above zero are one at least
places-some : (ds : List ℕ) (part : ℕ) → part ≢ 0 → HasPlaces 9 part ds → 0 < length ds
places-some [] part some has = absurd (some (sym has.value))
places-some (d ∷ ds) part some has = omega arith

-- the whole number and the fraction as they are written
pub IsNumberOf-written : (whole part : ℕ) → whole < 2 ^ 64 → part < 10 ^ 9
    → IsNumberOf (decimal whole ++ fraction_text part) (whole * 10 ^ 9 + part)
IsNumberOf-written whole part fits below =
    let digits : AreDigits (decimal whole) = digits_decimal numerals whole fits in
    let some : 0 < length (decimal whole) = decimal_nonempty whole fits in
    let value : digits_value 10 (decimal whole) ≡ whole = digits_value-decimal numerals whole fits in
    elim (cases_eq part 0) [
      | inl none ↦
          let same : digits_value 10 (decimal whole) * 10 ^ 9 ≡ whole * 10 ^ 9 + 0 = omega (arith, value) in
          rw (fraction_text-zero part none, append-nil (decimal whole), none)
          (subst (IsNumberOf (decimal whole)) same (IsNumberOf-whole (decimal whole) digits some))
      | inr above ↦
          let places = without_end_zeros (last_digits 9 part) in
          let has = significant-places 9 part below in
          let same : digits_value 10 (decimal whole) * 10 ^ 9 + part ≡ whole * 10 ^ 9 + part = omega (arith, value) in
          rw (fraction_text-places part above)
          (subst (IsNumberOf (decimal whole ++ 46 ∷ places)) same
          (IsNumberOf-point (decimal whole) places part digits some has (places-some places part above has)))
    ]

-- what is written spells the units
pub units_text-spells : (units : ℤ) → unsigned_abs units < 2 ^ 64 → Spells (units_text units) units
units_text-spells units fits =
    let size = unsigned_abs units in
    let whole = size / 10 ^ 9 in
    let part = size % 10 ^ 9 in
    let small : whole < 2 ^ 64 = omega arith in
    let parts = units_text-parts units _ _ refl refl in
    let number = IsNumberOf-written whole part small (omega arith) in
    let (sign, rest) = signed_digits (int_lt units (pos 0)) (decimal whole) (fraction_text part)
    (digits_decimal numerals whole small) (decimal_nonempty whole small) in
    let value : whole * 10 ^ 9 + part ≡ size = omega arith in
    record {
      number = rw (parts, rest) number.number_is;
      places = rw (parts, rest) number.places;
      value = rw (parts, sign, rest, number.value, value) (with_sign-size units);
    }
