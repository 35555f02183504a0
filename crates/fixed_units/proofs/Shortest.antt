-- No number that stands for the units is shorter than what is written.
-- for: write_units
use Rattle.std.proofs.Common.{◌≡◌, ℕ, zero, suc, ◌+◌, ◌-◌, ◌*◌, ◌/◌, ◌%◌, ◌^◌, ◌<◌, ◌≤◌, Bool, true, false, ◌==◌, if◌then◌else◌, List, [], ◌∷◌, length, Option, Some, None, unwrap_or, ℤ, pos, int_lt, unsigned_abs, decimal, inl, inr, refl, sym, ap, ◌∙◌, arith, length-append}
use Rattle.std.proofs.lemmas.Bool.{cases_eq, cases_lt, le-ltb, lt-ltb, and_parts}
use Rattle.std.proofs.lemmas.Fmt.{length-decimal-le}
use Rattle.std.proofs.lemmas.Int.Digits.{digits_value-lt}
use Rattle.std.proofs.lemmas.List.{length-take-le, length-drop}
use Rattle.std.proofs.lemmas.List.Sums.{prefix_len-le-length}
use Rattle.std.proofs.Math.Seq.{take-length}
use Rattle.std.specs.List.{position_or_len}
use Rattle.std.specs.Option.{option_map_or}
use Rattle.std.specs.Str.Parse.{digits_value}
use Rattle.fixed_units.specs.Numbers.{is_negative, without_minus, is_point, whole_of, fraction_of, is_digits, is_number, places_of, billionths_of, size_of, with_sign, Spells}
use Rattle.fixed_units.specs.Spelling.{fraction_text, sign_text, units_text}
use Rattle.fixed_units.proofs.Digits.{AreDigits, numerals, scaled-lt}
use Rattle.fixed_units.proofs.Parts.{digits_parts}
use Rattle.fixed_units.proofs.Places.{significant-fewest}
use Rattle.fixed_units.proofs.Written.{units_text-parts, fraction_text-zero, fraction_text-places, length-sign_text}

-- a size with a sign has this size
pub unsigned_abs-with_sign : (negative : Bool) (size : ℕ) → unsigned_abs (with_sign negative size) ≡ size
unsigned_abs-with_sign false size = refl
unsigned_abs-with_sign true zero = refl
unsigned_abs-with_sign true (suc n) = refl

-- it is below zero only with a minus
sign-shortest : (negative : Bool) (size : ℕ) → length (sign_text (int_lt (with_sign negative size) (pos 0))) ≤ length (sign_text negative)
sign-shortest false size = rw (le-ltb size 0 (omega arith)) (omega arith)
sign-shortest true size = length-sign_text _

-- a text is its minus and the rest
length-rest : (negative : Bool) (b : ℕ) (bs : List ℕ) → length (b ∷ bs) ≡ length (sign_text negative) + length (if negative then bs else b ∷ bs)
length-rest true b bs = omega arith
length-rest false b bs = omega arith

length-signed : (text : List ℕ) → length text ≡ length (sign_text (is_negative text)) + length (without_minus text)
length-signed [] = refl
length-signed (b ∷ bs) = length-rest (b == 45) b bs

-- how long the point and the digits after it are
point_length : Option (List ℕ) → ℕ
point_length None = 0
point_length (Some ds) = length ds + 1

-- a number is what stands before the point, the point, and what stands after it
length-cut : (number : List ℕ) → length number ≡ length (whole_of number) + point_length (fraction_of number)
unfolding whole_of fraction_of point_length
length-cut number =
    elim (cases_lt (position_or_len is_point number) (length number)) [
      | inl within ↦
          let fits : position_or_len is_point number ≤ length number = omega arith in
          rw (lt-ltb _ _ within, length-take-le, length-drop) (omega arith)
      | inr beyond ↦
          let all : position_or_len is_point number ≡ length number = omega (arith, prefix_len-le-length) in
          rw (le-ltb _ _ beyond, all, take-length) (omega arith)
    ]

-- the fraction that is written is the shortest
fraction-shortest : (fraction : Option (List ℕ)) (part : ℕ) → option_map_or is_digits fraction true ≡ true
    → option_map_or length fraction 0 ≤ 9
    → part ≡ digits_value 10 (unwrap_or fraction []) * 10 ^ (9 - length (unwrap_or fraction []))
    → length (fraction_text part) ≤ point_length fraction
unfolding point_length
fraction-shortest None part digits few value = rw (fraction_text-zero part (omega (arith, value))) (omega arith)
fraction-shortest (Some ds) part digits few value =
    elim (cases_eq part 0) [
      | inl none ↦ rw (fraction_text-zero part none) (omega arith)
      | inr some ↦
          let fits = digits_value-lt 10 ds (numerals.to ds (digits_parts ds digits).1) in
          let fewest = significant-fewest 9 (length ds) (digits_value 10 ds) few fits in
          rw (fraction_text-places part some, value) (omega (arith, fewest))
    ]

-- what stands after a point is digits
fraction-digits : (fraction : Option (List ℕ)) → option_map_or is_digits fraction true ≡ true → AreDigits (unwrap_or fraction [])
fraction-digits None digits = refl
fraction-digits (Some ds) digits = (digits_parts ds digits).1

-- there are as many places as digits after the point
fraction-places : (fraction : Option (List ℕ)) → length (unwrap_or fraction []) ≡ option_map_or length fraction 0
fraction-places None = refl
fraction-places (Some ds) = refl

-- a size has as many billionths as stand after the point
size_parts : (whole part size : ℕ) → part < 10 ^ 9 → size ≡ whole * 10 ^ 9 + part → (size / 10 ^ 9 ≡ whole) × (size % 10 ^ 9 ≡ part)
size_parts whole part size below e = (omega arith, omega arith)

-- no number of this size is shorter
number-shortest : (number : List ℕ) → is_number number ≡ true → places_of number ≤ 9 → size_of number < 2 ^ 64
    → length (decimal (size_of number / 10 ^ 9)) + length (fraction_text (size_of number % 10 ^ 9)) ≤ length number
unfolding billionths_of
number-shortest number is few fits =
    let (whole_is, fraction_is) = and_parts _ _ is in
    let (some, digits) = digits_parts (whole_of number) whole_is in
    let behind = unwrap_or (fraction_of number) [] in
    let part = digits_value 10 behind * 10 ^ (9 - length behind) in
    let places : length behind ≤ 9 = omega (arith, fraction-places (fraction_of number)) in
    let below : part < 10 ^ 9 =
    scaled-lt 9 (digits_value 10 behind) (length behind) places
    (digits_value-lt 10 behind (numerals.to behind (fraction-digits (fraction_of number) fraction_is))) in
    let (whole, rest) = size_parts (digits_value 10 (whole_of number)) part (size_of number) below refl in
    let whole_fits : digits_value 10 (whole_of number) < 2 ^ 64 = omega (arith, whole) in
    let before = length-decimal-le (length (whole_of number)) (digits_value 10 (whole_of number)) some
    (digits_value-lt 10 (whole_of number) (numerals.to (whole_of number) digits)) whole_fits in
    let after = fraction-shortest (fraction_of number) part fraction_is few refl in
    rw (whole, rest) (omega (arith, length-cut number, before, after))

-- what is written is the shortest number that spells the units
pub units_text-shortest : (units : ℤ) (text : List ℕ) → unsigned_abs units < 2 ^ 64 → Spells text units
    → length (units_text units) ≤ length text
units_text-shortest units text fits spells =
    let number = without_minus text in
    let size : size_of number ≡ unsigned_abs units =
    sym (unsigned_abs-with_sign (is_negative text) (size_of number)) ∙ ap unsigned_abs spells.value in
    let sign = rw spells.value at (sign-shortest (is_negative text) (size_of number)) in
    let rest = number-shortest number spells.number spells.places (rw size fits) in
    rw (units_text-parts units _ (size_of number) refl size, length-append, length-append)
    (omega (arith, length-signed text, sign, rest))
