-- What the digits of a number are read as, test by test.
-- for: read_units, write_units
use Rattle.std.proofs.Common.{◌≡◌, ℕ, ◌<◌, ◌≤◌, ◌^◌, true, false, List, length, ◌+◌, ◌*◌, ◌-◌, Some, None, [], ◌∷◌, ◌≢◌, ap, sym, Result, Ok, Err, inl, inr, refl, arith}
use Rattle.std.proofs.lemmas.Str.Parse.{parse_digits}
use Rattle.std.specs.Str.Parse.{ParsesUnsigned, digits_value}
use Rattle.std.proofs.lemmas.Bool.{ltb-true, lt-ltb, le-ltb, ne_eqb, cases_lt, and_parts}
use Rattle.std.proofs.Math.Seq.{take-length}
use Rattle.std.proofs.Math.Bool.{and-true, and-false}
use Rattle.std.specs.List.{position_or_len, before_first, after_first}
use Rattle.std.proofs.lemmas.Bool.Decides.{nat_tests}
use Rattle.fixed_units.specs.declared.reading.UnitFault.TheVariants.{NotNumber, TooFine, TooLarge}
use Rattle.fixed_units.specs.Numbers.{is_point, whole_of, fraction_of, is_digits, size_reading, digits_reading, billionths_of, reading_of, reading_with_sign}
use Rattle.fixed_units.proofs.Digits.{AreDigits, numerals}

-- a text that is one digit or more has digits alone
pub digits_parts : (ds : List ℕ) → is_digits ds ≡ true → (0 < length ds) × AreDigits ds
digits_parts ds h = let (some, digits) = and_parts _ _ h in (ltb-true _ _ some, digits)

-- digits that were parsed are parsed as their number
pub units_parsed : {E : Type 0} (whole : List ℕ) (r : Result ℕ E) (units : ℕ) → is_digits whole ≡ true
    → ParsesUnsigned 64 10 whole r → r ≡ Ok units → units ≡ digits_value 10 whole
units_parsed whole r units h parses ok = (rw ok at (parse_digits numerals 64 whole r parses (digits_parts whole h).1)).1

-- digits that weren't parsed have a number beyond 64 bits
pub units_beyond : {E : Type 0} (whole : List ℕ) (r : Result ℕ E) (error : E) → is_digits whole ≡ true
    → ParsesUnsigned 64 10 whole r → r ≡ Err error → 2 ^ 64 ≤ digits_value 10 whole
units_beyond whole r error h parses err =
    let (some, digits) = digits_parts whole h in
    let refused = rw err at (parse_digits numerals 64 whole r parses digits) in
    elim (cases_lt (digits_value 10 whole) (2 ^ 64)) [ inl small ↦ absurd (refused (some, small)) | inr large ↦ large ]

-- a whole number beyond 64 bits is beyond the greatest size
pub billionths_of-large : (whole fraction : List ℕ) → 2 ^ 64 ≤ digits_value 10 whole → 10 ^ 18 < billionths_of whole fraction
unfolding billionths_of
billionths_of-large whole fraction large = omega arith

-- what the parsed digits make
pub billionths_of-parts : (whole fraction : List ℕ) (units part : ℕ) → units ≡ digits_value 10 whole
    → part ≡ digits_value 10 fraction * 10 ^ (9 - length fraction) → units * 1000000000 + part ≡ billionths_of whole fraction
unfolding billionths_of
billionths_of-parts whole fraction units part u p = omega arith

pub digits_reading-not_number : (whole fraction : List ℕ) → is_digits whole ≡ false → digits_reading whole fraction ≡ Err NotNumber
unfolding digits_reading
digits_reading-not_number whole fraction h = rw h refl

pub digits_reading-too_fine : (whole fraction : List ℕ) → is_digits whole ≡ true → 9 < length fraction
    → digits_reading whole fraction ≡ Err TooFine
unfolding digits_reading
digits_reading-too_fine whole fraction h fine = rw h (grind (arith, nat_tests))

pub digits_reading-too_large : (whole fraction : List ℕ) → is_digits whole ≡ true → length fraction ≤ 9 → 10 ^ 18 < billionths_of whole fraction
    → digits_reading whole fraction ≡ Err TooLarge
unfolding digits_reading
digits_reading-too_large whole fraction h few large = rw h (grind (arith, nat_tests))

pub digits_reading-ok : (whole fraction : List ℕ) → is_digits whole ≡ true → length fraction ≤ 9 → billionths_of whole fraction ≤ 10 ^ 18
    → digits_reading whole fraction ≡ Ok (billionths_of whole fraction)
unfolding digits_reading
digits_reading-ok whole fraction h few small = rw h (grind (arith, nat_tests))

-- where no point stands, the number is whole
pub whole_number : (number : List ℕ) → position_or_len is_point number ≡ length number
    → (whole_of number ≡ number) × (fraction_of number ≡ None)
unfolding whole_of fraction_of
whole_number number none = (rw none (take-length number), rw (none, le-ltb (length number) (length number) (omega arith)) refl)

-- where a point stands, the number is cut there
pub cut_number : (number whole fraction : List ℕ) → position_or_len is_point number < length number
    → whole ≡ before_first is_point number → fraction ≡ after_first is_point number
    → (whole_of number ≡ whole) × (fraction_of number ≡ Some fraction)
unfolding whole_of fraction_of
cut_number number whole fraction within w f = (sym w, rw (lt-ltb _ _ within, f) refl)

-- a number without a point is read as its digits
pub size_reading-whole : (number : List ℕ) → (whole_of number ≡ number) × (fraction_of number ≡ None)
    → size_reading number ≡ digits_reading number []
unfolding size_reading digits_reading
size_reading-whole number (w, f) = rw (w, f, and-true (is_digits number)) refl

-- a number with a point is read as its digits
pub size_reading-parts : (number whole fraction : List ℕ) → (whole_of number ≡ whole) × (fraction_of number ≡ Some fraction)
    → is_digits fraction ≡ true → size_reading number ≡ digits_reading whole fraction
unfolding size_reading digits_reading
size_reading-parts number whole fraction (w, f) digits = rw (w, f, digits, and-true (is_digits whole)) refl

-- what stands after the point has to be digits
pub size_reading-not_number : (number whole fraction : List ℕ) → (whole_of number ≡ whole) × (fraction_of number ≡ Some fraction)
    → is_digits fraction ≡ false → size_reading number ≡ Err NotNumber
unfolding size_reading
size_reading-not_number number whole fraction (w, f) none = rw (w, f, none, and-false (is_digits whole)) refl

-- a number after a minus is read with its sign
pub reading_of-minus : (text number : List ℕ) → text ≡ 45 ∷ number → reading_of text ≡ reading_with_sign true (size_reading number)
unfolding reading_of
reading_of-minus text number e = rw e refl

-- a text with no minus in front is read without a sign
pub reading_of-plain : (text : List ℕ) → ((number : List ℕ) → text ≢ 45 ∷ number) → reading_of text ≡ reading_with_sign false (size_reading text)
unfolding reading_of
reading_of-plain [] none = refl
reading_of-plain (b ∷ bs) none = rw (ne_eqb b 45 (λ e. none bs (ap (λ x. x ∷ bs) e))) refl
