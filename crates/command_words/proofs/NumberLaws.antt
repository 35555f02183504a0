-- Digits as the number that they write.
-- for: asked
use Rattle.std.proofs.Common.{◌≡◌, ℕ, true, ◌<◌, ◌≤◌, ◌^◌, List, length, Result, Err, rules, inl, inr, arith, ap, Option, Some, None, MatchOption}
use Rattle.std.specs.Char.{is_ascii_digit}
use Rattle.std.specs.List.{list_all}
use Rattle.std.specs.Str.Parse.{ParsesUnsigned, digits_value}
use Rattle.std.proofs.lemmas.Bool.{and_parts, cases_lt, leb-true, ltb-true}
use Rattle.std.proofs.lemmas.Str.Parse.{IsDigitsTest, IsNumeralModel, digits_value_short, numerals_by_value, parse_digits}
use Rattle.command_words.specs.Numbers.{is_number}
use Rattle.fixed_units.specs.Numbers.{is_digits}

-- each byte is a decimal digit
abbrev pub AreDigits : List ℕ → Type 0
AreDigits ds = list_all is_ascii_digit ds ≡ true

digits_test : IsDigitsTest AreDigits
digits_test = search rules

-- the test and the value are those of std's numerals
numerals : IsNumeralModel AreDigits (digits_value 10)
numerals = numerals_by_value AreDigits digits_test

digits_parts : (ds : List ℕ) → is_digits ds ≡ true → (0 < length ds) × AreDigits ds
digits_parts ds h = let (some, digits) = and_parts _ _ h in (ltb-true _ _ some, digits)

-- digits that weren't parsed have a number beyond 32 bits
pub digits-beyond : {E : Type 0} (ds : List ℕ) (r : Result ℕ E) (error : E) → is_digits ds ≡ true →
    ParsesUnsigned 32 10 ds r → r ≡ Err error → 2 ^ 32 ≤ digits_value 10 ds
digits-beyond ds r error h parses err =
    let (some, digits) = digits_parts ds h in
    let refused = rw err at (parse_digits numerals 32 ds r parses digits) in
    elim (cases_lt (digits_value 10 ds) (2 ^ 32))
    [ inl small ↦ absurd (refused (some, small)) | inr large ↦ large ]

-- at most seven digits have a number of 32 bits
pub seven-digits : (ds : List ℕ) → is_digits ds ≡ true → length ds ≤ 7 →
    2 ^ 32 ≤ digits_value 10 ds → ⊥
seven-digits ds h few large =
    let small : digits_value 10 ds < 10 ^ 7 =
    digits_value_short numerals ds 7 (digits_parts ds h).1 few in
    omega (arith, large, small)

-- so they have that number
pub short-value : (ds : List ℕ) (r : Option ℕ) → is_number 7 ds ≡ true →
    MatchOption r (2 ^ 32 ≤ digits_value 10 ds) (λ n. n ≡ digits_value 10 ds) →
    r ≡ Some (digits_value 10 ds)
short-value ds None h large =
    let (digits, few) = and_parts _ _ h in
    absurd (seven-digits ds digits (leb-true _ _ few) large)
short-value ds (Some n) h same = ap Some same
