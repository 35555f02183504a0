-- Texts of digits, their numbers, and how large these can be.
-- for: read_units, write_units
use Rattle.std.proofs.Common.{◌≡◌, ℕ, suc, ◌+◌, ◌-◌, ◌*◌, ◌^◌, ◌<◌, ◌≤◌, zero, true, List, length, take, get_or, sym, ap, ◌∙◌, arith, rules, add-one}
use Rattle.std.proofs.Math.Nat.{pow-suc, mul-lt-mul_of_pos_right}
use Rattle.std.proofs.lemmas.Nat.{pow-add}
use Rattle.std.proofs.lemmas.Int.Digits.{digits_value_more}
use Rattle.std.proofs.lemmas.Str.{digit_value_digit}
use Rattle.std.proofs.lemmas.Str.Parse.{IsDigitsTest, IsNumeralModel, numerals_by_value, digit_at}
use Rattle.std.specs.Char.{is_ascii_digit}
use Rattle.std.specs.Int.{IsInRange}
use Rattle.std.specs.List.{list_all}
use Rattle.std.specs.Str.Parse.{digits_value}

-- the text has digits alone
abbrev pub AreDigits : List ℕ → Type 0
AreDigits ds = list_all is_ascii_digit ds ≡ true

digits_test : IsDigitsTest AreDigits
digits_test = search rules

-- the test and the value are those of std's numerals
pub numerals : IsNumeralModel AreDigits (digits_value 10)
numerals = numerals_by_value AreDigits digits_test

-- one digit more
pub digits_value-next : (bs : List ℕ) (i : ℕ) → AreDigits bs → i < length bs
    → (digits_value 10 (take (i + 1) bs) ≡ digits_value 10 (take i bs) * 10 + (get_or bs i 0 - 48)) × IsInRange 48 57 (get_or bs i 0)
digits_value-next bs i digits within =
    let range : IsInRange 48 57 (get_or bs i 0) = digit_at bs i (numerals.to bs digits) within in
    (omega (arith, digits_value_more 10 bs i within, digit_value_digit (get_or bs i 0) range), range)

-- a power of ten has one zero more
pub pow-more : (i : ℕ) → 10 ^ (i + 1) ≡ 10 ^ i * 10
pow-more i = rw (add-one i) (pow-suc 10 i)

-- a power of ten is at least one
pub pow-positive : (i : ℕ) → 0 < 10 ^ i
pow-positive zero = omega arith
pow-positive (suc i) = omega (arith, pow-suc 10 i, pow-positive i)

-- a number of this many places, filled up with zeros to more
pub scaled-lt : (most n places : ℕ) → places ≤ most → n < 10 ^ places → n * 10 ^ (most - places) < 10 ^ most
scaled-lt most n places few small =
    let e : places + (most - places) ≡ most = omega arith in
    let p : 10 ^ most ≡ 10 ^ places * 10 ^ (most - places) = ap (λ k. 10 ^ k) (sym e) ∙ pow-add 10 places (most - places) in
    rw p (mul-lt-mul_of_pos_right small (pow-positive (most - places)))
