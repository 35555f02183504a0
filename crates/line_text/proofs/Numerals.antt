-- Texts of digits, byte by byte.
-- for: value_of
use Rattle.std.proofs.Common.{◌≡◌, ℕ, ◌+◌, ◌-◌, ◌*◌, ◌^◌, ◌<◌, true, List, length, take, get_or, refl, arith}
use Rattle.std.specs.Char.{is_ascii_digit}
use Rattle.std.specs.Int.{IsInRange}
use Rattle.std.specs.List.{list_all}
use Rattle.std.specs.Str.Parse.{digits_value}
use Rattle.std.proofs.lemmas.Bool.{and_parts, leb-true}
use Rattle.std.proofs.lemmas.Int.Digits.{digits_value_more}
use Rattle.std.proofs.lemmas.List.Folds.{list_all_more}
use Rattle.std.proofs.lemmas.Str.{digit_value_digit}
use Rattle.fixed_units.proofs.Digits.{pow-more}

-- the bytes so far are digits, and the number is theirs and has room for one more
pub record IsRead (bytes : List ℕ) (i number : ℕ) : Type 0 where
  pub digits : list_all is_ascii_digit (take i bytes) ≡ true
  pub value : number ≡ digits_value 10 (take i bytes)
  pub small : number < 10 ^ i

-- the range of a digit
pub digit-range : (b : ℕ) → is_ascii_digit b ≡ true → IsInRange 48 57 b
digit-range b digit = let parts = and_parts _ _ digit in (leb-true _ _ parts.0, leb-true _ _ parts.1)

-- one byte more
pub read-more : (bytes : List ℕ) (i number : ℕ) → IsRead bytes i number → i < length bytes → is_ascii_digit (get_or bytes i 0) ≡ true → IsRead bytes (i + 1) (number * 10 + (get_or bytes i 0 - 48))
read-more bytes i number is within digit =
    let range = digit-range (get_or bytes i 0) digit in
    record {
      digits = rw (list_all_more is_ascii_digit bytes i 0 within, is.digits, digit) refl;
      value = omega (arith, is.value, digits_value_more 10 bytes i within, digit_value_digit (get_or bytes i 0) range);
      small = omega (arith, is.small, range, pow-more i);
    }
