-- How digits are written, and the numbers that they write. IEC 61131-3: a `_` may stand between
-- two digits.
use Rattle.std.specs.Prelude.{ℕ, suc, ◌+◌, ◌-◌, ◌*◌, ◌^◌, ◌==◌, nat_le, min, Bool, false, ◌&&◌, ◌||◌, if◌then◌else◌, List, [], ◌∷◌, take}
use Rattle.iec_tokens.specs.Bytes.{is_digit}
use Rattle.iec_tokens.specs.declared.digits.Radix.{Radix}
use Rattle.iec_tokens.specs.declared.digits.Radix.TheVariants.{Decimal, Hexadecimal}

-- the digits of each radix
abbrev pub is_digit_of : Radix → ℕ → Bool
is_digit_of Decimal b = is_digit b
is_digit_of Hexadecimal b =
    is_digit b || (nat_le 65 b && nat_le b 70) || (nat_le 97 b && nat_le b 102)

-- a text begins with a digit
abbrev pub begins : Radix → List ℕ → Bool
begins radix [] = false
begins radix (b ∷ text) = is_digit_of radix b

-- how many bytes at the front are digits, or a `_` before a digit
abbrev pub run_length : Radix → List ℕ → ℕ
run_length radix [] = 0
run_length radix (b ∷ text) =
    if is_digit_of radix b || ((b == 95) && begins radix text) then suc (run_length radix text)
    else 0

-- the digits at the front, with each `_` between two
unfoldable pub digits_at : Radix → List ℕ → List ℕ
digits_at radix text = if begins radix text then take (run_length radix text) text else []

-- the value of a digit
abbrev pub value_of_digit : ℕ → ℕ
value_of_digit b = if nat_le b 57 then b - 48 else if nat_le b 70 then b - 55 else b - 87

-- ten and sixteen
abbrev pub base_of : Radix → ℕ
base_of Decimal = 10
base_of Hexadecimal = 16

-- a number with one more digit, as a `_` is none
abbrev pub with_digit : ℕ → ℕ → ℕ → ℕ
with_digit base n b = if b == 95 then n else n * base + value_of_digit b

-- the number that digits write after those of n
abbrev pub value_behind : ℕ → ℕ → List ℕ → ℕ
value_behind base n [] = n
value_behind base n (b ∷ digits) = value_behind base (with_digit base n b) digits

-- the number that digits write, or 10^16 for each that is above, as no number may be
unfoldable pub size_of : Radix → List ℕ → ℕ
size_of radix digits = min (value_behind (base_of radix) 0 digits) (10 ^ 16)

-- how many digits there are
abbrev pub count_of : List ℕ → ℕ
count_of [] = 0
count_of (b ∷ digits) = if b == 95 then count_of digits else suc (count_of digits)
