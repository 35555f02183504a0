-- Numbers and points in words. This project's profile.
use Rattle.std.specs.Prelude.{ℕ, ◌+◌, ℤ, Bool, ◌&&◌, ◌==◌, nat_le, if◌then◌else◌, Option, Some, None, option_and_then, List, length, take, drop}
use Rattle.std.specs.List.{position}
use Rattle.std.specs.Str.Parse.{digits_value}
use Rattle.fixed_units.specs.Numbers.{is_digits, is_negative, with_sign, without_minus}

infixl 10 ◌>>=◌
-- what comes of the second step where the first has an answer
abbrev pub ◌>>=◌ : {A B : Type 0} → Option A → (A → Option B) → Option B
answer >>= next = option_and_then next answer

-- the size of a number: 1 to 19 digits, at most 10^18
unfoldable pub size_of : List ℕ → Option ℕ
size_of digits =
    if is_digits digits && nat_le (length digits) 19 &&
    nat_le (digits_value 10 digits) 1000000000000000000
    then Some (digits_value 10 digits) else None

-- a number: its size, after a minus where it is negative
unfoldable pub number_of : List ℕ → Option ℤ
number_of word =
    size_of (without_minus word) >>= λ size. Some (with_sign (is_negative word) size)

-- a colon stands between the coordinates of a point
abbrev pub is_colon : ℕ → Bool
is_colon b = b == 58

-- a point X:Y: the numbers before its first colon and after it
unfoldable pub point_of : List ℕ → Option (ℤ × ℤ)
point_of word =
    position is_colon word >>= λ colon. number_of (take colon word) >>= λ x.
    number_of (drop (colon + 1) word) >>= λ y. Some (x, y)
