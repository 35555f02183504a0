-- Numbers. This project's profile: a DINT goes up to 2,147,483,647.
use Rattle.std.specs.Prelude.{ℕ, ◌+◌, ◌-◌, ◌*◌, List, [], ◌∷◌, min}

-- the number that the digits write after those of n
abbrev pub value_behind : ℕ → List ℕ → ℕ
value_behind n [] = n
value_behind n (b ∷ digits) = value_behind (n * 10 + (b - 48)) digits

-- the number that digits write, or 2,147,483,648 for each that is above 2,147,483,647
unfoldable pub number_of : List ℕ → ℕ
number_of digits = min (value_behind 0 digits) 2147483648
