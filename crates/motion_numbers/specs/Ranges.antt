-- The ranges of places, ways and steps. This project's profile.
use Rattle.std.specs.Prelude.{Bool, ◌||◌, int_lt, ℤ, ◌≤◌, unsigned_abs}
use Rattle.motion_numbers.specs.declared.TheConstants.{MOST_PLACE, MOST_STEP, MOST_WAY}

-- z lies in the range of places
abbrev pub IsPlace : ℤ → Type 0
IsPlace z = unsigned_abs z ≤ MOST_PLACE

-- z lies in the range of ways between two places
abbrev pub IsWay : ℤ → Type 0
IsWay z = unsigned_abs z ≤ MOST_WAY

-- z lies in the range of steps, in either direction
abbrev pub IsStep : ℤ → Type 0
IsStep z = unsigned_abs z ≤ MOST_STEP

-- whether z lies outside two numbers
abbrev pub is_outside : ℤ → ℤ → ℤ → Bool
is_outside low z high = int_lt z low || int_lt high z
