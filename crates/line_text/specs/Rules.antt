-- Rules that words break. This project's profile.
use Rattle.std.specs.Prelude.{ℕ, ℤ, pos, int_le, Bool, ◌&&◌, if◌then◌else◌, unsigned_abs, Result, Ok, Err}

-- the rule is broken unless this holds
abbrev pub broken_unless : Bool → ℕ → Result (Unit {0}) ℕ
broken_unless holds rule = if holds then Ok tt else Err rule

-- whether a number lies between two, both included
abbrev pub is_from_to : ℕ → ℕ → ℤ → Bool
is_from_to least most z = int_le (pos least) z && int_le z (pos most)

-- a number outside its range breaks the rule
unfoldable pub in_range : ℕ → ℕ → ℕ → ℤ → Result ℕ ℕ
in_range least most rule z =
    if is_from_to least most z then Ok (unsigned_abs z) else Err rule
