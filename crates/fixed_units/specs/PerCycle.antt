-- Rates per second as steps per cycle, rounded down in size.
use Rattle.std.specs.Prelude.{ℕ, ◌*◌, ◌/◌, ◌^◌, ℤ, pos, int_lt, unsigned_abs}
use Rattle.fixed_units.specs.Numbers.{with_sign}

-- the number of this size with the sign of another
abbrev pub signed_as : ℤ → ℕ → ℤ
signed_as other size = with_sign (int_lt other (pos 0)) size

-- what a value per second makes in a cycle of this many microseconds; this project's profile
abbrev pub per_cycle_of : ℤ → ℕ → ℤ
per_cycle_of value cycle_us = signed_as value (unsigned_abs value * cycle_us / 10 ^ 6)

-- what a value per second squared makes in a cycle, per cycle; this project's profile
abbrev pub per_cycle_squared_of : ℤ → ℕ → ℤ
per_cycle_squared_of value cycle_us =
    signed_as value (unsigned_abs value * (cycle_us * cycle_us) / 10 ^ 12)

-- what a value per second cubed makes in a cycle, per cycle squared; this project's profile
abbrev pub per_cycle_cubed_of : ℤ → ℕ → ℤ
per_cycle_cubed_of value cycle_us =
    signed_as value (unsigned_abs value * (cycle_us * cycle_us * cycle_us) / 10 ^ 18)
