-- Positions, one for each axis. This project's profile.
use Rattle.std.specs.Prelude.{ℕ, ◌-◌, ◌==◌, ℤ, pos, Bool, List, ◌++◌, length, replicate}

-- a semicolon stands between the parts of a text
abbrev pub is_semicolon : ℕ → Bool
is_semicolon b = b == 59

-- these positions, and 0 after them
unfoldable pub positions_from : List ℤ → List ℤ
positions_from places = places ++ replicate (6 - length places) (pos 0)

-- positions that are left out
abbrev pub no_positions : List ℤ
no_positions = replicate 6 (pos 0)
