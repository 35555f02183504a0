-- Bits of the words that a drive and its controller exchange.
use Rattle.std.specs.Prelude.{ℕ, ◌+◌, Bool, true, ◌==◌, ◌&&◌, ◌||◌, List, [], ◌∷◌, length}
use Rattle.std.specs.Int.{bit_at}

-- a bit is as a letter of a pattern asks: 0, 1, or x where it is free. IEC 61800-7-201, the coding
-- of object 6041h
abbrev pub is_marked : ℕ → ℕ → Bool
is_marked bit letter = (letter == 120) || ((48 + bit) == letter)

-- the lower bits of a word are as the letters of a pattern ask, the highest first. IEC 61800-7-201,
-- the coding of object 6041h
abbrev pub fits : ℕ → List ℕ → Bool
fits word [] = true
fits word (letter ∷ letters) = is_marked (bit_at word (length letters)) letter && fits word letters
