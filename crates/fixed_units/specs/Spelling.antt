-- How internal units are written.
use Rattle.std.specs.Prelude.{ℕ, zero, suc, ◌+◌, ◌/◌, ◌%◌, ◌^◌, ◌==◌, if◌then◌else◌, Bool, true, false, List, [], ◌∷◌, ◌++◌, ℤ, pos, unsigned_abs, int_lt, decimal}

-- the last digits of a number, this many of them
unfoldable pub last_digits : ℕ → ℕ → List ℕ
last_digits zero n = []
last_digits (suc places) n = last_digits places (n / 10) ++ (48 + n % 10) ∷ []

-- a digit before others, but for a zero before none
abbrev pub before_digits : ℕ → List ℕ → List ℕ
before_digits d [] = if d == 48 then [] else d ∷ []
before_digits d (e ∷ es) = d ∷ e ∷ es

-- the digits without the zeros at their end
unfoldable pub without_end_zeros : List ℕ → List ℕ
without_end_zeros [] = []
without_end_zeros (d ∷ ds) = before_digits d (without_end_zeros ds)

-- billionths below one: nothing, or a point and the places that are needed; this project's profile
unfoldable pub fraction_text : ℕ → List ℕ
fraction_text billionths =
    if billionths == 0 then [] else 46 ∷ without_end_zeros (last_digits 9 billionths)

-- a minus, or nothing
abbrev pub sign_text : Bool → List ℕ
sign_text true = 45 ∷ []
sign_text false = []

-- internal units as a number of user units; this project's profile
unfoldable pub units_text : ℤ → List ℕ
units_text units =
    let size = unsigned_abs units in
    sign_text (int_lt units (pos 0)) ++ decimal (size / 10 ^ 9) ++ fraction_text (size % 10 ^ 9)
