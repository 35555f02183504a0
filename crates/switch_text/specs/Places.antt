-- The numbers of a switch. This project's profile.
use Rattle.std.specs.Prelude.{ℕ, Option, Some, List}
use Rattle.line_text.specs.Numbers.{◌>>=◌, number_of}
use Rattle.switch_text.specs.declared.reader.Places.{Places}

-- `ON OFF HYST`, which are numbers
unfoldable pub places_of : List ℕ → List ℕ → List ℕ → Option Places
places_of first last inside =
    number_of first >>= λ on. number_of last >>= λ off. number_of inside >>= λ hyst.
    Some (record { on = on; off = off; hyst = hyst })
