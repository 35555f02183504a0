-- The first record that differs. This project's profile.
use Rattle.std.specs.Prelude.{ℕ, ◌+◌, if◌then◌else◌, Option, Some, None, List, ◌∷◌}
use Rattle.trace_text.specs.reading.Reading.{are_same}
use Rattle.trace_text.specs.Records.{padded}
use Rattle.trace_check.specs.declared.difference.Difference.{Difference}

-- the first of the records expected and found, counted on from a place, that are not the same
abbrev pub first_difference : ℕ → List (List (List ℕ)) → List (List (List ℕ)) → Option Difference
first_difference place (x ∷ xs) (y ∷ ys) =
    if are_same (padded x) (padded y) then first_difference (place + 1) xs ys
    else Some (record { place = place; expected = padded x; found = padded y })
first_difference place _ _ = None
