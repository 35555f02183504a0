-- The lines of a text. This project's profile.
use Rattle.std.specs.Prelude.{ℕ, ◌==◌, Bool, List, [], ◌∷◌, if◌then◌else◌, length, max}
use Rattle.std.specs.List.{slice_split}

-- LF ends a line
abbrev pub is_end : ℕ → Bool
is_end b = b == 10

-- the parts, but for an empty one at the end
abbrev pub without_empty_end : List (List ℕ) → List (List ℕ)
without_empty_end [] = []
without_empty_end (part ∷ []) = if length part == 0 then [] else part ∷ []
without_empty_end (part ∷ next ∷ parts) = part ∷ without_empty_end (next ∷ parts)

-- the lines of a text: what stands between its LFs; an LF at the end begins no further line
unfoldable pub lines_of : List ℕ → List (List ℕ)
lines_of text = without_empty_end (slice_split is_end text)

-- the number of the last line, which is 1 in an empty text
abbrev pub last_line_of : List ℕ → ℕ
last_line_of text = max 1 (length (lines_of text))
