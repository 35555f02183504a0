-- How a record is spelled: a line of fields. This project's profile.
use Rattle.std.specs.Prelude.{ℕ, List, [], ◌∷◌, ◌++◌}
use Rattle.std.specs.List.{flat_map}

-- fields, each after a comma
unfoldable pub fields_text : List (List ℕ) → List ℕ
fields_text fields = flat_map (λ field. 44 ∷ field) fields

-- the line of a record: its kind, its fields, and a line feed
unfoldable pub line_of : List (List ℕ) → List ℕ
line_of [] = 10 ∷ []
line_of (kind ∷ fields) = kind ++ (fields_text fields ++ 10 ∷ [])
