-- Comments. IEC 61131-3: they are not nested.
use Rattle.std.specs.Prelude.{ℕ, suc, ◌==◌, ◌&&◌, Bool, false, if◌then◌else◌, Option, Some, None, List, [], ◌∷◌}
use Rattle.std.specs.Option.{option_map}

-- how many bytes there are up to the first `*)` and with it, where a star stands in front or none
abbrev pub length_behind : Bool → List ℕ → Option ℕ
length_behind star [] = None
length_behind star (b ∷ bytes) =
    if star && (b == 41) then Some 1 else option_map suc (length_behind (b == 42) bytes)

-- how many there are up to the end of a comment, and with it
abbrev pub comment_length : List ℕ → Option ℕ
comment_length bytes = length_behind false bytes
