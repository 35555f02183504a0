-- Names. IEC 61131-3: no case of letters counts. Their length is this project's.
use Rattle.std.specs.Prelude.{ℕ, Bool, false, ◌&&◌, nat_lt, List, [], ◌∷◌, length}
use Rattle.std.specs.List.{list_all}
use Rattle.std.specs.Str.{str_eq_ignore_ascii_case}
use Rattle.iec_tokens.specs.Bytes.{begins_word, is_name_byte}

-- a letter or a `_`, and up to 31 letters, digits or `_`
abbrev pub is_name : List ℕ → Bool
is_name [] = false
is_name (b ∷ bs) = begins_word b && nat_lt (length bs) 32 && list_all is_name_byte bs

-- two names are the same, in any case of letters
unfoldable pub is_same : List ℕ → List ℕ → Bool
is_same name other = str_eq_ignore_ascii_case name other
