-- The bytes and the words of a line. This project's profile.
use Rattle.std.specs.Prelude.{ℕ, Bool, not, ◌&&◌, ◌||◌, ◌==◌, nat_le, List, length}
use Rattle.std.specs.List.{before_first, filter, list_all, slice_split}

-- a space, a tab or a CR stands between words
abbrev pub is_blank : ℕ → Bool
is_blank b = (b == 32) || (b == 9) || (b == 13)

-- a `#` begins a comment, also inside a word
abbrev pub is_comment : ℕ → Bool
is_comment b = b == 35

-- a line has tabs, CRs and the bytes from space to `~`
abbrev pub is_line_byte : ℕ → Bool
is_line_byte b = (b == 9) || (b == 13) || (nat_le 32 b && nat_le b 126)

-- a line is clean: it has no other byte, in its comment either
unfoldable pub is_clean : List ℕ → Bool
is_clean line = list_all is_line_byte line

-- a word has a byte
abbrev pub is_word : List ℕ → Bool
is_word part = not (length part == 0)

-- the words of a line: what stands between blanks before its comment
unfoldable pub words_of : List ℕ → List (List ℕ)
words_of line = filter is_word (slice_split is_blank (before_first is_comment line))
