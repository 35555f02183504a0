-- How texts spell lines, and lines spell words: a grammar, apart from how they are found. This
-- project's profile.
use Rattle.std.specs.Prelude.{◌≡◌, ◌↔◌, ◌≤◌, ℕ, Bool, not, ◌||◌, List, [], ◌∷◌, ◌++◌, length, IsTrue}
use Rattle.std.specs.List.{list_all}
use Rattle.line_text.specs.Lines.{is_end, lines_of}
use Rattle.line_text.specs.Words.{is_blank, is_comment, words_of}

-- a line has no LF
abbrev pub is_line : List ℕ → Bool
is_line line = list_all (λ b. not (is_end b)) line

-- a text spells lines: each ends with LF, but the last may lack it where it has a byte
pub data SpellsLines : List ℕ → List (List ℕ) → Type 0 where
  no_line : SpellsLines [] []
  last_line : (line : List ℕ) → IsTrue (is_line line) → 1 ≤ length line →
      SpellsLines line (line ∷ [])
  one_line : (line text : List ℕ) (lines : List (List ℕ)) → IsTrue (is_line line) →
      SpellsLines text lines → SpellsLines (line ++ 10 ∷ text) (line ∷ lines)

-- a byte stands in a word: it is no blank and begins no comment
abbrev pub is_plain : ℕ → Bool
is_plain b = not (is_blank b || is_comment b)

-- a word has bytes that stand in one
pub record IsWord (word : List ℕ) : Type 0 where
  pub some : 1 ≤ length word
  pub plain : IsTrue (list_all is_plain word)

-- a word ends here: at the end of the line, a blank or a comment
abbrev pub EndsWord : List ℕ → Type 0
EndsWord [] = Unit {0}
EndsWord (b ∷ line) = IsTrue (is_blank b || is_comment b)

-- a line spells words: blanks stand before, between and after them, and a comment at the end
pub data SpellsWords : List ℕ → List (List ℕ) → Type 0 where
  nothing : SpellsWords [] []
  comment : (b : ℕ) (line : List ℕ) → IsTrue (is_comment b) → SpellsWords (b ∷ line) []
  blank : (b : ℕ) (line : List ℕ) (words : List (List ℕ)) → IsTrue (is_blank b) →
      SpellsWords line words → SpellsWords (b ∷ line) words
  word : (w line : List ℕ) (words : List (List ℕ)) → IsWord w → EndsWord line →
      SpellsWords line words → SpellsWords (w ++ line) (w ∷ words)

-- what is found is what is spelled: each text spells its lines, each line its words, and no others
pub record AreSpelled : Type 0 where
  pub lines : (text : List ℕ) (lines : List (List ℕ)) →
      SpellsLines text lines ↔ (lines_of text ≡ lines)
  pub words : (line : List ℕ) (words : List (List ℕ)) →
      SpellsWords line words ↔ (words_of line ≡ words)
