-- The words of a call of the program, as texts.
use Rattle.std.specs.Prelude.{ℕ, List, map}
use Rattle.std.specs.String.{string_bytes}
use Rattle.command_words.specs.declared.words.Words.TheInside.{Inside}

-- the texts of the words
abbrev pub texts_of : Inside → List (List ℕ)
texts_of w = map string_bytes w.texts.items
