-- The numbers of a bench or a program. This project's profile.
use Rattle.std.specs.Prelude.{ℕ, ℤ, Result, List}
use Rattle.std.specs.Option.{ok_or}
use Rattle.line_text.specs.Numbers.{number_of}
use Rattle.machine_words.specs.RuleNumbers.{no_value}

-- a word that is no number breaks its rule
unfoldable pub number : List ℕ → Result ℤ ℕ
number word = ok_or (number_of word) no_value
