-- Plain words as texts.
use Rattle.std.proofs.Common.{◌≡◌, ℕ, List, map, Global}
use Rattle.std.specs.List.{list_all}
use Rattle.std.specs.String.{string_bytes}
use Rattle.std.specs.declared.string.String.{String}
use Rattle.std.proofs.lemmas.List.Folds.{list_all-map}
use Rattle.clap.specs.Words.{first_of, first_value, rows_of}
use Rattle.clap.specs.declared.parser.matches.Found.{Found}
use Rattle.clap.proofs.WalkLemmas.{first_value-rows}
use Rattle.command_words.specs.Requests.{is_plain}

-- the words of texts are plain where each text is
pub are_plain : (texts : List (String Global)) →
    list_all is_plain (map string_bytes texts)
    ≡ list_all (λ text. is_plain (string_bytes text)) texts
are_plain texts = list_all-map is_plain (string_bytes {Z = Global}) texts

-- the first text of an operand, as its row has it
pub in_row : (found : Found) (id : List ℕ) → first_value found id ≡ first_of id (rows_of found)
in_row found id = first_value-rows found id
