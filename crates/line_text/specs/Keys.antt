-- Words of the form KEY=VALUE. Keys that are taken in a fixed order, until no word is left, come
-- each at most once and in this order. This project's profile.
use Rattle.std.specs.Prelude.{ℕ, nat_eq, if◌then◌else◌, Option, Some, None, List, [], ◌∷◌, length, drop}
use Rattle.std.specs.List.{starts_with}

-- the value of a key at the front of the words, and the words after it; where the front word is
-- not the key's, there is none, and all the words are left. The key ends in `=`
unfoldable pub value_at : List ℕ → List (List ℕ) → Option (List ℕ) × List (List ℕ)
value_at key [] = (None, [])
value_at key (word ∷ words) =
    if starts_with nat_eq word key then (Some (drop (length key) word), words)
    else (None, word ∷ words)
