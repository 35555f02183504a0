-- Words without where they lie in memory, and what they say.
use Rattle.std.specs.Prelude.{ℕ, Bool, List, map}
use Rattle.std.specs.Str.{bytes_eq}
use Rattle.std.specs.Borrow.{Bor}

-- the words that the references show
abbrev pub texts : List (Bor (List ℕ)) → List (List ℕ)
texts words = map (λ w. w.now) words

-- whether a word is this text
unfoldable pub says : List ℕ → List ℕ → Bool
says word text = bytes_eq word text
