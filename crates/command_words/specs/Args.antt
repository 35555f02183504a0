-- The arguments of the process.
use Rattle.std.specs.Prelude.{ℕ, List, map, drop}
use Rattle.std.specs.String.{string_bytes}
use Rattle.std.specs.Vec.Iter.{into_iter_items}
use Rattle.std.proofs.Common.{Global}
use Rattle.std.specs.declared.string.String.{String}
use Rattle.std.specs.declared.vec.IntoIter.{IntoIter}

-- the words of a call: its arguments after the first, which is the program's name. This project's
-- profile
abbrev pub words_of : IntoIter (String Global) Global → List (List ℕ)
words_of args = drop 1 (map string_bytes (into_iter_items args))
