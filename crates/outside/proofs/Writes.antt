-- Pieces that are appended one after the other.
-- for: write_all
use Rattle.std.proofs.Common.{ℕ, ◌+◌, ◌-◌, List, length, take, drop, Option}
use Rattle.std.proofs.Math.Seq.{take-add}
use Rattle.std.proofs.lemmas.List.{take_rest}
use Rattle.std.proofs.KnownBytes.{Appends-trans}
use Rattle.std.specs.Io.KnownBytes.{Appends}

-- i bytes were appended, and then n bytes of the rest
pub Appends-more : (a b c : Option (List ℕ)) (xs : List ℕ) (i n : ℕ)
    → Appends a b (take i xs) → Appends b c (take n (take (length xs - i) (drop i xs))) → Appends a c (take (i + n) xs)
Appends-more a b c xs i n first more =
    let more_of_rest = rw (take_rest xs i) at more in
    rw (take-add i n xs) (Appends-trans a b c (take i xs) (take n (drop i xs)) first more_of_rest)
