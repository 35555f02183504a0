-- The first byte that passes a test stands at the test's position.
-- for: read_lines
use Rattle.std.proofs.Common.{◌≡◌, ℕ, Bool, true, false, List, Option, Some, None, length, refl, arith}
use Rattle.std.specs.Prelude.{nat_lt}
use Rattle.std.specs.List.{position, position_or_len}
use Rattle.std.proofs.lemmas.Bool.{false_from_ne_true, le-ltb, lt-ltb}
use Rattle.std.proofs.lemmas.List.Sums.{position_or_len_is}
use Rattle.memchr.specs.Find.{IsFirstByte}

-- where it stands
pub position-first : (test : ℕ → Bool) (hay : List ℕ) (r : Option ℕ) → IsFirstByte test hay r → r ≡ position test hay
position-first test hay None nowhere =
    let at = position_or_len_is test hay (length hay) 0 (omega arith) (λ k below. false_from_ne_true _ (nowhere k (omega arith) below)) (λ within. absurd (omega arith)) in
    let outside : nat_lt (position_or_len test hay) (length hay) ≡ false = le-ltb _ _ (omega (arith, at)) in
    rw outside refl
position-first test hay (Some k) found =
    let at : position_or_len test hay ≡ k = position_or_len_is test hay k 0 (omega (arith, found.0.high)) (λ j below. false_from_ne_true _ (found.0.before j (omega arith) below)) (λ within. found.1) in
    let within : nat_lt k (length hay) ≡ true = lt-ltb _ _ found.0.high in
    rw (at, within) refl
