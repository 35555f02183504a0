-- A name that is kept with zeros after it.
-- for: next
use Rattle.std.specs.Prelude.{ℕ, ◌≡◌, ◌≤◌, ◌<◌, ◌-◌, true, nat_lt, List, [], ◌∷◌, take, drop, length, replicate, ◌++◌, IsTrue}
use Rattle.std.proofs.Common.{◌∙◌, ap, arith, rules, length-append}
use Rattle.std.proofs.lemmas.Bool.{ltb-true}
use Rattle.std.proofs.lemmas.List.{drop-replicate, length-replicate}
use Rattle.std.proofs.Math.Seq.{take-append_seam, drop-append_seam}
use Rattle.iec_tokens.specs.Names.{is_name}
use Rattle.iec_tokens.specs.NameBytes.{IsNameBytes}

-- a name has at most 32 bytes
pub is_name-short : (xs : List ℕ) → IsTrue (is_name xs) → length xs ≤ 32
is_name-short [] h = omega arith
is_name-short (b ∷ bs) h =
    let e : nat_lt (length bs) 32 ≡ true = first_of (search rules, grind (arith, rules)) in
    let l : length bs < 32 = ltb-true (length bs) 32 e in
    omega arith

-- bytes that are followed by zeros up to 32 are kept as a name is
IsNameBytes-followed : (xs zeros : List ℕ) → length xs ≤ 32 → IsTrue (is_name xs) → zeros ≡ replicate (32 - length xs) 0 →
    IsNameBytes (record { bytes = xs ++ zeros; len = length xs })
IsNameBytes-followed xs zeros few named e =
    let n : length zeros ≡ 32 - length xs = ap length e ∙ length-replicate (32 - length xs) 0 in
    let kept : take (length xs) (xs ++ zeros) ≡ xs = take-append_seam xs zeros in
    record {
      room = omega (arith, length-append xs zeros);
      few = few;
      named = rw kept named;
      padded = drop-append_seam xs zeros ∙ e;
    }

-- 32 zeros, of which the first are overwritten by a name
pub IsNameBytes-written : (xs ys : List ℕ) → ys ≡ xs → IsTrue (is_name xs) →
    IsNameBytes (record { bytes = ys ++ drop (length xs) (replicate 32 0); len = length xs })
IsNameBytes-written xs ys same named =
    let zeros : drop {A = ℕ} (length xs) (replicate 32 0) ≡ replicate (32 - length xs) 0 = drop-replicate (length xs) 32 0 in
    rw same (IsNameBytes-followed xs _ (is_name-short xs named) named zeros)
