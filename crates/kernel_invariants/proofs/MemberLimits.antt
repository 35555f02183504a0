-- The limits of a group's axes, one after another.
-- for: is_machine_kept
use Rattle.std.specs.Prelude.{◌≡◌, ℕ, zero, suc, ◌+◌, ◌<◌, List, [], ◌∷◌, length, map, slice_index_or, slice_set, take}
use Rattle.std.proofs.Common.{arith, ap}
use Rattle.plc_types.specs.declared.limits.Limits.{Limits}

next : (f : ℕ → Limits) (ls : List Limits) (ms : List ℕ) (i : ℕ) (x : Limits) → i < length ls → i < length ms →
    take i ls ≡ map f (take i ms) → x ≡ f (slice_index_or ms i 0) → take (suc i) (slice_set ls i x) ≡ map f (take (suc i) ms)
next f [] ms i x l b before is = absurd (omega arith)
next f (y ∷ ls) [] i x l b before is = absurd (omega arith)
next f (y ∷ ls) (m ∷ ms) zero x l b before is = ap (λ z. z ∷ []) is
next f (y ∷ ls) (m ∷ ms) (suc i) x l b before is =
    let head : y ≡ f m = cc in
    let behind : take i ls ≡ map f (take i ms) = cc in
    let more = next f ls ms i x (omega arith) (omega arith) behind is in
    λ j. head j ∷ more j

-- the limits of one axis more
pub one_more : (f : ℕ → Limits) (ls : List Limits) (ms : List ℕ) (i : ℕ) (x : Limits) → i < length ls → i < length ms →
    take i ls ≡ map f (take i ms) → x ≡ f (slice_index_or ms i 0) → take (i + 1) (slice_set ls i x) ≡ map f (take (i + 1) ms)
one_more f ls ms i x l b before is =
    let same : i + 1 ≡ suc i = omega arith in
    rw same (next f ls ms i x l b before is)
