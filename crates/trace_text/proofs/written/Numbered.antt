-- Texts that are written one after the other.
-- for: write_trace
use Rattle.std.specs.Prelude.{◌≡◌, refl, ℕ, zero, suc, ◌+◌, ◌<◌, Option, List, [], ◌∷◌, ◌++◌, take, drop, length, slice_get, slice_index_or}
use Rattle.std.specs.List.{flat_map}
use Rattle.std.specs.Option.{option_to_list}
use Rattle.std.specs.Io.KnownBytes.{Appends}
use Rattle.std.proofs.Common.{◌∙◌, ap, arith, add-one}
use Rattle.std.proofs.KnownBytes.{Appends-trans}
use Rattle.std.proofs.lemmas.Grind.{flat_map-append}
use Rattle.trace_text.specs.Records.{record_text}
use Rattle.trace_text.specs.Trace.{numbered, text_of}
use Rattle.trace_text.proofs.written.Texts.{text_of-more}

numbered-suc : {X : Type 0} (f : ℕ → X → List (List ℕ)) (n : ℕ) (xs : List X) (i k : ℕ) (d : X) → i < length xs → k ≡ n + i →
    numbered f n (take (suc i) xs) ≡ numbered f n (take i xs) ++ f k (slice_index_or xs i d) ∷ []
numbered-suc f n [] i k d l e = absurd (omega arith)
numbered-suc f n (x ∷ xs) zero k d l e = let same : n ≡ k = omega arith in ap (λ m. f m x ∷ []) same
numbered-suc f n (x ∷ xs) (suc i) k d l e =
    ap (λ t. f n x ∷ t) (numbered-suc f (suc n) xs i k d (omega arith) (omega arith))

-- one more record of those by their numbers, appended
pub numbered-appended : {X : Type 0} (f : ℕ → X → List (List ℕ)) (xs : List X) (i : ℕ) (d : X) (a b c : Option (List ℕ)) → i < length xs →
    Appends a b (text_of (numbered f 0 (take i xs))) → Appends b c (record_text (f i (slice_index_or xs i d))) →
    Appends a c (text_of (numbered f 0 (take (i + 1) xs)))
numbered-appended f xs i d a b c l p q =
    let e : text_of (numbered f 0 (take (i + 1) xs)) ≡ text_of (numbered f 0 (take i xs)) ++ record_text (f i (slice_index_or xs i d)) =
    ap text_of (rw add-one (numbered-suc f 0 xs i i d l (omega arith))) ∙ text_of-more (numbered f 0 (take i xs)) (f i (slice_index_or xs i d)) in
    rw e (Appends-trans a b c _ _ p q)

take_next : {X : Type 0} (xs : List X) (i : ℕ) → take (suc i) xs ≡ take i xs ++ option_to_list (slice_get xs i)
take_next [] zero = refl
take_next [] (suc i) = refl
take_next (x ∷ xs) zero = refl
take_next (x ∷ xs) (suc i) = ap (λ t. x ∷ t) (take_next xs i)

get_behind : {X : Type 0} (xs : List X) (from i k : ℕ) → k ≡ from + i → slice_get (drop from xs) i ≡ slice_get xs k
get_behind xs zero i k e = let same : i ≡ k = omega arith in ap (slice_get xs) same
get_behind [] (suc from) i k e = refl
get_behind (x ∷ xs) (suc from) i zero e = absurd (omega arith)
get_behind (x ∷ xs) (suc from) i (suc k) e = get_behind xs from i k (omega arith)

-- one more text of a list from a place on, appended
pub from-appended : {X : Type 0} (f : X → List ℕ) (xs : List X) (from i : ℕ) (a b c : Option (List ℕ)) →
    Appends a b (flat_map f (take i (drop from xs))) → Appends b c (flat_map f (option_to_list (slice_get xs (from + i)))) →
    Appends a c (flat_map f (take (i + 1) (drop from xs)))
from-appended f xs from i a b c p q =
    let e : take (i + 1) (drop from xs) ≡ take i (drop from xs) ++ option_to_list (slice_get xs (from + i)) =
    rw add-one (take_next (drop from xs) i ∙ ap (λ o. take i (drop from xs) ++ option_to_list o) (get_behind xs from i (from + i) refl)) in
    rw (e, flat_map-append f) (Appends-trans a b c _ _ p q)
