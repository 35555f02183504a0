-- Parts that are joined.
-- for: write_trace
use Rattle.std.specs.Prelude.{◌≡◌, refl, ℕ, zero, suc, ◌+◌, ◌<◌, ◌==◌, if◌then◌else◌, List, [], ◌∷◌, ◌++◌, length, map, slice_index_or, take}
use Rattle.std.specs.List.{join_with_byte}
use Rattle.std.proofs.Common.{◌∙◌, sym, ap, arith, add-one, append_assoc}
use Rattle.std.proofs.lemmas.Bool.{ne_eqb}

-- what stands before one more part
abbrev pub between : ℕ → ℕ → List ℕ
between c before = if before == 0 then [] else c ∷ []

join-suc : {X : Type 0} (c : ℕ) (f : X → List ℕ) (xs : List X) (i : ℕ) (d : X) → i < length xs →
    join_with_byte c (map f (take (suc i) xs)) ≡ join_with_byte c (map f (take i xs)) ++ (between c i ++ f (slice_index_or xs i d))
join-suc c f [] i d l = absurd (omega arith)
join-suc c f (x ∷ xs) zero d l = refl
join-suc c f (x ∷ y ∷ xs) (suc zero) d l = refl
join-suc c f (x ∷ []) (suc i) d l = absurd (omega arith)
join-suc c f (x ∷ y ∷ xs) (suc (suc i)) d l =
    let here : between c (suc (suc i)) ≡ between c (suc i) = rw (ne_eqb (suc (suc i)) 0 (λ z. cc z), ne_eqb (suc i) 0 (λ z. cc z)) refl in
    rw here (ap (λ t. f x ++ (c ∷ t)) (join-suc c f (y ∷ xs) (suc i) d (omega arith)) ∙
    sym (append_assoc (f x) (c ∷ join_with_byte c (f y ∷ map f (take i xs))) (between c (suc i) ++ f (slice_index_or xs i d))))

-- one more part
pub join-more : {X : Type 0} (c : ℕ) (f : X → List ℕ) (xs : List X) (i : ℕ) (d : X) (text new part : List ℕ) → i < length xs →
    text ≡ join_with_byte c (map f (take i xs)) → part ≡ f (slice_index_or xs i d) → new ≡ text ++ (between c i ++ part) →
    new ≡ join_with_byte c (map f (take (i + 1) xs))
join-more c f xs i d text new part l p q e = rw (e, p, q, add-one) (sym (join-suc c f xs i d l))

-- three parts one after the other
pub three-parts : (first second third a b c : List ℕ) → third ≡ second ++ c → second ≡ first ++ b → first ≡ a → third ≡ a ++ (b ++ c)
three-parts first second third a b c p q r = p ∙ rw (q, r) (append_assoc a b c)
