-- Records whose fields are written with commas between them.
-- for: push_record
use Rattle.std.specs.Prelude.{◌≡◌, refl, ℕ, zero, suc, ◌+◌, ◌<◌, ◌≤◌, List, [], ◌∷◌, ◌++◌, length, take, slice_index_or}
use Rattle.std.specs.List.{flat_map}
use Rattle.std.proofs.Common.{◌∙◌, ap, arith, sym}
use Rattle.std.proofs.lemmas.List.{append_assoc, append-nil}
use Rattle.trace_jobs.specs.Lines.{joined}

-- a field after a comma
abbrev behind_comma : List ℕ → List ℕ
behind_comma f = 44 ∷ f

fields-more : (fs : List (List ℕ)) (n : ℕ) → n < length fs →
    flat_map behind_comma (take (suc n) fs) ≡
    flat_map behind_comma (take n fs) ++ (44 ∷ slice_index_or fs n [])
fields-more [] n l = absurd (omega arith)
fields-more (f ∷ fs) zero l = append-nil (44 ∷ f)
fields-more (f ∷ fs) (suc n) l =
    ap (λ x. (44 ∷ f) ++ x) (fields-more fs n (omega arith))
    ∙ sym (append_assoc (44 ∷ f) (flat_map behind_comma (take n fs)) (44 ∷ slice_index_or fs n []))

joined-suc : (fs : List (List ℕ)) (n : ℕ) → suc n < length fs →
    joined (take (suc (suc n)) fs) ≡
    joined (take (suc n) fs) ++ (44 ∷ slice_index_or fs (suc n) [])
joined-suc [] n l = absurd (omega arith)
joined-suc (f ∷ fs) n l =
    ap (λ x. f ++ x) (fields-more fs n (omega arith))
    ∙ sym (append_assoc f (flat_map behind_comma (take n fs)) (44 ∷ slice_index_or fs n []))

-- one field more
pub joined-more : (fs : List (List ℕ)) (i : ℕ) → 1 ≤ i → i < length fs →
    joined (take (i + 1) fs) ≡ joined (take i fs) ++ (44 ∷ slice_index_or fs i [])
joined-more fs zero l m = absurd (omega arith)
joined-more fs (suc n) l m =
    let more : suc n + 1 ≡ suc (suc n) = omega arith in
    ap (λ x. joined (take x fs)) more ∙ joined-suc fs n m

-- the first field
pub joined-first : (fs : List (List ℕ)) → 1 ≤ length fs →
    joined (take 1 fs) ≡ slice_index_or fs 0 []
joined-first [] l = absurd (omega arith)
joined-first (f ∷ fs) l = append-nil f

-- what a field more appends
pub appends-field : (line base x f : List ℕ) → line ≡ base ++ x →
    (line ++ (44 ∷ [])) ++ f ≡ base ++ (x ++ (44 ∷ f))
appends-field line base x f e =
    ap (λ t. (t ++ (44 ∷ [])) ++ f) e ∙ ap (λ t. t ++ f) (append_assoc base x (44 ∷ []))
    ∙ append_assoc base (x ++ (44 ∷ [])) f
    ∙ ap (λ t. base ++ t) (append_assoc x (44 ∷ []) f)

-- all fields
pub take-whole : (fs : List (List ℕ)) (i : ℕ) → length fs ≤ i → take i fs ≡ fs
take-whole [] zero l = refl
take-whole [] (suc i) l = refl
take-whole (f ∷ fs) zero l = absurd (omega arith)
take-whole (f ∷ fs) (suc i) l = ap (λ x. f ∷ x) (take-whole fs i (omega arith))
