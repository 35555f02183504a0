-- Empty fields after those that there are.
-- for: write_trace
use Rattle.std.specs.Prelude.{◌≡◌, refl, ℕ, zero, suc, ◌-◌, List, [], ◌∷◌, ◌++◌, drop, length, map, replicate}
use Rattle.std.specs.Borrow.{Bor}
use Rattle.std.proofs.Common.{◌∙◌}
use Rattle.std.proofs.lemmas.List.{map-append, drop-replicate, length-map}
use Rattle.trace_text.specs.Records.{padded}

-- twelve fields
abbrev twelve : {X : Type 0} → X → List X
twelve e = e ∷ e ∷ e ∷ e ∷ e ∷ e ∷ e ∷ e ∷ e ∷ e ∷ e ∷ e ∷ []

map-drop : {X Y : Type 0} (f : X → Y) (n : ℕ) (xs : List X) → map f (drop n xs) ≡ drop n (map f xs)
map-drop f zero xs = refl
map-drop f (suc n) [] = refl
map-drop f (suc n) (x ∷ xs) = map-drop f n xs

-- the fields as they are shown
pub padded-is : (fields new : List (Bor (List ℕ))) (e : Bor (List ℕ)) → new ≡ fields → e.now ≡ [] →
    map (λ f. f.now) (new ++ drop (length fields) (twelve e)) ≡ padded (map (λ f. f.now) fields)
padded-is fields new e same empty =
    let shown : Bor (List ℕ) → List ℕ = λ f. f.now in
    let a = map-append shown new (drop (length fields) (twelve e)) in
    let b : map shown (drop (length fields) (twelve e)) ≡ drop (length fields) (twelve {X = List ℕ} []) = map-drop shown (length fields) (twelve e) ∙ rw empty refl in
    let d : drop (length fields) (twelve {X = List ℕ} []) ≡ replicate (12 - length fields) [] = drop-replicate (length fields) 12 [] in
    let n : length (map shown fields) ≡ length fields = length-map fields shown in
    rw (a, b, d, same, n) refl
