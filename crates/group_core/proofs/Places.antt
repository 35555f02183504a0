-- Where the axes stand on a path: each of the path at its place, the others where they stood.
-- for: members_keep_their_limits, groups_stay_kept, courses_end_in_time and others
use Rattle.std.specs.Prelude.{◌≡◌, ◌≢◌, refl, ℕ, zero, suc, ◌<◌, ◌≤◌, ℤ, List, [], ◌∷◌, length, slice_set}
use Rattle.std.proofs.Common.{◌∙◌, ap, sym, arith, inl, inr}
use Rattle.std.proofs.lemmas.Bool.{cases_eq}
use Rattle.linear_path.specs.Line.{coordinate_of}
use Rattle.group_core.specs.Tracks.{places_of}

-- a coordinate that was set, and the others
set-same : (xs : List ℤ) (n : ℕ) (z : ℤ) → n < length xs → coordinate_of (slice_set xs n z) n ≡ z
set-same [] n z h = absurd (omega arith)
set-same (x ∷ xs) zero z h = refl
set-same (x ∷ xs) (suc n) z h = set-same xs n z (omega arith)

set-other : (xs : List ℤ) (n m : ℕ) (z : ℤ) → n ≢ m → coordinate_of (slice_set xs n z) m ≡ coordinate_of xs m
set-other [] n m z h = refl
set-other (x ∷ xs) zero zero z h = absurd (h refl)
set-other (x ∷ xs) zero (suc m) z h = refl
set-other (x ∷ xs) (suc n) zero z h = refl
set-other (x ∷ xs) (suc n) (suc m) z h = set-other xs n m z (λ e. h (ap suc e))

set-length : (xs : List ℤ) (n : ℕ) (z : ℤ) → length (slice_set xs n z) ≡ length xs
set-length [] n z = refl
set-length (x ∷ xs) zero z = refl
set-length (x ∷ xs) (suc n) z = ap suc (set-length xs n z)

-- as many as before
pub places-length : (n : ℕ) (place : ℕ → ℤ → ℤ) (s : ℤ) (xs : List ℤ) → length (places_of n place s xs) ≡ length xs
unfolding places_of
places-length zero place s xs = refl
places-length (suc n) place s xs = set-length (places_of n place s xs) n (place n s) ∙ places-length n place s xs

-- an axis of the path
pub place-of-axis : (n : ℕ) (place : ℕ → ℤ → ℤ) (s : ℤ) (xs : List ℤ) (axis : ℕ) → n ≤ length xs → axis < n →
    coordinate_of (places_of n place s xs) axis ≡ place axis s
unfolding places_of
place-of-axis zero place s xs axis few within = absurd (omega arith)
place-of-axis (suc n) place s xs axis few within =
    let many = places-length n place s xs in
    elim (cases_eq n axis) [
      | inl same ↦ (let here : n < length (places_of n place s xs) = omega (arith, many, few) in
          ap (coordinate_of (slice_set (places_of n place s xs) n (place n s))) (sym same)
          ∙ set-same (places_of n place s xs) n (place n s) here ∙ ap (λ k. place k s) same)
      | inr other ↦ set-other (places_of n place s xs) n axis (place n s) (λ e. other e)
          ∙ place-of-axis n place s xs axis (omega (arith, few)) (omega (arith, within, other))
    ]

-- an axis after those of the path
pub place-behind : (n : ℕ) (place : ℕ → ℤ → ℤ) (s : ℤ) (xs : List ℤ) (axis : ℕ) → n ≤ axis →
    coordinate_of (places_of n place s xs) axis ≡ coordinate_of xs axis
unfolding places_of
place-behind zero place s xs axis behind = refl
place-behind (suc n) place s xs axis behind =
    set-other (places_of n place s xs) n axis (place n s) (λ e. omega (arith, e, behind)) ∙ place-behind n place s xs axis (omega (arith, behind))
