-- Lists by their places.
-- for: rows_are_counted, owners_have_blocks, machines_stay_kept and others
use Rattle.std.specs.Prelude.{◌≡◌, refl, ℕ, zero, suc, ◌<◌, ◌≤◌, ◌≢◌, Some, List, [], ◌∷◌, ◌++◌, length, map, slice_get, slice_index_or, slice_set}
use Rattle.std.proofs.Common.{arith, ap}
use Rattle.std.proofs.Math.Seq.{set_out}

-- what is there
pub get_is : {X : Type 0} (xs : List X) (i : ℕ) (d : X) → i < length xs → slice_get xs i ≡ Some (slice_index_or xs i d)
get_is [] i d l = absurd (omega arith)
get_is (x ∷ xs) zero d l = refl
get_is (x ∷ xs) (suc i) d l = get_is xs i d (omega arith)

-- two functions that agree on what is there
pub map_same : {X Y : Type 0} (f g : X → Y) (xs : List X) (d : X) →
    ((i : ℕ) → i < length xs → f (slice_index_or xs i d) ≡ g (slice_index_or xs i d)) → map f xs ≡ map g xs
map_same f g [] d h = refl
map_same f g (x ∷ xs) d h = λ i. h 0 (omega arith) i ∷ map_same f g xs d (λ k l. h (suc k) (omega arith)) i

-- writes at two places may be done in either order
pub sets_swap : {X : Type 0} (xs : List X) (i j : ℕ) (x y : X) → i ≢ j → slice_set (slice_set xs i x) j y ≡ slice_set (slice_set xs j y) i x
sets_swap [] i j x y h = refl
sets_swap (z ∷ zs) zero zero x y h = absurd (h refl)
sets_swap (z ∷ zs) zero (suc j) x y h = refl
sets_swap (z ∷ zs) (suc i) zero x y h = refl
sets_swap (z ∷ zs) (suc i) (suc j) x y h = ap (λ ws. z ∷ ws) (sets_swap zs i j x y (λ e. h (ap (λ n. suc n) e)))

-- a list with one more at its end
pub index_before : {X : Type 0} (xs : List X) (x : X) (i : ℕ) (d : X) → i < length xs → slice_index_or (xs ++ x ∷ []) i d ≡ slice_index_or xs i d
index_before [] x i d l = absurd (omega arith)
index_before (y ∷ ys) x zero d l = refl
index_before (y ∷ ys) x (suc i) d l = index_before ys x i d (omega arith)

pub index_last : {X : Type 0} (xs : List X) (x : X) (i : ℕ) (d : X) → i ≡ length xs → slice_index_or (xs ++ x ∷ []) i d ≡ x
index_last [] x zero d e = refl
index_last [] x (suc i) d e = absurd (omega arith)
index_last (y ∷ ys) x zero d e = absurd (omega arith)
index_last (y ∷ ys) x (suc i) d e = index_last ys x i d (omega arith)

-- what is not there
pub not_there : {X : Type 0} (xs : List X) (i : ℕ) (d : X) → length xs ≤ i → slice_index_or xs i d ≡ d
not_there [] i d l = refl
not_there (x ∷ xs) zero d l = absurd (omega arith)
not_there (x ∷ xs) (suc i) d l = not_there xs i d (omega arith)

-- a write past the end changes nothing
pub not_set : {X : Type 0} (xs : List X) (i : ℕ) (x : X) → length xs ≤ i → slice_set xs i x ≡ xs
not_set xs i x l = set_out xs i x l
