-- Records by their numbers.
-- for: check, check_from, replay and others
use Rattle.std.proofs.Common.{◌≡◌, ℕ, zero, suc, ◌+◌, ◌<◌, ◌≤◌, Some, None, List, [], ◌∷◌, ◌++◌, length, map, take, refl, ap, arith}
use Rattle.std.specs.Prelude.{slice_get}
use Rattle.std.specs.Option.{option_map}
use Rattle.trace_text.specs.Trace.{numbered}

pub get-map : {X Y : Type 0} (f : X → Y) (xs : List X) (n : ℕ) → slice_get (map f xs) n ≡ option_map f (slice_get xs n)
get-map f [] n = refl
get-map f (x ∷ xs) zero = refl
get-map f (x ∷ xs) (suc n) = get-map f xs n

pub length-numbered : {X : Type 0} (f : ℕ → X → List (List ℕ)) (n : ℕ) (xs : List X) → length (numbered f n xs) ≡ length xs
length-numbered f n [] = refl
length-numbered f n (x ∷ xs) = ap suc (length-numbered f (suc n) xs)

-- the first records are the same where their items are
pub take-numbered : {X Y : Type 0} (f : ℕ → X → List (List ℕ)) (g : ℕ → Y → List (List ℕ)) (k n : ℕ) (xs : List X) (ys : List Y) →
    ((j m : ℕ) (x : X) (y : Y) → j < k → m ≡ n + j → slice_get xs j ≡ Some x → slice_get ys j ≡ Some y → f m x ≡ g m y) → length xs ≡ length ys →
    take k (numbered f n xs) ≡ take k (numbered g n ys)
take-numbered f g zero n xs ys h e = refl
take-numbered f g (suc k) n [] [] h e = refl
take-numbered f g (suc k) n [] (y ∷ ys) h e = absurd (omega (arith, e))
take-numbered f g (suc k) n (x ∷ xs) [] h e = absurd (omega (arith, e))
take-numbered f g (suc k) n (x ∷ xs) (y ∷ ys) h e =
    let here : f n x ≡ g n y = h 0 n x y (omega arith) (omega arith) refl refl in
    let later : take k (numbered f (suc n) xs) ≡ take k (numbered g (suc n) ys) =
    take-numbered f g k (suc n) xs ys (λ j m a b l is p q. h (suc j) m a b (omega arith) (omega arith) p q) (omega (arith, e)) in
    rw (here, later) refl

pub take-behind : {X : Type 0} (xs ys : List X) (n k : ℕ) → n ≡ length xs + k → take n (xs ++ ys) ≡ xs ++ take k ys
take-behind [] ys n k e = let same : n ≡ k = omega (arith, e) in ap (λ m. take m ys) same
take-behind (x ∷ xs) ys zero k e = absurd (omega (arith, e))
take-behind (x ∷ xs) ys (suc n) k e = ap (λ t. x ∷ t) (take-behind xs ys n k (omega (arith, e)))

-- an item stands at each place within
pub there : {X : Type 0} (xs : List X) (i : ℕ) → i < length xs → (x : X) × (slice_get xs i ≡ Some x)
there [] i l = absurd (omega arith)
there (x ∷ xs) zero l = (x, refl)
there (x ∷ xs) (suc i) l = there xs i (omega arith)

-- the record at a place of those by their numbers
pub get-numbered : {X : Type 0} (f : ℕ → X → List (List ℕ)) (m : ℕ) (xs : List X) (more : List (List (List ℕ))) (n k : ℕ) (x : X) → k ≡ m + n → slice_get xs n ≡ Some x →
    slice_get (numbered f m xs ++ more) n ≡ Some (f k x)
get-numbered f m [] more n k x e h = absurd (cc)
get-numbered f m (y ∷ xs) more zero k x e h =
    let is : y ≡ x = cc in
    let mk : m ≡ k = omega (arith, e) in
    rw (is, mk) refl
get-numbered f m (y ∷ xs) more (suc n) k x e h = get-numbered f (suc m) xs more n k x (omega (arith, e)) h

-- the record after them
pub get-behind : {X Y : Type 0} (f : ℕ → X → List (List ℕ)) (g : ℕ → Y → List (List ℕ)) (m k : ℕ) (xs : List X) (ys : List Y) (more : List (List (List ℕ))) (n : ℕ) → length xs ≡ length ys → length xs ≤ n →
    slice_get (numbered f m xs ++ more) n ≡ slice_get (numbered g k ys ++ more) n
get-behind f g m k [] [] more n e l = refl
get-behind f g m k [] (y ∷ ys) more n e l = absurd (omega (arith, e))
get-behind f g m k (x ∷ xs) [] more n e l = absurd (omega (arith, e))
get-behind f g m k (x ∷ xs) (y ∷ ys) more zero e l = absurd (omega arith)
get-behind f g m k (x ∷ xs) (y ∷ ys) more (suc n) e l = get-behind f g (suc m) (suc k) xs ys more n (omega (arith, e)) (omega arith)

pub get-none : {X : Type 0} (xs : List X) (i : ℕ) → length xs ≤ i → slice_get xs i ≡ None
get-none [] i l = refl
get-none (x ∷ xs) zero l = absurd (omega arith)
get-none (x ∷ xs) (suc i) l = get-none xs i (omega arith)
