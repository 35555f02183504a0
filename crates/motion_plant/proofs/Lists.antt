-- Items and their places.
-- for: cycles_take_the_answers, cycles_end_with_the_tasks, run_plant
use Rattle.std.proofs.Common.{◌≡◌, ◌≢◌, ℕ, zero, suc, ◌+◌, ◌<◌, ◌≤◌, List, [], ◌∷◌, ◌++◌, length, map, take, drop, Some, refl, sym, ap, ◌∙◌, subst, arith, length-append, ⊎_elim, set}
use Rattle.std.specs.Prelude.{slice_get, slice_set, slice_index_or}
use Rattle.std.proofs.lemmas.Bool.{cases_lt as order}
use Rattle.motion_plant.specs.Places.{Each}

module _ {A : Type 0} where
  pub some_is : (x y : A) → Some x ≡ Some y → x ≡ y
  some_is x y e = cc

  pub get_before : (xs ys : List A) (n : ℕ) → n < length xs → slice_get (xs ++ ys) n ≡
      slice_get xs n
  get_before [] ys n lt = absurd (omega arith)
  get_before (x ∷ xs) ys zero lt = refl
  get_before (x ∷ xs) ys (suc n) lt = get_before xs ys n (omega arith)

  pub get_past : (xs ys : List A) (n : ℕ) → slice_get (xs ++ ys) (length xs + n) ≡ slice_get ys n
  get_past [] ys n = let e : 0 + n ≡ n = omega arith in ap (slice_get ys) e
  get_past (x ∷ xs) ys n = let e : suc (length xs) + n ≡ suc (length xs + n) = omega arith in
      ap (slice_get (x ∷ (xs ++ ys))) e ∙ get_past xs ys n

  pub get_some : (xs : List A) (n : ℕ) (x : A) → slice_get xs n ≡ Some x → n < length xs
  get_some [] n x e = absurd (cc)
  get_some (y ∷ xs) zero x e = omega arith
  get_some (y ∷ xs) (suc n) x e = let r = get_some xs n x e in omega arith

  pub get_at : (xs : List A) (n : ℕ) (d : A) → n < length xs → slice_get xs n ≡
      Some (slice_index_or xs n d)
  get_at [] n d lt = absurd (omega arith)
  get_at (y ∷ xs) zero d lt = refl
  get_at (y ∷ xs) (suc n) d lt = get_at xs n d (omega arith)

  pub get_or_at : (xs : List A) (n : ℕ) (x : A) → n < length xs → x ≡ slice_index_or xs n x →
      slice_get xs n ≡ Some x
  get_or_at xs n x lt e = get_at xs n x lt ∙ ap Some (sym e)

  pub get_there : (xs : List A) (n : ℕ) → n < length xs → (x : A) × (slice_get xs n ≡ Some x)
  get_there [] n lt = absurd (omega arith)
  get_there (y ∷ xs) zero lt = (y, refl)
  get_there (y ∷ xs) (suc n) lt = get_there xs n (omega arith)

  pub each_more : (P : ℕ → A → Type 0) (xs : List A) (y : A) → Each P xs → P (length xs) y →
      Each P (xs ++ y ∷ [])
  each_more P xs y each p n x at = ⊎_elim
      (λ (lt : n < length xs). each n x (sym (get_before xs (y ∷ []) n lt) ∙ at))
      (λ (ge : length xs ≤ n).
      let l = get_some (xs ++ y ∷ []) n x at in
      let m : n ≡ length xs + 0 = let a = length-append xs (y ∷ []) in omega arith in
      let e : y ≡ x = some_is y x (sym (get_past xs (y ∷ []) 0) ∙ ap (slice_get (xs ++ y ∷ []))
      (sym m) ∙ at) in
      let back : length xs ≡ n = omega arith in
      subst (λ k. P k x) back (subst (λ z. P (length xs) z) e p))
      (order n (length xs))

  pub get_else : (xs : List A) (k n : ℕ) (y : A) → k ≢ n → slice_get (slice_set xs k y) n ≡
      slice_get xs n
  get_else [] k n y ne = refl
  get_else (x ∷ xs) zero zero y ne = absurd (ne refl)
  get_else (x ∷ xs) zero (suc n) y ne = refl
  get_else (x ∷ xs) (suc k) zero y ne = refl
  get_else (x ∷ xs) (suc k) (suc n) y ne = get_else xs k n y (λ e. ne (ap suc e))

  pub set_same : (xs : List A) (k : ℕ) (y : A) → slice_get xs k ≡ Some y → slice_set xs k y ≡ xs
  set_same [] k y e = refl
  set_same (x ∷ xs) zero y e = let s : y ≡ x = cc in ap (λ z. z ∷ xs) s
  set_same (x ∷ xs) (suc k) y e = ap (λ zs. x ∷ zs) (set_same xs k y e)

  pub length_set : (xs : List A) (k : ℕ) (y : A) → length (slice_set xs k y) ≡ length xs
  length_set [] k y = refl
  length_set (x ∷ xs) zero y = refl
  length_set (x ∷ xs) (suc k) y = ap suc (length_set xs k y)

pub snoc_length : {A : Type 0} (xs : List A) (x : A) → length (xs ++ x ∷ []) ≡ suc (length xs)
snoc_length [] x = refl
snoc_length (y ∷ xs) x = ap suc (snoc_length xs x)

pub length_map : {A B : Type 0} (f : A → B) (xs : List A) → length (map f xs) ≡ length xs
length_map f [] = refl
length_map f (x ∷ xs) = ap suc (length_map f xs)

pub map_more : {A B : Type 0} (f : A → B) (xs ys : List A) →
    map f (xs ++ ys) ≡ map f xs ++ map f ys
map_more f [] ys = refl
map_more f (x ∷ xs) ys = ap (λ zs. f x ∷ zs) (map_more f xs ys)

pub get_map : {A B : Type 0} (f : A → B) (xs : List A) (n : ℕ) (x : A) → slice_get xs n ≡ Some x →
    slice_get (map f xs) n ≡ Some (f x)
get_map f [] n x e = absurd (cc)
get_map f (y ∷ xs) zero x e = let s : y ≡ x = cc in ap (λ z. Some (f z)) s
get_map f (y ∷ xs) (suc n) x e = get_map f xs n x e

pub get_map_of : {A B : Type 0} (f : A → B) (xs : List A) (n : ℕ) (y : B) → slice_get (map f xs) n ≡
    Some y → (x : A) × (slice_get xs n ≡ Some x) × (f x ≡ y)
get_map_of f [] n y e = absurd (cc)
get_map_of f (x ∷ xs) zero y e = (x, refl, some_is (f x) y e)
get_map_of f (x ∷ xs) (suc n) y e = get_map_of f xs n y e

module _ {A : Type 0} (f : A → A) where
  pub map_set : (xs zs : List A) (i : ℕ) (x : A) → slice_get zs i ≡ Some x →
      zs ≡ map f (take i xs) ++ drop i xs → set zs i (f x) ≡ map f (take (i + 1) xs) ++
      drop (i + 1) xs
  map_set [] zs i x at e = absurd (nothing i (sym at ∙ ap (λ l. slice_get l i) e))
    where
      nothing : (i : ℕ) → Some x ≡ slice_get (map f (take i []) ++ drop i []) i → ⊥
      nothing zero z = absurd (cc)
      nothing (suc i) z = absurd (cc)
  map_set (a ∷ xs) zs zero x at e = let s : a ≡ x = some_is a x (sym (ap (λ l. slice_get l 0) e) ∙
      at) in ap (λ l. set l 0 (f x)) e ∙ ap (λ w. f w ∷ xs) (sym s)
  map_set (a ∷ xs) zs (suc i) x at e =
      let k : suc (i + 1) ≡ suc i + 1 = omega arith in
      ap (λ l. set l (suc i) (f x)) e
      ∙ ap (λ l. f a ∷ l) (map_set xs _ i x (sym (ap (λ l. slice_get l (suc i)) e) ∙ at) refl)
      ∙ ap (λ n. map f (take n (a ∷ xs)) ++ drop n (a ∷ xs)) k

  pub map_all : (xs zs : List A) (i : ℕ) → length xs ≤ i → zs ≡ map f (take i xs) ++ drop i xs →
      zs ≡ map f xs
  map_all [] zs zero le e = e
  map_all [] zs (suc i) le e = e
  map_all (a ∷ xs) zs zero le e = absurd (omega arith)
  map_all (a ∷ xs) zs (suc i) le e = let m : length xs ≤ i = omega arith in e ∙
      ap (λ l. f a ∷ l) (map_all xs _ i m refl)

  pub map_length : (xs zs : List A) (i : ℕ) → zs ≡ map f (take i xs) ++ drop i xs → length zs ≡
      length xs
  map_length xs zs i e = ap length e ∙ go xs i
    where
      go : (xs : List A) (i : ℕ) → length (map f (take i xs) ++ drop i xs) ≡ length xs
      go xs zero = refl
      go [] (suc i) = refl
      go (x ∷ xs) (suc i) = ap suc (go xs i)
