-- Two lists at once.
-- for: run_plant
use Rattle.std.proofs.Common.{◌≡◌, ℕ, zero, suc, ◌+◌, ◌≤◌, List, [], ◌∷◌, ◌++◌, length, map, take, drop, Some, refl, sym, ap, ◌∙◌, arith, set}
use Rattle.std.specs.Prelude.{slice_get}
use Rattle.motion_plant.specs.Places.{zip_with}

module _ {X Y : Type 0} (g : X → Y → X) where
  -- the next place, where the second list is written
  pub zip_set : (xs : List X) (ys : List Y) (zs : List X) (i : ℕ) (x : X) (y : Y) → slice_get xs i ≡
      Some x → length ys ≡ length xs → zs ≡ zip_with g (take i xs) (take i ys) ++ drop i xs →
      set zs i (g x y) ≡ zip_with g (take (i + 1) xs) (take (i + 1) (set ys i y)) ++ drop (i + 1) xs
  zip_set [] ys zs i x y at len e = absurd (cc)
  zip_set (a ∷ xs) [] zs i x y at len e = absurd (omega arith)
  zip_set (a ∷ xs) (b ∷ ys) zs zero x y at len e = let s : a ≡ x = cc in
      ap (λ l. set l 0 (g x y)) e ∙ ap (λ w. g w y ∷ xs) (sym s)
  zip_set (a ∷ xs) (b ∷ ys) zs (suc i) x y at len e =
      let k : suc (i + 1) ≡ suc i + 1 = omega arith in
      let l : length ys ≡ length xs = omega arith in
      ap (λ l. set l (suc i) (g x y)) e
      ∙ ap (λ l. g a b ∷ l) (zip_set xs ys _ i x y at l refl)
      ∙ ap (λ n. zip_with g (take n (a ∷ xs)) (take n (b ∷ set ys i y)) ++ drop n (a ∷ xs)) k

  -- the next place, where the second list is read
  pub zip_over : (xs : List X) (ys : List Y) (zs : List X) (i : ℕ) (x : X) (y : Y) →
      slice_get xs i ≡ Some x → slice_get ys i ≡ Some y → zs ≡ zip_with g (take i xs) (take i ys) ++
      drop i xs → set zs i (g x y) ≡ zip_with g (take (i + 1) xs) (take (i + 1) ys) ++
      drop (i + 1) xs
  zip_over [] ys zs i x y at to e = absurd (cc)
  zip_over (a ∷ xs) [] zs i x y at to e = absurd (cc)
  zip_over (a ∷ xs) (b ∷ ys) zs zero x y at to e = let s : a ≡ x = cc in let t : b ≡ y = cc in
      ap (λ l. set l 0 (g x y)) e ∙ (λ j. g (sym s j) (sym t j) ∷ xs)
  zip_over (a ∷ xs) (b ∷ ys) zs (suc i) x y at to e =
      let k : suc (i + 1) ≡ suc i + 1 = omega arith in
      ap (λ l. set l (suc i) (g x y)) e
      ∙ ap (λ l. g a b ∷ l) (zip_over xs ys _ i x y at to refl)
      ∙ ap (λ n. zip_with g (take n (a ∷ xs)) (take n (b ∷ ys)) ++ drop n (a ∷ xs)) k

  -- what comes next is as it was
  pub zip_here : (xs : List X) (ys : List Y) (i : ℕ) → length ys ≡ length xs →
      slice_get (zip_with g (take i xs) (take i ys) ++ drop i xs) i ≡ slice_get xs i
  zip_here [] ys i len = none i
    where
      none : (i : ℕ) → slice_get (zip_with g (take i []) (take i ys) ++ drop i []) i ≡
          slice_get [] i
      none zero = refl
      none (suc i) = refl
  zip_here (a ∷ xs) [] i len = absurd (omega arith)
  zip_here (a ∷ xs) (b ∷ ys) zero len = refl
  zip_here (a ∷ xs) (b ∷ ys) (suc i) len = let l : length ys ≡ length xs = omega arith in
      zip_here xs ys i l

  pub zip_get : (xs : List X) (ys : List Y) (i : ℕ) (z : X) → slice_get (zip_with g xs ys) i ≡
      Some z → (x : X) × (y : Y) × (slice_get xs i ≡ Some x) × (slice_get ys i ≡ Some y) ×
      (g x y ≡ z)
  zip_get [] ys i z e = absurd (cc)
  zip_get (a ∷ xs) [] i z e = absurd (cc)
  zip_get (a ∷ xs) (b ∷ ys) zero z e = (a, b, refl, refl, cc)
  zip_get (a ∷ xs) (b ∷ ys) (suc i) z e = zip_get xs ys i z e

  pub zip_length : (xs : List X) (ys : List Y) → length ys ≡ length xs → length (zip_with g xs ys) ≡
      length xs
  zip_length [] ys len = refl
  zip_length (a ∷ xs) [] len = absurd (omega arith)
  zip_length (a ∷ xs) (b ∷ ys) len = let l : length ys ≡ length xs = omega arith in
      ap suc (zip_length xs ys l)

  pub zip_all : (xs : List X) (ys : List Y) (zs : List X) (i : ℕ) → length xs ≤ i → length ys ≡
      length xs → zs ≡ zip_with g (take i xs) (take i ys) ++ drop i xs → zs ≡ zip_with g xs ys
  zip_all [] ys zs zero le len e = e
  zip_all [] ys zs (suc i) le len e = e
  zip_all (a ∷ xs) [] zs i le len e = absurd (omega arith)
  zip_all (a ∷ xs) (b ∷ ys) zs zero le len e = absurd (omega arith)
  zip_all (a ∷ xs) (b ∷ ys) zs (suc i) le len e = let l : length ys ≡ length xs = omega arith in
      let m : length xs ≤ i = omega arith in e ∙ ap (λ l. g a b ∷ l) (zip_all xs ys _ i m l refl)

  -- what g leaves as it was
  pub zip_kept : {Z : Type 0} (f : X → Z) (xs : List X) (ys : List Y) → length ys ≡ length xs →
      ((x : X) (y : Y) → f (g x y) ≡ f x) → map f (zip_with g xs ys) ≡ map f xs
  zip_kept f [] ys len kept = refl
  zip_kept f (a ∷ xs) [] len kept = absurd (omega arith)
  zip_kept f (a ∷ xs) (b ∷ ys) len kept = let l : length ys ≡ length xs = omega arith in
      λ j. kept a b j ∷ zip_kept f xs ys l kept j
