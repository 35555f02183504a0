-- Places in lists.
-- for: open, next, answered
use Rattle.std.proofs.Common.{◌≡◌, ℕ, ◌+◌, suc, Some, List, [], ◌∷◌, ◌++◌, length, refl, ap, arith}
use Rattle.std.specs.Prelude.{slice_get}
use Rattle.std.specs.List.{AllByRecursion}

-- what stands after some items
pub get-behind : {A : Type 0} (front ys : List A) (n : ℕ) → slice_get (front ++ ys) (length front + n) ≡ slice_get ys n
get-behind [] ys n = ap (λ k. slice_get ys k) (omega arith)
get-behind (x ∷ front) ys n =
    let e : length (x ∷ front) + n ≡ suc (length front + n) = omega arith in
    rw e (get-behind front ys n)

pub get-first : {A : Type 0} (front ys : List A) → slice_get (front ++ ys) (length front) ≡ slice_get ys 0
get-first front ys = let e : length front ≡ length front + 0 = omega arith in rw e (get-behind front ys 0)

-- an item with what stands after it
pub record HasHead {A : Type 0} (xs : List A) (x : A) : Type 0 where
  pub tail : List A
  pub is : xs ≡ x ∷ tail

pub head-of : {A : Type 0} (xs : List A) (x : A) → slice_get xs 0 ≡ Some x → HasHead xs x
head-of [] x h = absurd (cc)
head-of (y ∷ ys) x h = let e : y ≡ x = cc in record { tail = ys; is = ap (λ z. z ∷ ys) e }

pub all-front : {A : Type 0} (P : A → Type 0) (xs ys : List A) → AllByRecursion P (xs ++ ys) → AllByRecursion P xs
all-front P [] ys h = tt
all-front P (x ∷ xs) ys h = (h.0, all-front P xs ys h.1)

pub all-at : {A : Type 0} (P : A → Type 0) (xs ys : List A) (y : A) → AllByRecursion P (xs ++ y ∷ ys) → P y
all-at P [] ys y h = h.0
all-at P (x ∷ xs) ys y h = all-at P xs ys y h.1

pub length-push : {A : Type 0} (xs : List A) (x : A) → length (xs ++ x ∷ []) ≡ suc (length xs)
length-push [] x = refl
length-push (y ∷ ys) x = ap suc (length-push ys x)
