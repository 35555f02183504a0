-- Parts that were joined are read back.
-- for: traces_are_read_back
use Rattle.std.specs.Prelude.{◌≡◌, refl, ℕ, zero, suc, ◌<◌, ◌≤◌, Bool, true, false, not, Some, Result, Ok, List, [], ◌∷◌, ◌++◌, drop, length, map, take, slice_get}
use Rattle.std.specs.List.{AllByRecursion, join_with_byte, position, prefix_len, slice_split, onto_first}
use Rattle.std.proofs.Common.{◌∙◌, ap, arith, add-one}
use Rattle.std.proofs.lemmas.List.Splits.{slice_split-cons_no, slice_split-cons_yes}
use Rattle.std.proofs.lemmas.Bool.{lt-ltb}
use Rattle.line_text.specs.Reading.{each_of}
use Rattle.machine_words.specs.Positions.{is_semicolon}
use Rattle.line_text.specs.Numbers.{is_colon}
use Rattle.trace_columns.specs.Columns.{halves_of}
use Rattle.trace_text.specs.reading.Items.{parts_of}
use Rattle.trace_text.proofs.back.Plain.{IsWithout}

split-whole : {X : Type 0} (p : X → Bool) (xs : List X) → AllByRecursion (λ x. p x ≡ false) xs → slice_split p xs ≡ xs ∷ []
split-whole p [] h = refl
split-whole p (x ∷ xs) h = slice_split-cons_no p x xs h.0 ∙ ap (onto_first x) (split-whole p xs h.1)

split-at : {X : Type 0} (p : X → Bool) (xs : List X) (y : X) (ys : List X) → AllByRecursion (λ x. p x ≡ false) xs → p y ≡ true →
    slice_split p (xs ++ y ∷ ys) ≡ xs ∷ slice_split p ys
split-at p [] y ys h e = slice_split-cons_yes p y ys e
split-at p (x ∷ xs) y ys h e = slice_split-cons_no p x (xs ++ y ∷ ys) h.0 ∙ ap (onto_first x) (split-at p xs y ys h.1 e)

-- parts without semicolons that were joined by them
pub parts-back : (x : List ℕ) (xs : List (List ℕ)) → AllByRecursion (IsWithout 59) (x ∷ xs) → parts_of (join_with_byte 59 (x ∷ xs)) ≡ x ∷ xs
unfolding parts_of
parts-back x [] h = split-whole is_semicolon x h.0
parts-back x (y ∷ ys) h = split-at is_semicolon x 59 (join_with_byte 59 (y ∷ ys)) h.0 refl ∙ ap (λ more. x ∷ more) (parts-back y ys h.1)

-- the same of the texts of some items
pub texts-back : {X : Type 0} (f : X → List ℕ) (xs : List X) → 1 ≤ length xs → AllByRecursion (λ x. IsWithout 59 (f x)) xs →
    parts_of (join_with_byte 59 (map f xs)) ≡ map f xs
texts-back f [] some h = absurd (omega (arith, some))
texts-back f (x ∷ xs) some h = parts-back (f x) (map f xs) (h.0, mapped f xs h.1)
  where
    mapped : {X : Type 0} (f : X → List ℕ) (xs : List X) → AllByRecursion (λ x. IsWithout 59 (f x)) xs → AllByRecursion (IsWithout 59) (map f xs)
    mapped f [] h = tt
    mapped f (x ∷ xs) h = (h.0, mapped f xs h.1)

-- each item is read from its text
pub each-back : {A : Type 0} (read : List ℕ → Result A ℕ) (f : A → List ℕ) (xs : List A) → AllByRecursion (λ x. read (f x) ≡ Ok x) xs →
    each_of read (map f xs) ≡ Ok xs
each-back read f [] h = refl
each-back read f (x ∷ xs) h = rw (h.0, each-back read f xs h.1) refl

-- items that fail a test, and one after them that passes
prefix-at : {X : Type 0} (p : X → Bool) (xs : List X) (y : X) (ys : List X) → AllByRecursion (λ x. p x ≡ false) xs → p y ≡ true →
    prefix_len (λ x. not (p x)) (xs ++ y ∷ ys) ≡ length xs
prefix-at p [] y ys h e = rw e refl
prefix-at p (x ∷ xs) y ys h e = rw h.0 (let more = prefix-at p xs y ys h.1 e in omega (arith, more))

shorter : {X : Type 0} (xs : List X) (y : X) (ys : List X) → length xs < length (xs ++ y ∷ ys)
shorter [] y ys = omega arith
shorter (x ∷ xs) y ys = let more = shorter xs y ys in omega (arith, more)

pub position-at : {X : Type 0} (p : X → Bool) (xs : List X) (y : X) (ys : List X) → AllByRecursion (λ x. p x ≡ false) xs → p y ≡ true →
    position p (xs ++ y ∷ ys) ≡ Some (length xs)
position-at p xs y ys h e = rw (prefix-at p xs y ys h e, lt-ltb (length xs) (length (xs ++ y ∷ ys)) (shorter xs y ys)) refl

take-front : {X : Type 0} (xs ys : List X) → take (length xs) (xs ++ ys) ≡ xs
take-front [] ys = refl
take-front (x ∷ xs) ys = ap (λ l. x ∷ l) (take-front xs ys)

drop-behind : {X : Type 0} (xs : List X) (y : X) (ys : List X) → drop (suc (length xs)) (xs ++ y ∷ ys) ≡ ys
drop-behind [] y ys = refl
drop-behind (x ∷ xs) y ys = drop-behind xs y ys

-- parts before a colon and after it
pub halves-back : (a b : List ℕ) → IsWithout 58 a → halves_of (a ++ 58 ∷ b) ≡ Some (a, b)
unfolding halves_of
halves-back a b h = rw (position-at is_colon a 58 b h refl, take-front a (58 ∷ b), add-one, drop-behind a 58 b) refl

-- an item and those around it, by its place
pub record StandsAt {X : Type 0} (xs : List X) (i : ℕ) (x : X) : Type 0 where
  pub before : List X
  pub behind : List X
  pub whole : xs ≡ before ++ x ∷ behind
  pub place : length before ≡ i

pub stands-at : {X : Type 0} (xs : List X) (i : ℕ) (x : X) → slice_get xs i ≡ Some x → StandsAt xs i x
stands-at [] i x e = absurd (cc e)
stands-at (y ∷ ys) zero x e = let same : y ≡ x = cc e in record { before = []; behind = ys; whole = ap (λ z. z ∷ ys) same; place = refl }
stands-at (y ∷ ys) (suc i) x e =
    let more = stands-at ys i x e in
    record { before = y ∷ more.before; behind = more.behind; whole = ap (λ l. y ∷ l) more.whole; place = ap suc more.place }
