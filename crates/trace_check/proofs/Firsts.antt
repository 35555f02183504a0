-- The first record that differs.
-- for: check, check_from, replay and others
use Rattle.std.proofs.Common.{◌≡◌, ℕ, zero, suc, ◌+◌, true, false, Some, None, List, [], ◌∷◌, ◌++◌, length, take, refl, sym, ◌∙◌, ap, arith, inl, inr}
use Rattle.std.specs.Prelude.{slice_get}
use Rattle.std.specs.Option.{option_map}
use Rattle.std.proofs.lemmas.Bool.{cases_Bool}
use Rattle.std.proofs.lemmas.Slice.Eq.{bytes_eq-Decides}
use Rattle.line_text.specs.Texts.{says}
use Rattle.trace_text.specs.reading.Reading.{are_same}
use Rattle.trace_text.specs.Records.{padded}
use Rattle.trace_check.specs.Differences.{first_difference}
use Rattle.trace_check.specs.Stops.{StopsAt, Tells}
use Rattle.trace_check.specs.declared.difference.Difference.{Difference}
use Rattle.trace_check.specs.declared.difference.Stop.{Stop}
use Rattle.trace_check.specs.declared.difference.Stop.TheVariants as stop

says-self : (x : List ℕ) → says x x ≡ true
unfolding says
says-self x = (bytes_eq-Decides x x).1 refl

same-self : (x : List (List ℕ)) → are_same x x ≡ true
same-self [] = refl
same-self (x ∷ xs) = rw says-self (same-self xs)

past : (p q : ℕ) (xs us vs : List (List (List ℕ))) → q ≡ p + length xs → first_difference p (xs ++ us) (xs ++ vs) ≡ first_difference q us vs
past p q [] us vs e = let is : p ≡ q = omega (arith, e) in ap (λ n. first_difference n us vs) is
past p q (x ∷ xs) us vs e = rw (same-self (padded x)) (past (p + 1) q xs us vs (omega (arith, e)))

-- what is the same is passed over
pub first-past : (p q : ℕ) (xs ys us vs : List (List (List ℕ))) → xs ≡ ys → q ≡ p + length ys → first_difference p (xs ++ us) (ys ++ vs) ≡ first_difference q us vs
first-past p q xs ys us vs same e = rw same (past p q ys us vs e)

-- nothing differs from itself
pub first-none : (p : ℕ) (xs : List (List (List ℕ))) → first_difference p xs xs ≡ None
first-none p [] = refl
first-none p (x ∷ xs) = rw (same-self (padded x)) (first-none (p + 1) xs)

-- what follows doesn't matter after the first that differs
pub first-stop : (p : ℕ) (xs ys us vs : List (List (List ℕ))) (d : Difference) → first_difference p xs ys ≡ Some d → first_difference p (xs ++ us) (ys ++ vs) ≡ Some d
first-stop p [] ys us vs d h = absurd (cc)
first-stop p (x ∷ xs) [] us vs d h = absurd (cc)
first-stop p (x ∷ xs) (y ∷ ys) us vs d h = elim (cases_Bool (are_same (padded x) (padded y))) [
  | inl same ↦
      let later : first_difference (p + 1) xs ys ≡ Some d = rw same at h in
      rw same (first-stop (p + 1) xs ys us vs d later)
  | inr other ↦ let here : Some (record { place = p; expected = padded x; found = padded y }) ≡ Some d = rw other at h in rw other here
]

-- the first that differs is at this place
pub first-at : (p k q : ℕ) (xs ys : List (List (List ℕ))) (x y : List (List ℕ)) → take k xs ≡ take k ys → option_map padded (slice_get xs k) ≡ Some x → option_map padded (slice_get ys k) ≡ Some y →
    are_same x y ≡ false → q ≡ p + k → first_difference p xs ys ≡ Some (record { place = q; expected = x; found = y })
first-at p k q [] ys x y same a b other e = absurd (cc a)
first-at p k q (z ∷ xs) [] x y same a b other e = absurd (cc b)
first-at p zero q (z ∷ xs) (w ∷ ys) x y same a b other e =
    let zx : padded z ≡ x = let h : Some (padded z) ≡ Some x = a in cc h in
    let wy : padded w ≡ y = let h : Some (padded w) ≡ Some y = b in cc h in
    let pq : p ≡ q = omega (arith, e) in
    rw (zx, wy, other, pq) refl
first-at p (suc k) q (z ∷ xs) (w ∷ ys) x y same a b other e =
    let s : z ∷ take k xs ≡ w ∷ take k ys = same in
    let zw : z ≡ w = cc s in
    let rest' : take k xs ≡ take k ys = cc s in
    rw (zw, same-self (padded w)) (first-at (p + 1) k q xs ys x y rest' a b other (omega (arith, e)))

-- a stop at the first that differs
pub stops-at : (s : Stop) (p k q : ℕ) (xs ys : List (List (List ℕ))) (x y : List (List ℕ)) → take k xs ≡ take k ys → option_map padded (slice_get xs k) ≡ Some x → option_map padded (slice_get ys k) ≡ Some y →
    q ≡ p + k → Tells q x y s → StopsAt p xs ys s
stops-at (stop.Differs d) p k q xs ys x y same a b e t = first-at p k q xs ys x y same a b t.1 e ∙ ap Some (sym t.0)
stops-at stop.OutOfMemory p k q xs ys x y same a b e t = tt
