-- Items with and without their numbers.
-- for: push
use Rattle.std.proofs.Common.{arith, ◌≡◌, ℕ, suc, ◌+◌, List, [], ◌∷◌, ◌++◌, length, length-append, Option, Some, None, refl, sym, ap, ◌∙◌}
use Rattle.std.specs.List.{last_or}
use Rattle.setpoint_ring.specs.declared.numbered.Numbered.{Numbered}
use Rattle.setpoint_ring.specs.Order.{items_of}

module _ {T : Type 0} where
  pub items_length : (xs : List (Numbered T)) → length (items_of xs) ≡ length xs
  items_length [] = refl
  items_length (x ∷ xs) = ap suc (items_length xs)

  pub items_more : (xs ys : List (Numbered T)) → items_of (xs ++ ys) ≡ items_of xs ++ items_of ys
  items_more [] ys = refl
  items_more (x ∷ xs) ys = ap (λ zs. x.item ∷ zs) (items_more xs ys)

  last_more : (o : Option T) (xs : List T) (x : T) → last_or o (xs ++ x ∷ []) ≡ Some x
  last_more o [] x = refl
  last_more o (y ∷ xs) x = last_more (Some y) xs x

  -- the last of a list is what was put after the others
  pub last_put : (before after : List (Numbered T)) (x : Numbered T) → after ≡ before ++ x ∷ [] → Some x.item ≡ last_or None (items_of after)
  last_put before after x e =
      sym (ap (λ xs. last_or None (items_of xs)) e ∙ ap (last_or None) (items_more before (x ∷ [])) ∙ last_more None (items_of before) x.item)

  -- numbers count what was put
  pub counts_put : (before after : List (Numbered T)) (x : Numbered T) (n : ℕ) → n ≡ length (items_of before) + 1 → after ≡ before ++ x ∷ [] → n ≡ length after
  counts_put before after x n next e =
      let grown : length after ≡ length (before ++ x ∷ []) = ap length e in
      omega (arith, items_length before, length-append before (x ∷ []))

  some_last : (xs : List T) (x : T) → last_or (Some x) xs ≡ None → ⊥
  some_last [] x none = absurd (cc)
  some_last (y ∷ xs) x none = some_last xs y none

  -- a list without a last item is empty
  pub last_none : (xs : List T) → last_or None xs ≡ None → xs ≡ []
  last_none [] none = refl
  last_none (x ∷ xs) none = absurd (some_last xs x none)
