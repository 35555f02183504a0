-- Numbers added up over all views, and what one change does to them.
-- for: turn_call, turn_cycle, turn_end and others
use Rattle.std.proofs.Common.{◌≡◌, ◌≢◌, ℕ, zero, suc, ◌+◌, ◌<◌, ◌≤◌, List, [], ◌∷◌, ◌++◌, Bool, true, false, Option, Some, None, eqb, eq-eqb, ne_eqb, set, refl, sym, ap, arith}
use mathlib.Core.Logic.{dite}
use mathlib.Core.Option.{some, some-injective, some-ne-none}
use native.Mathlib.Decide.{ℕ_discrete, dec_le}
use lib.ListN.{get_elem?}
use Rattle.motion_kernel.specs.KernelState.{KernelState}
use Rattle.kernel_turn.specs.PermitView.{PermitView}
use Rattle.kernel_turn.specs.Times.{one, times, once_below}
use Rattle.kernel_turn.specs.Rule.{total, if_hand, if_hand_is, if_found}

pub total_set : (f : PermitView → ℕ) (views : List PermitView) (i : ℕ) (v w : PermitView) → get_elem? views i ≡ some v → total f (set views i w) + f v ≡ total f views + f w
total_set f [] i v w e = absurd (some-ne-none v (sym e))
total_set f (x ∷ xs) zero v w e = let same : f x ≡ f v = ap f (some-injective x v e) in omega arith
total_set f (x ∷ xs) (suc i) v w e = let h = total_set f xs i v w e in omega arith

pub total_snoc : (f : PermitView → ℕ) (views : List PermitView) (w : PermitView) → total f (views ++ w ∷ []) ≡ total f views + f w
total_snoc f [] w = omega arith
total_snoc f (x ∷ xs) w = let h = total_snoc f xs w in omega arith

pub total_at : (f : PermitView → ℕ) (views : List PermitView) (i : ℕ) (v : PermitView) → get_elem? views i ≡ some v → f v ≤ total f views
total_at f [] i v e = absurd (some-ne-none v (sym e))
total_at f (x ∷ xs) zero v e = let same : f x ≡ f v = ap f (some-injective x v e) in omega arith
total_at f (x ∷ xs) (suc i) v e = let h = total_at f xs i v e in omega arith

pub total_two : (f : PermitView → ℕ) (views : List PermitView) (i j : ℕ) (v w : PermitView) → i ≢ j → get_elem? views i ≡ some v → get_elem? views j ≡ some w → f v + f w ≤ total f views
total_two f [] i j v w n e d = absurd (some-ne-none v (sym e))
total_two f (x ∷ xs) zero zero v w n e d = absurd (n refl)
total_two f (x ∷ xs) zero (suc j) v w n e d = let same : f x ≡ f v = ap f (some-injective x v e) in let h = total_at f xs j w d in omega arith
total_two f (x ∷ xs) (suc i) zero v w n e d = let same : f x ≡ f w = ap f (some-injective x w d) in let h = total_at f xs i v e in omega arith
total_two f (x ∷ xs) (suc i) (suc j) v w n e d = let h = total_two f xs i j v w (λ k. n (ap suc k)) e d in omega arith

pub total_le : (f g : PermitView → ℕ) (views : List PermitView) → ((i : ℕ) (v : PermitView) → get_elem? views i ≡ some v → f v ≤ g v) → total f views ≤ total g views
total_le f g [] h = omega arith
total_le f g (x ∷ xs) h = let a = h 0 x refl in let b = total_le f g xs (λ i v e. h (suc i) v e) in omega arith

pub total_some : (f : PermitView → ℕ) (views : List PermitView) → 0 < total f views → (i : ℕ) × (v : PermitView) × (get_elem? views i ≡ some v) × (0 < f v)
total_some f [] h = absurd (omega arith)
total_some f (x ∷ xs) h = dite (ℕ_discrete (f x) 0) (λ e. let r = total_some f xs (omega arith) in (suc r.0, r.1, r.2, r.3)) (λ n. (0, x, refl, omega arith))

pub total_none : (f g : PermitView → ℕ) (views : List PermitView) → total g views ≡ 0 → ((j : ℕ) (u : PermitView) → get_elem? views j ≡ some u → g u ≡ 0 → f u ≡ 0) → total f views ≡ 0
total_none f g [] z h = refl
total_none f g (x ∷ xs) z h = let a = h 0 x refl (omega arith) in let b = total_none f g xs (omega arith) (λ j u e. h (suc j) u e) in omega arith

-- where one view has all of g, it has all of f
pub total_only : (f g : PermitView → ℕ) (views : List PermitView) (i : ℕ) (v : PermitView) → get_elem? views i ≡ some v → total g views ≡ g v → ((j : ℕ) (u : PermitView) → get_elem? views j ≡ some u → g u ≡ 0 → f u ≡ 0) → total f views ≡ f v
total_only f g [] i v e all h = absurd (some-ne-none v (sym e))
total_only f g (x ∷ xs) zero v e all h =
    let same : f x ≡ f v = ap f (some-injective x v e) in
    let gs : g x ≡ g v = ap g (some-injective x v e) in
    let b = total_none f g xs (omega arith) (λ j u d. h (suc j) u d) in
    omega arith
total_only f g (x ∷ xs) (suc i) v e all h =
    let some_g = total_at g xs i v e in
    let a = h 0 x refl (omega arith) in
    let b = total_only f g xs i v e (omega arith) (λ j u d. h (suc j) u d) in
    omega arith

pub one_same : (x y : ℕ) → x ≡ y → one (eqb x y) ≡ 1
unfolding one
one_same x y e = ap one (eq-eqb x y e)

pub one_apart : (x y : ℕ) → x ≢ y → one (eqb x y) ≡ 0
unfolding one
one_apart x y n = ap one (ne_eqb x y n)

pub one_le : (b : Bool) → one b ≤ 1
unfolding one
one_le true = omega arith
one_le false = omega arith

pub one_true : (b : Bool) → b ≡ true → one b ≡ 1
unfolding one
one_true b e = ap one e

pub one_false : (b : Bool) → b ≡ false → one b ≡ 0
unfolding one
one_false b e = ap one e

pub below_no : (x n : ℕ) → n ≤ x → once_below x n ≡ 0
below_no x zero h = refl
below_no x (suc n) h = let a = below_no x n (omega arith) in let b = one_apart n x (λ e. omega arith) in omega arith

pub below_yes : (x n : ℕ) → x < n → once_below x n ≡ 1
below_yes x zero h = absurd (omega arith)
below_yes x (suc n) h = dite (ℕ_discrete n x) (λ e. let a = below_no x n (omega arith) in let b = one_same n x e in omega arith) (λ k. let a = below_yes x n (omega arith) in let b = one_apart n x k in omega arith)

pub times-append : (x : ℕ) (xs ys : List ℕ) → times x (xs ++ ys) ≡ times x xs + times x ys
times-append x [] ys = omega arith
times-append x (y ∷ xs) ys = let h = times-append x xs ys in omega arith

pub hand_none : (h : Option ℕ) → h ≡ None → if_hand h ≡ 0
unfolding if_hand
hand_none h e = ap if_hand e

pub hand_some : (h : Option ℕ) (n : ℕ) → h ≡ Some n → if_hand h ≡ 1
unfolding if_hand
hand_some h n e = ap if_hand e

pub is_none : (x : ℕ) (h : Option ℕ) → h ≡ None → if_hand_is x h ≡ 0
unfolding if_hand_is
is_none x h e = ap (if_hand_is x) e

pub is_some : (x : ℕ) (h : Option ℕ) (n : ℕ) → h ≡ Some n → if_hand_is x h ≡ one (eqb n x)
unfolding if_hand_is
is_some x h n e = ap (if_hand_is x) e

pub found_none : (k : Option KernelState) → k ≡ None → if_found k ≡ 0
unfolding if_found
found_none k e = ap if_found e

pub found_some : (k : Option KernelState) (f : KernelState) → k ≡ Some f → if_found k ≡ 1
unfolding if_found
found_some k f e = ap if_found e

pub found_is : (k : Option KernelState) → 0 < if_found k → (f : KernelState) × (k ≡ Some f)
unfolding if_found
found_is None h = absurd (omega arith)
found_is (Some f) h = (f, refl)

pub hand_le : (h : Option ℕ) → if_hand h ≤ 1
unfolding if_hand
hand_le None = omega arith
hand_le (Some n) = omega arith

pub below_le : (x n : ℕ) → once_below x n ≤ 1
below_le x n = dite (dec_le n x) (λ h. let a = below_no x n h in omega arith) (λ h. let a = below_yes x n (omega arith) in omega arith)

pub here : (views : List PermitView) (i : ℕ) (v w : PermitView) → get_elem? views i ≡ some v → get_elem? (set views i w) i ≡ some w
here [] i v w e = absurd (some-ne-none v (sym e))
here (x ∷ xs) zero v w e = refl
here (x ∷ xs) (suc i) v w e = here xs i v w e
