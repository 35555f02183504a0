-- What functions make of values of their arguments' type is a value of their own.
-- for: results_are_of_their_types
use Rattle.std.proofs.Common.{◌≡◌, refl, ℕ, zero, suc, ℤ, ◌≤ℤ◌, arith, Bool, true, false, ◌&&◌, Option, Some, None, List, [], ◌∷◌, length}
use Rattle.std.specs.Prelude.{IfSome, option_map, if◌then◌else◌, int_le}
use Rattle.std.specs.List.{AllByRecursion, fold, list_all}
use Rattle.std.specs.Option.{option_and_then}
use Rattle.std.proofs.lemmas.Int.{ints}
use Rattle.iec_tree.specs.declared.elementary.Elementary.{Elementary}
use Rattle.iec_tree.specs.declared.elementary.Elementary.TheVariants.{Bool as BOOL}
use Rattle.iec_tree.specs.declared.elementary.TheConstants.{ELEMENTARY}
use Rattle.iec_tree.specs.declared.function.Function.{Function}
use Rattle.iec_tree.specs.declared.function.Function.TheVariants as function
use Rattle.iec_values.specs.Changes.{change_type}
use Rattle.iec_values.specs.Functions.{argument, argument_of, call_of, folded, made_of, manner_of, manner_value, result_of, takes}
use Rattle.iec_values.specs.Operations.{operation_value}
use Rattle.iec_values.specs.Truths.{is_true}
use Rattle.iec_values.specs.Types.{Holds, computed_of, greatest_of, least_of}
use Rattle.iec_values.specs.declared.functions.Call.{Call}
use Rattle.iec_values.specs.declared.functions.Manner.{Manner}
use Rattle.iec_values.specs.declared.functions.Manner.TheVariants as manner
use Rattle.iec_values.specs.declared.operations.Operation.TheVariants as operation
use Rattle.iec_values.proofs.Bounds.{max-held, min-held, zero-held}
use Rattle.iec_values.proofs.EveryType.{every-type, first, rest}
use Rattle.iec_values.proofs.Held.{change-held}

-- the values of one type are numbers of another
abbrev pub covers : Elementary → Elementary → Bool
covers s t = int_le (least_of t) (least_of s) && int_le (greatest_of s) (greatest_of t)

covers-held : (s t : Elementary) (z : ℤ) → covers s t ≡ true → Holds s z → Holds t z
covers-held s t z e h = record {
  above = low _ _ z (first (int_le (least_of t) (least_of s)) _ e) h.above;
  below = high _ _ z (rest (int_le (least_of t) (least_of s)) _ e) h.below;
}
  where
    low : (l k z : ℤ) → int_le l k ≡ true → k ≤ℤ z → l ≤ℤ z
    low l k z e h = omega (arith, ints)

    high : (g k z : ℤ) → int_le k g ≡ true → z ≤ℤ k → z ≤ℤ g
    high g k z e h = omega (arith, ints)

-- a value of a type is one of the type in which it is computed, and a truth is one of each
computed_covers : (t : Elementary) → covers t (computed_of t) ≡ true
computed_covers BOOL = refl
computed_covers _ = refl

truth_covers : (t : Elementary) → covers BOOL t ≡ true
truth_covers BOOL = refl
truth_covers _ = refl

pub computed-held : (t : Elementary) (z : ℤ) → Holds t z → Holds (computed_of t) z
computed-held t z h = covers-held t (computed_of t) z (computed_covers t) h

pub truth-of-each : (t : Elementary) (z : ℤ) → Holds BOOL z → Holds t z
truth-of-each t z h = covers-held BOOL t z (truth_covers t) h

abbrev pub is_within : Option Elementary → Elementary → Bool
is_within None t = false
is_within (Some s) t = covers s t

within-held : (m : Option Elementary) (t : Elementary) (z : ℤ) → is_within m t ≡ true → IfSome m (λ s. Holds s z) → Holds t z
within-held None t z e h = absurd (cc)
within-held (Some s) t z e h = covers-held s t z e h

-- a function's way makes values of the type of its value
abbrev pub fits_manner : Elementary → Elementary → Option Manner → Bool
fits_manner given made None = true
fits_manner given made (Some (manner.Change c)) = is_within (change_type c) made
fits_manner given made (Some (manner.Join operation.Least)) = covers given made
fits_manner given made (Some (manner.Join operation.Greatest)) = covers given made
fits_manner given made (Some (manner.Join o)) = false
fits_manner given made (Some manner.Limit) = covers given made
fits_manner given made (Some manner.Select) = covers given made

abbrev pub fits : Function → Elementary → Bool
fits f t = fits_manner (computed_of t) (computed_of (result_of f t)) (manner_of f t)

all_fit : (f : Function) → list_all (fits f) ELEMENTARY ≡ true
all_fit function.Abs = refl
all_fit _ = refl

-- an argument is a value of the type of all
argument-held : (t : Elementary) (xs : List ℤ) (i : ℕ) → AllByRecursion (Holds t) xs → Holds t (argument xs i)
unfolding argument
argument-held t [] i h = zero-held t
argument-held t (x ∷ xs) zero h = h.0
argument-held t (x ∷ xs) (suc i) h = argument-held t xs i h.1

fold-held : (t : Elementary) (f : ℤ → ℤ → ℤ) → ((a b : ℤ) → Holds t a → Holds t b → Holds t (f a b)) →
    (a : ℤ) (xs : List ℤ) → Holds t a → AllByRecursion (Holds t) xs → Holds t (fold f a xs)
fold-held t f keeps a [] p h = p
fold-held t f keeps a (x ∷ xs) p h = fold-held t f keeps (f a x) xs (keeps a x p h.0) h.1

folded-held : (t : Elementary) (f : ℤ → ℤ → ℤ) → ((a b : ℤ) → Holds t a → Holds t b → Holds t (f a b)) →
    (xs : List ℤ) → AllByRecursion (Holds t) xs → Holds t (folded f xs)
unfolding folded
folded-held t f keeps [] h = zero-held t
folded-held t f keeps (x ∷ xs) h = fold-held t f keeps x xs h.0 h.1

chosen-held : (t : Elementary) (b : Bool) (x y : ℤ) → Holds t x → Holds t y → Holds t (if b then x else y)
chosen-held t true x y p q = p
chosen-held t false x y p q = q

manner-held : (given made : Elementary) (m : Manner) → fits_manner given made (Some m) ≡ true →
    (xs : List ℤ) → AllByRecursion (Holds given) xs → Holds made (manner_value m xs)
manner-held given made (manner.Change c) e xs h = within-held (change_type c) made _ e (change-held c (argument xs 0))
manner-held given made (manner.Join operation.Least) e xs h = covers-held given made _ e (folded-held given (operation_value operation.Least) (min-held given) xs h)
manner-held given made (manner.Join operation.Greatest) e xs h = covers-held given made _ e (folded-held given (operation_value operation.Greatest) (max-held given) xs h)
manner-held given made (manner.Join _) e xs h = absurd (cc)
manner-held given made manner.Limit e xs h = covers-held given made _ e
    (min-held given _ _ (max-held given _ _ (argument-held given xs 1 h) (argument-held given xs 0 h)) (argument-held given xs 2 h))
manner-held given made manner.Select e xs h = covers-held given made _ e
    (chosen-held given (is_true (argument xs 0)) _ _ (argument-held given xs 2 h) (argument-held given xs 1 h))

-- the value of a call is one of its type
abbrev pub IsHeld : Option Call → Type 0
IsHeld m = IfSome m (λ call. (values : List ℤ) → AllByRecursion (Holds (computed_of call.arguments)) values →
    Holds (computed_of call.result) (manner_value call.manner values))

made-by : (f : Function) (t : Elementary) (m : Option Manner) → fits_manner (computed_of t) (computed_of (result_of f t)) m ≡ true →
    IsHeld (option_map (λ (m : Manner). record { manner = m; arguments = t; result = result_of f t }) m)
made-by f t None e = tt
made-by f t (Some m) e = manner-held (computed_of t) (computed_of (result_of f t)) m e

made-held : (f : Function) (t : Elementary) → IsHeld (made_of f t)
unfolding made_of
made-held f t = made-by f t (manner_of f t) (every-type (fits f) (all_fit f) t)

of_argument : (f : Function) (m : Option Elementary) → IsHeld (option_and_then (made_of f) m)
of_argument f None = tt
of_argument f (Some t) = made-held f t

where_taken : (b : Bool) (x : Option Call) → IsHeld x → IsHeld (if b then x else None)
where_taken true x p = p
where_taken false x p = tt

pub call-held : (f : Function) (ts : List Elementary) → IsHeld (call_of f ts)
unfolding call_of
call-held f ts =
    where_taken (takes f (length ts)) (option_and_then (made_of f) (argument_of f ts)) (of_argument f (argument_of f ts))
