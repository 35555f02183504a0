-- What operations and changes make are values of their types.
-- for: results_are_of_their_types
use Rattle.std.proofs.Common.{◌≡◌, subst, refl, ℤ, pos, ◌*ℤ◌, ◌^◌, arith, Bool, true, false, Option, Some, None, [], ◌∷◌}
use Rattle.std.specs.Prelude.{IfSome, option_map, if◌then◌else◌}
use Rattle.std.specs.Option.{option_and_then, option_or}
use Rattle.std.proofs.lemmas.Int.{ints}
use Rattle.iec_tree.specs.declared.elementary.Elementary.{Elementary}
use Rattle.iec_tree.specs.declared.elementary.Elementary.TheVariants.{Bool as BOOL, Int, Dint, Lreal, Time}
use Rattle.iec_tree.specs.declared.operator.Operator.{Operator}
use Rattle.iec_tree.specs.declared.operator.Operator.TheVariants as operator
use Rattle.iec_values.specs.Changes.{change_type, change_value}
use Rattle.iec_values.specs.Conversions.{storing_of, widening_of}
use Rattle.iec_values.specs.Operations.{operation_type, operation_value}
use Rattle.iec_values.specs.Operators.{join_of, contrary_of, negative_of, operation_of, paired_of, result_of, scaled_of}
use Rattle.iec_values.specs.Truths.{truth_of}
use Rattle.iec_values.specs.Types.{Holds, billionths_of, common_of, computed_of, widens}
use Rattle.iec_values.specs.declared.changes.Change.{Change}
use Rattle.iec_values.specs.declared.changes.Change.TheVariants as change
use Rattle.iec_values.specs.declared.operations.Operation.{Operation}
use Rattle.iec_values.specs.declared.operations.Operation.TheVariants as operation
use Rattle.iec_values.specs.declared.operators.Join.{Join}
use Rattle.iec_values.proofs.Bounds.{nearest-held, nearest-stays}
use Rattle.iec_values.proofs.Wrapping.{holds-int, holds-dint}

pub truth-held : (b : Bool) → Holds BOOL (truth_of b)
unfolding truth_of
truth-held true = record { above = record { le = tt }; below = record { le = tt } }
truth-held false = record { above = record { le = tt }; below = record { le = tt } }

pub operation-held : (o : Operation) (a b : ℤ) → IfSome (operation_type o) (λ t. Holds t (operation_value o a b))
operation-held operation.Or a b = truth-held _
operation-held operation.Xor a b = truth-held _
operation-held operation.And a b = truth-held _
operation-held operation.Equal a b = truth-held _
operation-held operation.Different a b = truth-held _
operation-held operation.Below a b = truth-held _
operation-held operation.AtMost a b = truth-held _
operation-held operation.Above a b = truth-held _
operation-held operation.AtLeast a b = truth-held _
operation-held operation.DintPlus a b = holds-dint _
operation-held operation.DintMinus a b = holds-dint _
operation-held operation.DintTimes a b = holds-dint _
operation-held operation.DintOver a b = holds-dint _
operation-held operation.DintMod a b = holds-dint _
operation-held operation.LrealPlus a b = nearest-held Lreal _
operation-held operation.LrealMinus a b = nearest-held Lreal _
operation-held operation.LrealTimes a b = nearest-held Lreal _
operation-held operation.LrealOver a b = nearest-held Lreal _
operation-held operation.TimePlus a b = nearest-held Time _
operation-held operation.TimeMinus a b = nearest-held Time _
operation-held operation.TimeTimes a b = nearest-held Time _
operation-held operation.TimeOver a b = nearest-held Time _
operation-held operation.Least a b = tt
operation-held operation.Greatest a b = tt

pub change-held : (c : Change) (z : ℤ) → IfSome (change_type c) (λ t. Holds t (change_value c z))
change-held change.Keep z = tt
change-held change.Truth z = truth-held _
change-held change.Not z = truth-held _
change-held change.ToInt z = holds-int _
change-held change.DintMinus z = holds-dint _
change-held change.DintAbs z = nearest-held Dint _
change-held change.LrealMinus z = nearest-held Lreal _
change-held change.LrealAbs z = nearest-held Lreal _
change-held change.TimeMinus z = nearest-held Time _
change-held change.IntToLreal z = nearest-held Lreal _
change-held change.DintToLreal z = nearest-held Lreal _
change-held change.LrealToDint z = nearest-held Dint _
change-held change.LrealToInt z = nearest-held Int _
change-held change.TimeToDint z = nearest-held Dint _
change-held change.DintToTime z = nearest-held Time _

-- the result of two operands is a value of the type in which it is computed
abbrev pub IsHeld : Option Join → Type 0
IsHeld m = IfSome m (λ j. (a b : ℤ) → Holds (computed_of j.result) (operation_value j.operation a b))

-- an operation in the table makes values of the type of its result
row : (t : Elementary) (o : Operator) → option_map (λ p. operation_type p) (operation_of t o) ≡ option_map (λ p. Some (computed_of (result_of (operation_type p) t))) (operation_of t o)
row BOOL operator.Or = refl
row Int operator.Or = refl
row Dint operator.Or = refl
row Lreal operator.Or = refl
row Time operator.Or = refl
row _ _ = refl

paired-by : (t : Elementary) (m : Option Operation) → option_map (λ p. operation_type p) m ≡ option_map (λ p. Some (computed_of (result_of (operation_type p) t))) m →
    IsHeld (option_map (λ (p : Operation). record { operation = p; left = t; right = t; result = result_of (operation_type p) t }) m)
paired-by t None e = tt
paired-by t (Some p) e = λ a b.
    let same : operation_type p ≡ Some (computed_of (result_of (operation_type p) t)) = cc in
    subst (λ (made : Option Elementary). IfSome made (λ u. Holds u (operation_value p a b))) same (operation-held p a b)

paired-held : (o : Operator) (t : Elementary) → IsHeld (paired_of o t)
unfolding paired_of
paired-held o t = paired-by t (operation_of t o) (row t o)

scaled-held : (o : Operator) (t : Elementary) → IsHeld (scaled_of o t)
unfolding scaled_of
scaled-held operator.Times Time = λ a b. nearest-held Time _
scaled-held operator.Over Time = λ a b. nearest-held Time _
scaled-held o t = tt

either : (x y : Option Join) → IsHeld x → IsHeld y → IsHeld (option_or x y)
either None y p q = q
either (Some x) y p q = p

where_true : (b : Bool) (x : Option Join) → IsHeld x → IsHeld (if b then x else None)
where_true true x p = p
where_true false x p = tt

of_common : (o : Operator) (m : Option Elementary) → IsHeld (option_and_then (paired_of o) m)
of_common o None = tt
of_common o (Some t) = paired-held o t

pub join-held : (o : Operator) (a b : Elementary) → IsHeld (join_of o a b)
unfolding join_of
join-held o a b =
    either (if widens b Dint then scaled_of o a else None) (option_and_then (paired_of o) (common_of (a ∷ b ∷ [])))
    (where_true (widens b Dint) (scaled_of o a) (scaled-held o a)) (of_common o (common_of (a ∷ b ∷ [])))

pub negative-held : (t : Elementary) → IfSome (negative_of t) (λ c. (z : ℤ) → Holds (computed_of t) (change_value c z))
negative-held BOOL = tt
negative-held Int = λ z. holds-dint _
negative-held Dint = λ z. holds-dint _
negative-held Lreal = λ z. nearest-held Lreal _
negative-held Time = λ z. nearest-held Time _

pub contrary-held : (t : Elementary) → IfSome (contrary_of t) (λ c. (z : ℤ) → Holds (computed_of t) (change_value c z))
contrary-held BOOL = λ z. truth-held _
contrary-held _ = tt

-- a DINT in billionths is an LREAL
billionths : (z : ℤ) → Holds Dint z → Holds Lreal (z *ℤ pos (10 ^ 9))
billionths z h = record { above = omega (arith, ints, h.above); below = omega (arith, ints, h.below) }

pub widening-same : (from to : Elementary) → IfSome (widening_of from to) (λ c. (z : ℤ) → Holds (computed_of from) z → billionths_of to (change_value c z) ≡ billionths_of from z)
widening-same BOOL BOOL = λ z h. refl
widening-same Int Int = λ z h. refl
widening-same Int Dint = λ z h. refl
widening-same Int Lreal = λ z h. nearest-stays Lreal _ (billionths z h)
widening-same Dint Dint = λ z h. refl
widening-same Dint Lreal = λ z h. nearest-stays Lreal _ (billionths z h)
widening-same Lreal Lreal = λ z h. refl
widening-same Time Time = λ z h. refl
widening-same _ _ = tt

pub widening-held : (from to : Elementary) → IfSome (widening_of from to) (λ c. (z : ℤ) → Holds (computed_of from) z → Holds (computed_of to) (change_value c z))
widening-held BOOL BOOL = λ z h. h
widening-held Int Int = λ z h. h
widening-held Int Dint = λ z h. h
widening-held Int Lreal = λ z h. nearest-held Lreal _
widening-held Dint Dint = λ z h. h
widening-held Dint Lreal = λ z h. nearest-held Lreal _
widening-held Lreal Lreal = λ z h. h
widening-held Time Time = λ z h. h
widening-held _ _ = tt

pub storing-held : (from to : Elementary) → IfSome (storing_of from to) (λ c. (z : ℤ) → Holds (computed_of from) z → Holds to (change_value c z))
storing-held BOOL BOOL = λ z h. h
storing-held Int Int = λ z h. holds-int z
storing-held Int Dint = λ z h. h
storing-held Int Lreal = λ z h. nearest-held Lreal _
storing-held Dint Dint = λ z h. h
storing-held Dint Lreal = λ z h. nearest-held Lreal _
storing-held Lreal Lreal = λ z h. h
storing-held Time Time = λ z h. h
storing-held _ _ = tt
