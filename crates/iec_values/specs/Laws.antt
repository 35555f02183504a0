-- What holds of the numbers that operations make, and of types that widen. This project's profile.
use Rattle.std.specs.Prelude.{◌≡◌, ◌≢◌, ℕ, ◌^◌, ◌<◌, ◌≤◌, ℤ, pos, ◌+ℤ◌, ◌-ℤ◌, ◌*ℤ◌, ◌≤ℤ◌, unsigned_abs, IfSome, List, true, false, Some, None, [], ◌∷◌}
use Rattle.std.specs.Int.{int_wrap, w16, w32}
use Rattle.std.specs.List.{AllByRecursion}
use Rattle.iec_tree.specs.declared.elementary.Elementary.{Elementary}
use Rattle.iec_tree.specs.declared.function.Function.{Function}
use Rattle.iec_tree.specs.declared.operator.Operator.{Operator}
use Rattle.iec_tree.specs.declared.elementary.Elementary.TheVariants.{Bool as BOOL, Int, Dint, Lreal}
use Rattle.iec_values.specs.Numbers.{quotient, remainder, nearest, rounded}
use Rattle.iec_values.specs.Changes.{change_type, change_value}
use Rattle.iec_values.specs.Conversions.{storing_of, widening_of}
use Rattle.iec_values.specs.Functions.{call_of, manner_value}
use Rattle.iec_values.specs.Operations.{operation_type, operation_value}
use Rattle.iec_values.specs.Operators.{contrary_of, join_of, negative_of}
use Rattle.iec_values.specs.declared.changes.Change.{Change}
use Rattle.iec_values.specs.declared.operations.Operation.{Operation}
use Rattle.iec_values.specs.Types.{Holds, billionths_of, common_of, computed_of, widens}
use Rattle.iec_values.specs.declared.operations.Operation.TheVariants.{LrealPlus, LrealMinus as LrealLess, LrealTimes, LrealOver}

-- a and b differ by a multiple of n
pub record DifferBy (n : ℕ) (a b : ℤ) : Type 0 where
  pub times : ℤ
  pub same : a ≡ b +ℤ times *ℤ pos n

-- q is n divided by d, toward zero: what it leaves is less than d in size, and has the sign of n
pub record IsTowardZero (n d q r : ℤ) : Type 0 where
  pub whole : q *ℤ d +ℤ r ≡ n
  pub left : unsigned_abs r < unsigned_abs d
  pub above : pos 0 ≤ℤ n → pos 0 ≤ℤ r
  pub below : n ≤ℤ pos 0 → r ≤ℤ pos 0

-- numbers wrap, divide, end and round as their words say, and LREALs are exact where they don't end
pub record AreExact : Type 0 where
  -- what wraps is the INT or DINT that differs by a multiple of 2^16 or 2^32
  pub int : (z : ℤ) → Holds Int (int_wrap w16 z)
  pub int_differs : (z : ℤ) → DifferBy (2 ^ 16) z (int_wrap w16 z)
  pub dint : (z : ℤ) → Holds Dint (int_wrap w32 z)
  pub dint_differs : (z : ℤ) → DifferBy (2 ^ 32) z (int_wrap w32 z)
  -- an INT or DINT stays as it is
  pub int_stays : (z : ℤ) → Holds Int z → int_wrap w16 z ≡ z
  pub dint_stays : (z : ℤ) → Holds Dint z → int_wrap w32 z ≡ z
  -- quotients are toward zero, and what they leave has the dividend's sign; by 0 both are 0
  pub divided : (a b : ℤ) → b ≢ pos 0 → IsTowardZero a b (quotient a b) (remainder a b)
  pub quotient_by_zero : (a : ℤ) → quotient a (pos 0) ≡ pos 0
  pub remainder_by_zero : (a : ℤ) → remainder a (pos 0) ≡ pos 0
  -- what ends is a value of the type, and no other value of it is nearer
  pub ended : (t : Elementary) (z : ℤ) → Holds t (nearest t z)
  pub near : (t : Elementary) (y z : ℤ) → Holds t y →
      unsigned_abs (nearest t z -ℤ z) ≤ unsigned_abs (y -ℤ z)
  -- a value of the type stays as it is
  pub stays : (t : Elementary) (z : ℤ) → Holds t z → nearest t z ≡ z
  -- a rounded number is within a half
  pub half : (z : ℤ) → unsigned_abs (rounded z *ℤ pos (10 ^ 9) -ℤ z) ≤ 500000000
  -- and of two that are, the one farther from zero
  pub halves : (y z : ℤ) → unsigned_abs (y *ℤ pos (10 ^ 9) -ℤ z) ≤ 500000000 →
      unsigned_abs y ≤ unsigned_abs (rounded z)
  -- sums and differences of LREALs that don't end are exact
  pub lreal_sum : (a b : ℤ) → Holds Lreal (a +ℤ b) → operation_value LrealPlus a b ≡ a +ℤ b
  pub lreal_difference : (a b : ℤ) → Holds Lreal (a -ℤ b) → operation_value LrealLess a b ≡ a -ℤ b
  -- products and quotients that don't end are toward zero, less than a billionth off
  pub lreal_product : (a b : ℤ) → Holds Lreal (quotient (a *ℤ b) (pos (10 ^ 9))) →
      IsTowardZero (a *ℤ b) (pos (10 ^ 9)) (operation_value LrealTimes a b)
      (remainder (a *ℤ b) (pos (10 ^ 9)))
  pub lreal_quotient : (a b : ℤ) → b ≢ pos 0 → Holds Lreal (quotient (a *ℤ pos (10 ^ 9)) b) →
      IsTowardZero (a *ℤ pos (10 ^ 9)) b (operation_value LrealOver a b)
      (remainder (a *ℤ pos (10 ^ 9)) b)

-- types widen in order: each to itself, and what widens to one widens on with it; and the common
-- type of two is the least to which both widen
pub record WidenInOrder : Type 0 where
  pub itself : (a : Elementary) → widens a a ≡ true
  pub onward : (a b c : Elementary) → widens a b ≡ true → widens b c ≡ true → widens a c ≡ true
  pub common : (a b c : Elementary) → common_of (a ∷ b ∷ []) ≡ Some c →
      (widens a c ≡ true) × (widens b c ≡ true)
  pub least : (a b c d : Elementary) → common_of (a ∷ b ∷ []) ≡ Some c →
      widens a d ≡ true → widens b d ≡ true → widens c d ≡ true
  pub none : (a b d : Elementary) → common_of (a ∷ b ∷ []) ≡ None →
      widens a d ≡ true → widens b d ≡ false

-- what the tables give is of the type that they say; expressions of INT are computed as DINTs, and
-- only what is stored in an INT is one
pub record AreOfTheirTypes : Type 0 where
  -- a value of a type may be computed with, and a BOOL, 0 or 1, is a value of each type
  pub computed : (t : Elementary) (z : ℤ) → Holds t z → Holds (computed_of t) z
  pub truths : (t : Elementary) (z : ℤ) → Holds BOOL z → Holds t z
  pub operations : (o : Operation) (a b : ℤ) →
      IfSome (operation_type o) (λ t. Holds t (operation_value o a b))
  pub changes : (c : Change) (z : ℤ) → IfSome (change_type c) (λ t. Holds t (change_value c z))
  pub operators : (o : Operator) (s t : Elementary) → IfSome (join_of o s t)
      (λ j. (a b : ℤ) → Holds (computed_of j.result) (operation_value j.operation a b))
  pub negatives : (t : Elementary) → IfSome (negative_of t)
      (λ c. (z : ℤ) → Holds (computed_of t) (change_value c z))
  pub contraries : (t : Elementary) → IfSome (contrary_of t)
      (λ c. (z : ℤ) → Holds (computed_of t) (change_value c z))
  -- of arguments that are of theirs
  pub calls : (f : Function) (ts : List Elementary) → IfSome (call_of f ts)
      (λ call. (values : List ℤ) →
      AllByRecursion (Holds (computed_of call.arguments)) values →
      Holds (computed_of call.result) (manner_value call.manner values))
  pub widened : (from to : Elementary) → IfSome (widening_of from to)
      (λ c. (z : ℤ) → Holds (computed_of from) z → Holds (computed_of to) (change_value c z))
  pub same : (from to : Elementary) → IfSome (widening_of from to)
      (λ c. (z : ℤ) → Holds (computed_of from) z →
      billionths_of to (change_value c z) ≡ billionths_of from z)
  pub stored : (from to : Elementary) → IfSome (storing_of from to)
      (λ c. (z : ℤ) → Holds (computed_of from) z → Holds to (change_value c z))
