-- The operators that there are for operands of each type, and what they give. IEC 61131-3 section
-- 7.3.2 (expressions), in this project's profile.
use Rattle.std.specs.Prelude.{if◌then◌else◌, Option, Some, None, option_map, [], ◌∷◌}
use Rattle.std.specs.Option.{option_and_then, option_or}
use Rattle.iec_tree.specs.declared.elementary.Elementary.{Elementary}
use Rattle.iec_tree.specs.declared.elementary.Elementary.TheVariants.{Bool as BOOL, Int, Dint, Lreal, Time}
use Rattle.iec_tree.specs.declared.operator.Operator.{Operator}
use Rattle.iec_tree.specs.declared.operator.Operator.TheVariants.{Or, Xor, And, Equal, Different, Below, AtMost, Above, AtLeast, Plus, Minus, Times, Over, Mod}
use Rattle.iec_values.specs.Operations.{operation_type}
use Rattle.iec_values.specs.Types.{common_of, widens}
use Rattle.iec_values.specs.declared.changes.Change.{Change}
use Rattle.iec_values.specs.declared.changes.Change.TheVariants as change
use Rattle.iec_values.specs.declared.operations.Operation.{Operation}
use Rattle.iec_values.specs.declared.operations.Operation.TheVariants as operation
use Rattle.iec_values.specs.declared.operators.Join.{Join}

-- comparisons of two values of one type
abbrev pub comparison_of : Operator → Option Operation
comparison_of Equal = Some operation.Equal
comparison_of Different = Some operation.Different
comparison_of Below = Some operation.Below
comparison_of AtMost = Some operation.AtMost
comparison_of Above = Some operation.Above
comparison_of AtLeast = Some operation.AtLeast
comparison_of o = None

-- the operation of an operator on two operands of one type, if there is one: a BOOL has no order,
-- an LREAL no MOD, and a TIME neither * nor / with a TIME
abbrev pub operation_of : Elementary → Operator → Option Operation
operation_of BOOL Or = Some operation.Or
operation_of BOOL Xor = Some operation.Xor
operation_of BOOL And = Some operation.And
operation_of BOOL Equal = Some operation.Equal
operation_of BOOL Different = Some operation.Different
operation_of BOOL o = None
operation_of Lreal Plus = Some operation.LrealPlus
operation_of Lreal Minus = Some operation.LrealMinus
operation_of Lreal Times = Some operation.LrealTimes
operation_of Lreal Over = Some operation.LrealOver
operation_of Lreal o = comparison_of o
operation_of Time Plus = Some operation.TimePlus
operation_of Time Minus = Some operation.TimeMinus
operation_of Time o = comparison_of o
operation_of t Plus = Some operation.DintPlus
operation_of t Minus = Some operation.DintMinus
operation_of t Times = Some operation.DintTimes
operation_of t Over = Some operation.DintOver
operation_of t Mod = Some operation.DintMod
operation_of t o = comparison_of o

-- a truth is a BOOL, all else has the type of the operands
abbrev pub result_of : Option Elementary → Elementary → Elementary
result_of (Some BOOL) t = BOOL
result_of made t = t

-- two operands that widen to one type
unfoldable pub paired_of : Operator → Elementary → Option Join
paired_of o t = option_map
    (λ (p : Operation). record {
      operation = p;
      left = t;
      right = t;
      result = result_of (operation_type p) t;
    })
    (operation_of t o)

-- a TIME on the left of a whole number
abbrev pub scaled : Operation → Join
scaled p = record { operation = p; left = Time; right = Dint; result = Time }

-- the same by an operator, if there is one for these operands
unfoldable pub scaled_of : Operator → Elementary → Option Join
scaled_of Times Time = Some (scaled operation.TimeTimes)
scaled_of Over Time = Some (scaled operation.TimeOver)
scaled_of o t = None

-- what an operator makes of two operands by their types: the operation, the types to which the
-- operands widen, and that of the result
unfoldable pub join_of : Operator → Elementary → Elementary → Option Join
join_of o a b = option_or (if widens b Dint then scaled_of o a else None)
    (option_and_then (paired_of o) (common_of (a ∷ b ∷ [])))

-- the minus of a value, which is of the same type
abbrev pub negative_of : Elementary → Option Change
negative_of BOOL = None
negative_of Int = Some change.DintMinus
negative_of Dint = Some change.DintMinus
negative_of Lreal = Some change.LrealMinus
negative_of Time = Some change.TimeMinus

-- the NOT of a value, which is of the same type
abbrev pub contrary_of : Elementary → Option Change
contrary_of BOOL = Some change.Not
contrary_of t = None
