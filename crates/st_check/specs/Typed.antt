-- The types of operands. IEC 61131-3, in this project's profile.
use Rattle.std.specs.Prelude.{Bool, true, false, ◌&&◌, List, [], ◌∷◌}
use Rattle.st_check.specs.declared.known.ValueType.{ValueType}
use Rattle.st_check.specs.declared.known.ValueType.TheVariants as type
use Rattle.st_tree.specs.declared.expression.Operator.{Operator}
use Rattle.st_tree.specs.declared.expression.Operator.TheVariants as operator

-- whether two types are the same
abbrev pub is_same : ValueType → ValueType → Bool
is_same type.Bool type.Bool = true
is_same type.Bool type.Dint = false
is_same type.Dint type.Bool = false
is_same type.Dint type.Dint = true

-- whether both are this type
abbrev pub are : ValueType → ValueType → ValueType → Bool
are t a b = is_same a t && is_same b t

-- whether an operator joins operands of these types: AND and OR take BOOL, both sides of `=` and
-- `<>` have one type, order and arithmetic take DINT
abbrev pub joins : Operator → ValueType → ValueType → Bool
joins operator.Or a b = are type.Bool a b
joins operator.And a b = are type.Bool a b
joins operator.Equal a b = is_same a b
joins operator.Different a b = is_same a b
joins operator.Below a b = are type.Dint a b
joins operator.AtMost a b = are type.Dint a b
joins operator.Above a b = are type.Dint a b
joins operator.AtLeast a b = are type.Dint a b
joins operator.Plus a b = are type.Dint a b
joins operator.Minus a b = are type.Dint a b
joins operator.Times a b = are type.Dint a b

-- the type of what it makes of them
abbrev pub type_by : Operator → ValueType
type_by operator.Or = type.Bool
type_by operator.And = type.Bool
type_by operator.Equal = type.Bool
type_by operator.Different = type.Bool
type_by operator.Below = type.Bool
type_by operator.AtMost = type.Bool
type_by operator.Above = type.Bool
type_by operator.AtLeast = type.Bool
type_by operator.Plus = type.Dint
type_by operator.Minus = type.Dint
type_by operator.Times = type.Dint

-- the type of the last operand that waits
abbrev pub last_of : List ValueType → ValueType
last_of [] = type.Dint
last_of (t ∷ types) = t

-- and the types of those before
abbrev pub rest_of : List ValueType → List ValueType
rest_of [] = []
rest_of (t ∷ types) = types
