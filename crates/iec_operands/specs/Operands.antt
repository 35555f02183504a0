-- The operands that wait, the last first, and whether a type was wrong. IEC 61131-3 section 7.3.2
-- (expressions), in this project's profile.
use Rattle.std.specs.Prelude.{ℤ, pos, Bool, false, List, [], ◌∷◌}
use Rattle.iec_operands.specs.declared.operand.Operand.{Operand}
use Rattle.iec_operands.specs.declared.operand.Operand.TheVariants.{Value, Arguments}
use Rattle.iec_tree.specs.declared.elementary.Elementary.{Elementary}
use Rattle.iec_tree.specs.declared.elementary.Elementary.TheVariants as type

-- the operands that wait; and whether a type was wrong since the last statement
pub record Waiting : Type 0 where
  pub held : List Operand
  pub mistyped : Bool

-- none waits
abbrev pub nothing : Waiting
nothing = record { held = []; mistyped = false }

-- the type and the value of an operand; a mark counts as a DINT
abbrev pub type_of : Operand → Elementary
type_of (Value t z) = t
type_of Arguments = type.Dint

abbrev pub value_of : Operand → ℤ
value_of (Value t z) = z
value_of Arguments = pos 0

-- the last operand, and those before it; where there is none it counts as a DINT
unfoldable pub last_of : List Operand → Operand
last_of [] = Value type.Dint (pos 0)
last_of (o ∷ held) = o

unfoldable pub rest_of : List Operand → List Operand
rest_of [] = []
rest_of (o ∷ held) = held
