-- What the parts of an expression do with the operands that wait. IEC 61131-3 section 7.3.2
-- (expressions), in this project's profile.
use Rattle.std.specs.Prelude.{pos, Bool, true, false, if◌then◌else◌, Option, Some, None, List, [], ◌∷◌, reverse}
use Rattle.std.specs.List.{list_all}
use Rattle.iec_operands.specs.Operands.{Waiting, last_of, rest_of, type_of, value_of}
use Rattle.iec_operands.specs.declared.operand.Operand.{Operand}
use Rattle.iec_operands.specs.declared.operand.Operand.TheVariants.{Value, Arguments}
use Rattle.iec_tree.specs.declared.elementary.Elementary.{Elementary}
use Rattle.iec_tree.specs.declared.elementary.Elementary.TheVariants as type
use Rattle.iec_tree.specs.declared.function.Function.{Function}
use Rattle.iec_tree.specs.declared.operator.Operator.{Operator}
use Rattle.iec_values.specs.Changes.{change_value}
use Rattle.iec_values.specs.Functions.{call_of}
use Rattle.iec_values.specs.Operators.{contrary_of, join_of, negative_of}
use Rattle.iec_values.specs.Types.{widens}
use Rattle.iec_values.specs.declared.changes.Change.{Change}
use Rattle.iec_values.specs.declared.functions.Call.{Call}
use Rattle.iec_values.specs.declared.operators.Join.{Join}

-- one operand more
abbrev pub with_operand : Operand → Waiting → Waiting
with_operand o w = record w { held = o ∷ w.held }

-- a value of this type more, that is no constant
abbrev pub with_typed : Elementary → Waiting → Waiting
with_typed t w = with_operand (Value t (pos 0)) w

-- a statement begins, in which no type is wrong yet
abbrev pub begun : Waiting → Waiting
begun w = record w { mistyped = false }

-- a type is wrong, unless this holds
unfoldable pub mistyped_unless : Bool → Waiting → Waiting
mistyped_unless holds w = if holds then w else record w { mistyped = true }

-- the last operand is taken off
abbrev pub taken : Waiting → Waiting
taken w = record w { held = rest_of w.held }

-- ---- the minus and the NOT of the last operand, which keep its type

abbrev pub changed_by : Option Change → Operand → Waiting → Waiting
changed_by (Some c) o w = with_operand (Value (type_of o) (change_value c (value_of o))) w
changed_by None o w = with_operand o (mistyped_unless false w)

unfoldable pub negated : Waiting → Waiting
negated w = changed_by (negative_of (type_of (last_of w.held))) (last_of w.held) (taken w)

unfoldable pub inverted : Waiting → Waiting
inverted w = changed_by (contrary_of (type_of (last_of w.held))) (last_of w.held) (taken w)

-- ---- an operator joins the last two operands

abbrev pub joined_by : Option Join → Waiting → Waiting
joined_by (Some j) w = with_typed j.result w
joined_by None w = with_typed type.Dint (mistyped_unless false w)

unfoldable pub joined : Operator → Waiting → Waiting
joined op w =
    joined_by (join_of op (type_of (last_of (rest_of w.held))) (type_of (last_of w.held)))
    (taken (taken w))

-- ---- a function of the operands behind the last mark

-- the types of these, the last first, and what waits before them
abbrev pub arguments_of : List Operand → List Elementary
arguments_of [] = []
arguments_of (Arguments ∷ held) = []
arguments_of (Value t z ∷ held) = t ∷ arguments_of held

abbrev pub before_arguments : List Operand → List Operand
before_arguments [] = []
before_arguments (Arguments ∷ held) = held
before_arguments (Value t z ∷ held) = before_arguments held

abbrev pub called_by : Option Call → Waiting → Waiting
called_by (Some c) w = with_typed c.result w
called_by None w = with_typed type.Dint (mistyped_unless false w)

unfoldable pub called : Function → Waiting → Waiting
called f w =
    called_by (call_of f (reverse (arguments_of w.held)))
    (record w { held = before_arguments w.held })

-- ---- what is asked of the last operand, which is taken off

-- it widens to a type
unfoldable pub given : Elementary → Waiting → Waiting
given t w = mistyped_unless (widens (type_of (last_of w.held)) t) (taken w)

-- all operands behind the last mark widen to a type, and are taken off with the mark
unfoldable pub all_given : Elementary → Waiting → Waiting
all_given t w =
    mistyped_unless (list_all (λ s. widens s t) (reverse (arguments_of w.held)))
    (record w { held = before_arguments w.held })
