-- What the parts of expressions do. This project's profile.
use Rattle.std.specs.Prelude.{ℕ, ◌-◌, suc, Bool, false, nat_lt, if◌then◌else◌, is_some, Option, Some, None, List, [], ◌∷◌, ◌++◌}
use Rattle.st_check.specs.Checked.{Checked, broken_unless, lost_unless, mistyped_unless}
use Rattle.st_check.specs.Declarations.{fits, signed}
use Rattle.st_check.specs.Names.{sort_of}
use Rattle.st_check.specs.Typed.{is_same, joins, last_of, rest_of, type_by}
use Rattle.st_check.specs.declared.known.Sort.{Sort}
use Rattle.st_check.specs.declared.known.Sort.TheVariants as sort
use Rattle.st_check.specs.declared.known.ValueType.{ValueType}
use Rattle.st_check.specs.declared.known.ValueType.TheVariants as type
use Rattle.st_tree.specs.declared.part.Part.{Part}
use Rattle.st_tree.specs.declared.part.Part.TheVariants as part
use Rattle.plc_types.specs.declared.flag.Flag.{Flag}
use Rattle.st_tree.specs.declared.expression.Operator.{Operator}

-- an operand of this type
unfoldable pub operand : ValueType → Part → Checked → Checked
operand t p c = record c { types = t ∷ c.types; parts = c.parts ++ p ∷ [] }

-- the last operand is taken; its type is wrong unless it is this
unfoldable pub taken : ValueType → Checked → Checked
taken t c =
    mistyped_unless (is_same (last_of c.types) t) (record c { types = rest_of c.types })

-- a number
unfoldable pub number : ℕ → ℕ → Checked → Checked
number line size c =
    operand type.Dint (part.Number (signed false size)) (broken_unless (fits size) line 5 c)

-- a truth value
unfoldable pub truth : Bool → Checked → Checked
truth b c = operand type.Bool (part.Truth b) c

-- a name is one of the task
unfoldable pub name : ℕ → List ℕ → Checked → Checked
name line n c =
    record (lost_unless (is_some (sort_of c n)) line c) {
      name = record { sort = sort_of c n; line = line };
    }

-- the name is a variable's
abbrev pub variable_of : Option Sort → Checked → Checked
variable_of (Some (sort.Variable k t)) c = operand t (part.Variable k) c
variable_of (Some (sort.Block b)) c = operand type.Dint (part.Variable 0) (lost_unless false c.name.line c)
variable_of None c = operand type.Dint (part.Variable 0) (lost_unless false c.name.line c)

unfoldable pub variable : Checked → Checked
variable c = variable_of c.name.sort c

-- the name is a block's, of which a flag is asked
abbrev pub flag_of : Flag → Option Sort → Checked → Checked
flag_of f (Some (sort.Block b)) c = operand type.Bool (part.Flag b.number f) c
flag_of f (Some (sort.Variable k t)) c = operand type.Bool (part.Flag 0 f) (lost_unless false c.name.line c)
flag_of f None c = operand type.Bool (part.Flag 0 f) (lost_unless false c.name.line c)

unfoldable pub flag : Flag → Checked → Checked
flag f c = flag_of f c.name.sort c

-- an `IF`, a `CASE` or a parenthesis opens; at most 32 are open
unfoldable pub opens : ℕ → Checked → Checked
opens line c =
    broken_unless (nat_lt c.nested 32) line 6
    (record c { nested = if nat_lt c.nested 32 then suc c.nested else c.nested })

-- one closes
unfoldable pub closes : Checked → Checked
closes c = record c { nested = c.nested - 1 }

-- the operand of `-` or `NOT` is of this type
unfoldable pub changed : ValueType → Part → Checked → Checked
changed t p c = operand t p (taken t c)

-- an operator joins the last two operands
unfoldable pub joined : Operator → Checked → Checked
joined op c =
    operand (type_by op) (part.Join op)
    (mistyped_unless (joins op (last_of (rest_of c.types)) (last_of c.types))
    (record c { types = rest_of (rest_of c.types) }))
