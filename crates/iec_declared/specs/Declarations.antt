-- What the parts of programs and declarations do. IEC 61131-3 section 6.5, in this project's
-- profile: which sorts of blocks there are, and how many variables and elements.
use Rattle.std.specs.Prelude.{ℕ, ◌+◌, ◌-◌, ◌^◌, ◌==◌, min, nat_le, ℤ, pos, Bool, true, false, not, ◌&&◌, ◌||◌, if◌then◌else◌, is_none, is_some, Option, Some, None, List, [], ◌∷◌, ◌++◌, length}
use Rattle.iec_declared.specs.Constants.{size_of}
use Rattle.iec_declared.specs.Stand.{Declared, broken_unless, ended, lost_unless, opened, stopped_unless}
use Rattle.iec_declared.specs.declared.known.Declaration.{Declaration}
use Rattle.iec_declared.specs.declared.known.Expected.TheVariants as expected
use Rattle.iec_declared.specs.declared.known.MotionBlock.{MotionBlock}
use Rattle.iec_declared.specs.declared.known.Range.{Range}
use Rattle.iec_declared.specs.declared.known.Shape.{Shape}
use Rattle.iec_declared.specs.declared.known.Shape.TheVariants as shape
use Rattle.iec_declared.specs.declared.known.Used.{Used}
use Rattle.iec_names.specs.Scopes.{found_globally, is_free_globally, is_free_locally, with_global, with_local, without_locals}
use Rattle.iec_names.specs.declared.sort.Elements.{Elements}
use Rattle.iec_names.specs.declared.sort.Sort.{Sort}
use Rattle.iec_names.specs.declared.sort.Sort.TheVariants as sort
use Rattle.iec_operands.specs.Expressions.{all_given, given, mistyped_unless, with_operand}
use Rattle.iec_operands.specs.Operands.{last_of, type_of, value_of}
use Rattle.iec_operands.specs.declared.operand.Operand.{Operand}
use Rattle.iec_operands.specs.declared.operand.Operand.TheVariants.{Arguments}
use Rattle.iec_tree.specs.declared.elementary.Elementary.{Elementary}
use Rattle.iec_tree.specs.declared.elementary.Elementary.TheVariants as type
use Rattle.iec_tree.specs.declared.motion.Motion.{Motion}
use Rattle.iec_tree.specs.declared.motion.Motion.TheVariants as motion
use Rattle.iec_tree.specs.declared.section.Section.{Section}
use Rattle.iec_tree.specs.declared.section.Section.TheVariants as section
use Rattle.iec_values.specs.Changes.{change_value}
use Rattle.iec_values.specs.Conversions.{storing_of}
use Rattle.iec_values.specs.declared.changes.Change.{Change}

-- ---- programs

-- PROGRAM: its name follows
unfoldable pub program : Declared → Declared
program d = record d {
  names = without_locals d.names;
  in_program = true;
  expected = expected.Program;
}

-- a name begins with a letter: not with a `_`
abbrev pub begins_with_letter : List ℕ → Bool
begins_with_letter [] = false
begins_with_letter (b ∷ name) = not (b == 95)

-- a program of this name, which is a new one
unfoldable pub program_named : Used → Declared → Declared
program_named u d =
    lost_unless (is_free_globally d.names u.name && begins_with_letter u.name) u.line (record d {
      names = with_global u.name (sort.Program d.counts.programs) d.names;
      counts = record d.counts { programs = min (d.counts.programs + 1) (2 ^ 16 - 1) };
      expected = expected.Known;
    })

-- ---- names that are declared

-- a section begins
abbrev pub in_section : Section → Declared → Declared
in_section s d = record d { declaration = record d.declaration { section = s } }

-- a declaration begins with its first name
unfoldable pub opened_once : ℕ → Declared → Declared
opened_once line d = if d.clause.begun then d else opened line d

-- a name is that of an input of the machine
abbrev pub is_input : Option Sort → Bool
is_input (Some (sort.MachineInput k)) = true
is_input _ = false

-- VAR_INPUT declares inputs of the machine
abbrev pub is_there : Section → Option Sort → Bool
is_there section.Inputs s = is_input s
is_there _ s = true

-- a name may be declared where it stands
unfoldable pub is_free : Declared → List ℕ → Bool
is_free d name =
    if d.in_program then is_free_locally d.names name else is_free_globally d.names name

unfoldable pub may_declare : Declared → List ℕ → Bool
may_declare d name =
    is_free d name && is_there d.declaration.section (found_globally d.names name)

-- a name of the program, or of the whole text
unfoldable pub with_name : List ℕ → Sort → Declared → Declared
with_name name s d = record d {
  names = if d.in_program then with_local name s d.names else with_global name s d.names;
}

-- one more name of a declaration, which is a new one
abbrev pub declares_in : Used → Declared → Declared
declares_in u d =
    lost_unless (may_declare d u.name) u.line
    (with_name u.name sort.Coming (record d { together = d.together ++ u ∷ [] }))

unfoldable pub declares : Used → Declared → Declared
declares u d = declares_in u (opened_once u.line d)

-- ---- first values

-- `:=`
unfoldable pub initial : Declared → Declared
initial d = record d { declaration = record d.declaration { has_initial = true } }

-- `[`: the values that follow are counted
unfoldable pub list : Declared → Declared
list d = record d {
  declaration = record d.declaration { has_list = true; values = 0 };
  operands = with_operand Arguments d.operands;
}

-- the type of the values; a block has none
abbrev pub type_by : Shape → Elementary
type_by (shape.Variable t) = t
type_by (shape.Standard b) = type.Dint
type_by (shape.Motion m) = type.Dint

-- `]`: the values are of the type
unfoldable pub list_end : Declared → Declared
list_end d = record d { operands = all_given (type_by d.declaration.shape) d.operands }

-- ---- what a declaration may be

-- a variable, and a BOOL
abbrev pub is_variable : Shape → Bool
is_variable (shape.Variable t) = true
is_variable _ = false

abbrev pub is_bool : Shape → Bool
is_bool (shape.Variable type.Bool) = true
is_bool _ = false

-- an array has a list of values, a variable one value, and a block none
unfoldable pub may_have_initial : Declaration → Bool
may_have_initial c =
    is_variable c.shape && (if c.has_list then is_some c.array else is_none c.array)

-- an input of the machine is a BOOL
abbrev pub has_type_of : Section → Declaration → Bool
has_type_of section.Inputs c = is_bool c.shape && is_none c.array
has_type_of _ c = true

unfoldable pub is_typed : Declaration → Bool
is_typed c = has_type_of c.section c && (not c.has_initial || may_have_initial c)

-- constants have first values, inputs have none
abbrev pub has_initial_of : Section → Bool → Bool
has_initial_of section.Constants has = has
has_initial_of section.Inputs has = not has
has_initial_of _ has = true

-- ---- what its names name

-- what is stored of a constant
abbrev pub stored_by : Option Change → ℤ → ℤ
stored_by (Some c) z = change_value c z
stored_by None z = pos 0

-- the value of a constant that is declared
unfoldable pub constant_in : Operand → Elementary → ℤ
constant_in o t = stored_by (storing_of (type_of o) t) (value_of o)

-- how many variables and elements a name stands for: a block that reads counts as one, and others
-- that move as none
abbrev pub is_reading : Motion → Bool
is_reading motion.ReadActualPosition = true
is_reading motion.ReadActualVelocity = true
is_reading motion.ReadStatus = true
is_reading motion.ReadAxisError = true
is_reading _ = false

abbrev pub cells_by : Shape → Option Range → ℕ
cells_by (shape.Motion m) r = if is_reading m then 1 else 0
cells_by (shape.Standard b) r = 1
cells_by (shape.Variable t) (Some r) = size_of r
cells_by (shape.Variable t) None = 1

unfoldable pub cells_after : Declared → ℕ
cells_after d =
    min (d.counts.cells + cells_by d.declaration.shape d.declaration.array) (2 ^ 32 - 1)

-- the number of an input of the machine
abbrev pub input_of : Option Sort → ℕ
input_of (Some (sort.MachineInput k)) = k
input_of _ = 0

abbrev pub is_constants : Section → Bool
is_constants section.Constants = true
is_constants _ = false

-- a variable of a section
abbrev pub variable_in : Section → Elementary → ℤ → ℕ → Option Sort → Sort
variable_in section.Constants t z place s = sort.Constant t z
variable_in section.Inputs t z place s = sort.Input (input_of s)
variable_in _ t z place s = sort.Variable t place false

-- elements of a section
abbrev pub elements_in : Elementary → Range → Declared → Elements
elements_in t r d = record {
  of = t;
  place = d.counts.cells;
  first = r.first;
  last = r.last;
  constant = is_constants d.declaration.section;
}

abbrev pub sort_by : Shape → Option Range → ℤ → List ℕ → Declared → Sort
sort_by (shape.Motion m) r z name d = sort.Motion (min (length d.blocks) (2 ^ 32 - 1))
sort_by (shape.Standard b) r z name d = sort.Standard b d.counts.cells
sort_by (shape.Variable t) (Some r) z name d = sort.Elements (elements_in t r d)
sort_by (shape.Variable t) None z name d =
    variable_in d.declaration.section t z d.counts.cells (found_globally d.names name)

unfoldable pub sort_of : List ℕ → ℤ → Declared → Sort
sort_of name z d = sort_by d.declaration.shape d.declaration.array z name d

-- the name of a block begins with a letter, unless it reads
abbrev pub may_be_called : Motion → List ℕ → Bool
may_be_called m name = is_reading m || begins_with_letter name

-- a motion block
abbrev pub block_of : Used → Motion → Declared → MotionBlock
block_of u m d = record {
  used = u;
  program = d.counts.programs - 1;
  motion = m;
  has_object = d.declaration.has_object;
  object = d.declaration.object;
}

abbrev pub with_block : Shape → Used → Declared → Declared
with_block (shape.Motion m) u d =
    lost_unless (may_be_called m u.name) u.line
    (record d { blocks = d.blocks ++ block_of u m d ∷ [] })
with_block _ u d = d

-- at most 65,536 variables and elements
abbrev pub counted : Used → Declared → Declared
counted u d =
    stopped_unless (nat_le (cells_after d) 65536) u.line 6
    (record d { counts = record d.counts { cells = cells_after d } })

-- a name of the declaration, unless reading has stopped
unfoldable pub defined_now : ℤ → Declared → Used → Declared
defined_now z d u =
    with_block d.declaration.shape u (with_name u.name (sort_of u.name z d) (counted u d))

unfoldable pub defined : ℤ → Declared → Used → Declared
defined z d u = if d.stopped then d else defined_now z d u

-- all its names, one after another
abbrev pub all_defined : List Used → ℤ → Declared → Declared
all_defined [] z d = d
all_defined (u ∷ us) z d = all_defined us z (defined z d u)

unfoldable pub together_defined : ℤ → Declared → Declared
together_defined z d = all_defined d.together z d

-- ---- the end of a declaration

-- its first value is of its type
abbrev pub initial_given : Declared → Declared
initial_given d =
    if d.declaration.has_initial && not d.declaration.has_list
    then record d { operands = given (type_by d.declaration.shape) d.operands } else d

-- its value as a constant
unfoldable pub initial_value : Declared → ℤ
initial_value d =
    if d.declaration.has_initial && not d.declaration.has_list
    then constant_in (last_of d.operands.held) (type_by d.declaration.shape) else pos 0

-- types and first values are as they may be
unfoldable pub judged : Declared → Declared
judged d =
    broken_unless (has_initial_of d.declaration.section d.declaration.has_initial) d.clause.line 5
    (record d { operands = mistyped_unless (is_typed d.declaration) d.operands })

-- the end, unless reading has stopped
unfoldable pub ended_unless_stopped : Declared → Declared
ended_unless_stopped d = if d.stopped then d else ended d

unfoldable pub declaration_end : Declared → Declared
declaration_end d =
    ended_unless_stopped (together_defined (initial_value d) (judged (initial_given d)))
