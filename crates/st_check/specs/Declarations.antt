-- What tasks and declarations do. This project's profile.
use Rattle.std.specs.Prelude.{ℕ, suc, ◌-◌, ℤ, pos, neg_ℤ, Bool, false, not, nat_le, nat_lt, min, if◌then◌else◌, is_none, is_some, Option, Some, None, List, [], ◌∷◌, ◌++◌, length}
use Rattle.std.specs.Option.{option_map_or}
use Rattle.plc_types.specs.declared.kind.BlockKind.{BlockKind}
use Rattle.machine_words.specs.Names.{object_at}
use Rattle.motion_history.specs.Calls.{axes_of}
use Rattle.motion_history.specs.Faults.{block_fault, task_fault, whole_fault}
use Rattle.motion_history.specs.Setup.{Setup}
use Rattle.motion_history.specs.declared.config.BlockDef.{BlockDef}
use Rattle.motion_history.specs.declared.fault.ConfigFault.{ConfigFault}
use Rattle.st_check.specs.Checked.{Checked, broken, broken_unless, lost_unless, with_part}
use Rattle.st_check.specs.Names.{is_taken}
use Rattle.st_check.specs.declared.known.Sort.{Sort}
use Rattle.st_check.specs.declared.known.Sort.TheVariants as sort
use Rattle.st_check.specs.declared.known.ValueType.{ValueType}
use Rattle.st_check.specs.declared.known.ValueType.TheVariants as type
use Rattle.st_tree.specs.declared.part.Part.TheVariants as part
use Rattle.st_tree.specs.declared.program.Start.{Start}
use Rattle.st_tree.specs.declared.program.Start.TheVariants as start

-- PROGRAM: there are at most 8 tasks; names of another task's variables are free again
unfoldable pub program : ℕ → Checked → Checked
program line c =
    broken_unless (nat_lt (length c.setup.tasks) 8) line 6 (record c {
      known = [];
      variables = 0;
      blocks_before = length c.setup.blocks;
    })

-- an item is added to the machine where no rule is broken so far; one that the machine can't have
-- breaks S6
abbrev pub added : ℕ → Option ConfigFault → Setup → Checked → Checked
added line refusal after c =
    if is_some c.fault then c
    else if is_none refusal then record c { setup = after } else broken line 6 c

-- the machine with a task
unfoldable pub machine_with_task : ℕ → List ℕ → Checked → Checked
machine_with_task line name c =
    added line (task_fault c.setup name) (record c.setup { tasks = c.setup.tasks ++ name ∷ [] }) c

-- a task begins, in which nothing is named yet
abbrev pub with_name : List ℕ → Checked → Checked
with_name name c = record c {
  used = c.used ++ name ∷ [];
  known = [];
  statement = record c.statement { target = None };
  call = record c.call { callee = None; slot = None };
  names = c.names ++ name ∷ [];
  parts = c.parts ++ part.Task ∷ [];
}

-- a task with this name
abbrev pub with_task : ℕ → List ℕ → Checked → Checked
with_task line name c = with_name name (machine_with_task line name c)

-- the name of a task is a new one
unfoldable pub task_name : ℕ → List ℕ → Checked → Checked
task_name line name c = with_task line name (lost_unless (not (is_taken c name)) line c)

-- the name of a variable or a block is a new one
unfoldable pub declares : ℕ → List ℕ → Checked → Checked
declares line name c =
    record (lost_unless (not (is_taken c name)) line c) {
      declaration = record { name = Some name; line = line; kind = None };
    }

-- the type of a variable
abbrev pub type_of : Start → ValueType
type_of (start.Bool b) = type.Bool
type_of (start.Dint z) = type.Dint

-- a variable of the task
abbrev pub with_variable : Start → List ℕ → Checked → Checked
with_variable start name c = record c {
  known = c.known ++ record { name = name; sort = sort.Variable c.variables (type_of start) } ∷ [];
  variables = min (suc c.variables) 4294967295;
  names = c.names ++ name ∷ [];
  parts = c.parts ++ part.Declared start ∷ [];
}

-- what is declared is a variable
unfoldable pub variable : Start → Checked → Checked
variable start c =
    option_map_or (λ name. with_variable start name c) c.declaration.name
    (lost_unless false c.declaration.line c)

-- a number with its sign; what stands for one that is too great counts as the greatest
unfoldable pub signed : Bool → ℕ → ℤ
signed negative size =
    if negative then neg_ℤ (pos (min size 2147483647)) else pos (min size 2147483647)

-- a number goes up to 2,147,483,647
abbrev pub fits : ℕ → Bool
fits size = nat_le size 2147483647

-- a DINT begins with a number
unfoldable pub dint : ℕ → Bool → ℕ → Checked → Checked
dint line negative size c =
    variable (start.Dint (signed negative size)) (broken_unless (fits size) line 5 c)

-- what is declared is a block; there are at most 256
unfoldable pub block : BlockKind → Checked → Checked
block kind c =
    record (broken_unless (nat_lt (length c.setup.blocks) 256) c.declaration.line 6 c) {
      declaration = record c.declaration { kind = Some kind };
    }

-- the number of the task that is under way
abbrev pub task_of : Checked → ℕ
task_of c = length c.setup.tasks - 1

-- a block of the task
abbrev pub block_of : Checked → List ℕ → BlockKind → ℕ → BlockDef
block_of c name kind object =
    record { name = name; task = task_of c; kind = kind; object = object }

-- the machine with a block
unfoldable pub machine_with_block : ℕ → BlockDef → Checked → Checked
machine_with_block line b c =
    added line (block_fault c.setup b.name b.task b.kind b.object)
    (record c.setup { blocks = c.setup.blocks ++ b ∷ [] }) c

-- what may be called
abbrev pub callee_of : Checked → BlockDef → Sort
callee_of c b = sort.Block (record {
  number = length c.setup.blocks;
  kind = b.kind;
  axes = axes_of c.setup b;
})

-- a block may be called
abbrev pub with_callee : BlockDef → Sort → Checked → Checked
with_callee b callee c = record c {
  used = c.used ++ b.name ∷ [];
  known = c.known ++ record { name = b.name; sort = callee } ∷ [];
}

-- a block of the task
abbrev pub with_block : ℕ → BlockDef → Checked → Checked
with_block line b c = with_callee b (callee_of c b) (machine_with_block line b c)

-- a block of this name and kind acts on this axis or group, which is there
abbrev pub acts_on : ℕ → List ℕ → List ℕ → BlockKind → Checked → Checked
acts_on line object name kind c =
    option_map_or (λ place. with_block line (block_of c name kind place) c)
    (object_at c.setup kind object) (lost_unless false line c)

-- the axis or group on which the block acts
unfoldable pub object : ℕ → List ℕ → Checked → Checked
object line name c =
    option_map_or
    (λ declared. option_map_or (λ kind. acts_on line name declared kind c) c.declaration.kind c)
    c.declaration.name c

-- the declarations end
unfoldable pub body : Checked → Checked
body c =
    record (with_part (part.Body (length c.setup.blocks - c.blocks_before)) c) {
      blocks_before = length c.setup.blocks;
    }

-- the text's end: there is a block
unfoldable pub end : ℕ → Checked → Checked
end line c = broken_unless (is_none (whole_fault c.setup)) line 6 c
