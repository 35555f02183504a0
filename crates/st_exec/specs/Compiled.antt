-- What contracts see of the code of a program. This project's profile.
use Rattle.std.specs.Prelude.{ℕ, ℤ, Bool, true, false, ◌&&◌, Option, Some, None, codes, position, List, [], map, slice_index_or}
use Rattle.std.specs.List.{AllByRecursion}
use Rattle.std.specs.Str.{bytes_eq}
use Rattle.plc_types.specs.Inputs.{inputs_off}
use Rattle.plc_types.specs.declared.outputs.Outputs.{Outputs}
use Rattle.machine_words.specs.Units.{IsCycle}
use Rattle.st_tree.specs.declared.program.Start.{Start}
use Rattle.st_tree.specs.declared.program.Start.TheVariants.{Dint}
use Rattle.st_tree.specs.declared.program.Start.TheVariants as start
use Rattle.st_tree.specs.declared.program.Task.{Task}
use Rattle.st_tree.specs.declared.program.Variable.{Variable}
use Rattle.st_exec.specs.declared.code.TaskCode.{TaskCode}
use Rattle.st_exec.specs.declared.instruction.Instruction.{Instruction}
use Rattle.st_exec.specs.Code.{body_code}
use Rattle.st_exec.specs.Machine.{run}
use Rattle.st_exec.specs.Scan.{Course, HasAll, at_first}
use Rattle.st_exec.specs.Values.{is_true, truth_of, variable_of}

-- the code of a task, the values of its variables before the first scan, and the variable that
-- ends it
pub record TaskProgram : Type 0 where
  pub code : List Instruction
  pub start : List ℤ
  pub finished : Option ℕ

-- the codes of tasks, where a cycle has this many microseconds
pub record Compiled : Type 0 where
  pub us : ℕ
  pub tasks : List TaskProgram

abbrev pub seen : TaskCode → TaskProgram
seen c = record { code = c.instructions.items; start = c.start.items; finished = c.finished }

-- no task
abbrev pub no_program : TaskProgram
no_program = record { code = []; start = []; finished = None }

-- the code of a task by its number
unfoldable pub program_at : Compiled → ℕ → TaskProgram
program_at c task = slice_index_or c.tasks task no_program

-- ---- a task's tree

-- the value of a variable before the first scan
abbrev pub start_value : Start → ℤ
start_value (start.Bool holds) = truth_of holds
start_value (Dint number) = number

abbrev pub start_of : Variable → ℤ
start_of v = start_value v.start

-- whether a variable is a BOOL
abbrev pub is_bool : Start → Bool
is_bool (start.Bool holds) = true
is_bool (Dint number) = false

-- whether a task ends by a variable: it is a BOOL of the name `finished`
unfoldable pub ends_by : Variable → Bool
ends_by v = is_bool v.start && bytes_eq v.name (codes "finished")

-- what the tree of a task is compiled to
unfoldable pub program_of : Task → TaskProgram
program_of t = record {
  code = body_code t.body.items;
  start = map start_of t.variables.items;
  finished = position ends_by t.variables.items;
}

-- whether variables end a task
abbrev pub is_ended : Option ℕ → List ℤ → Bool
is_ended None vars = false
is_ended (Some x) vars = is_true (variable_of vars x)

-- ---- what a code does

-- the course of a code from its first instruction, by the variables and last replies at the start
-- and the replies got
unfoldable pub course_of : ℕ → List Instruction → List ℤ → List Outputs → List Outputs → Course
course_of us code vars last replies = run us code 0 [] inputs_off (at_first vars last replies)

-- no operand is missing in a code, whatever its variables and replies
pub record HasOperands (us : ℕ) (p : TaskProgram) : Type 0 where
  pub all : (vars : List ℤ) (last replies : List Outputs) → HasAll (course_of us p.code vars last replies)

-- a code that may be run
pub record IsSound (c : Compiled) : Type 0 where
  pub cycle : IsCycle c.us
  pub operands : AllByRecursion (HasOperands c.us) c.tasks
