-- Where a program stands after some of its lines. This project's profile.
use Rattle.std.specs.Prelude.{ℕ, ◌-◌, Bool, if◌then◌else◌, nat_le, List, [], ◌∷◌, ◌++◌, length}
use Rattle.motion_history.specs.Setup.{Setup}
use Rattle.motion_history.specs.declared.refused.TraceVersion.{TraceVersion}
use Rattle.plc_program.specs.declared.program.Instruction.{Instruction}

-- a program as far as it was read: the version of its machine's configuration and the length of a
-- cycle, whether its own version was reported, and which it is, the machine with the tasks and
-- blocks so far, the lines of the tasks before, those of the task that
-- is under way, and whether that stands inside a repeat
pub record SoFar : Type 0 where
  pub machine : TraceVersion
  pub cycle_us : ℕ
  pub begun : Bool
  pub version : TraceVersion
  pub setup : Setup
  pub before : List (List Instruction)
  pub lines : List Instruction
  pub repeating : Bool

-- whether a task is under way
abbrev pub has_task : SoFar → Bool
has_task s = nat_le 1 (length s.setup.tasks)

-- the number of the task that is under way
abbrev pub task_of : SoFar → ℕ
task_of s = length s.setup.tasks - 1

-- the lines of each task so far
abbrev pub tasks_of : SoFar → List (List Instruction)
tasks_of s = if has_task s then s.before ++ s.lines ∷ [] else s.before
