-- What contracts see of a run: where it stands in its task.
use Rattle.std.specs.Prelude.{◌≡◌, ◌<◌, ℕ, Bool, true, Option, Some, None, List, [], ◌∷◌, length, slice_get, slice_index_or}
use Rattle.plc_program.specs.declared.program.Instruction.{Instruction}
use Rattle.plc_program.specs.declared.program.Instruction.TheVariants.{Call, Wait, Repeat, Again}
use Rattle.task_run.specs.Standing.{Stands, is_plain}
use Rattle.task_run.specs.Tasks.{TaskState}
use Rattle.task_run.specs.declared.run.TaskRun.{TaskRun}

-- whether a line makes calls, if there is one
abbrev pub is_call_or_none : Option Instruction → Bool
is_call_or_none None = true
is_call_or_none (Some line) = is_plain line

-- whether the line of this number makes calls, or stands after the last
abbrev pub is_settled : List Instruction → ℕ → Bool
is_settled lines line = is_call_or_none (slice_get lines line)

-- lines up to the first `again`
abbrev pub until_again : List Instruction → List Instruction
until_again [] = []
until_again (Call k i ∷ lines) = Call k i ∷ until_again lines
until_again (Wait k flag ∷ lines) = Wait k flag ∷ until_again lines
until_again (Repeat count ∷ lines) = Repeat count ∷ until_again lines
until_again (Again ∷ lines) = []

-- the lines of the task of a run
abbrev pub lines_of : List (List Instruction) → TaskRun → List Instruction
lines_of program run = slice_index_or program run.task []

-- a run of a task of this program stands so: at a line that makes calls, or after the last
pub record IsRun (program : List (List Instruction)) (run : TaskRun) (s : TaskState) : Type 0 where
  pub within : run.task < length program
  pub stands : Stands (lines_of program run) run.place s.passed s.to_come
  pub settled : is_settled (lines_of program run) run.place.line ≡ true
  pub rests : run.resting ≡ s.rests
