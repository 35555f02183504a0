-- The run of a task: its calls, by the replies to them. IEC 61131-3 has tasks; the program is this
-- project's profile.
use Rattle.std.specs.Prelude.{ℕ, ◌==◌, Bool, true, false, ◌||◌, if◌then◌else◌, Option, Some, None, List, [], ◌∷◌, ◌++◌}
use Rattle.plc_types.specs.Flags.{is_shown}
use Rattle.plc_types.specs.declared.flag.Flag.{Flag}
use Rattle.plc_types.specs.declared.inputs.Inputs.{Inputs}
use Rattle.plc_types.specs.declared.outputs.Outputs.{Outputs}
use Rattle.plc_program.specs.declared.program.Instruction.{Instruction}
use Rattle.plc_program.specs.declared.program.Instruction.TheVariants as lines
use Rattle.task_run.specs.Written.{written_out}
use Rattle.task_run.specs.declared.run.Next.{Next}
use Rattle.task_run.specs.declared.run.Next.TheVariants.{Call, Rest, End}

-- where a task stands in its lines, every repeat written out: the lines that it has passed and
-- those to come, and whether it rests
pub record TaskState : Type 0 where
  pub passed : List Instruction
  pub to_come : List Instruction
  pub rests : Bool

-- a task begins at its first line, not resting
abbrev pub first_state : List Instruction → TaskState
first_state lines = record { passed = []; to_come = written_out lines; rests = false }

-- the inputs of a call of this block, if a line is one
abbrev pub inputs_in : ℕ → Instruction → Option Inputs
inputs_in k (lines.Call j i) = if j == k then Some i else None
inputs_in k (lines.Wait j flag) = None
inputs_in k (lines.Repeat count) = None
inputs_in k lines.Again = None

-- the second of two, or the first where there is none
abbrev pub later_of : {A : Type 0} → Option A → Option A → Option A
later_of first (Some x) = Some x
later_of first None = first

-- the inputs of the last call of this block in some lines
abbrev pub last_call : ℕ → List Instruction → Option Inputs
last_call k [] = None
last_call k (line ∷ lines) = later_of (inputs_in k line) (last_call k lines)

-- a call with these inputs; a program has some for each wait
abbrev pub call_by : ℕ → Option Inputs → Next
call_by k (Some i) = Call k i
call_by k None = End

-- the next call where a task stands before these lines: a wait calls its block as it was last
-- called; after the last line comes the end
abbrev pub next_in : List Instruction → List Instruction → Next
next_in passed [] = End
next_in passed (lines.Call k i ∷ to_come) = Call k i
next_in passed (lines.Wait k flag ∷ to_come) = call_by k (last_call k passed)
next_in passed (lines.Repeat count ∷ to_come) = End
next_in passed (lines.Again ∷ to_come) = End

-- what a state gives: a rest, a call, or the end
unfoldable pub next_of : TaskState → Next
next_of s = if s.rests then Rest else next_in s.passed s.to_come

-- whether a reply ends a wait: it shows the flag, aborted or an error
unfoldable pub ends_wait : Flag → Outputs → Bool
ends_wait flag o = is_shown flag o || o.aborted || o.error

-- whether a reply leads to the next line: to a call it does, to a wait where it ends it
abbrev pub is_passed : Instruction → Outputs → Bool
is_passed (lines.Call k i) o = true
is_passed (lines.Wait k flag) o = ends_wait flag o
is_passed (lines.Repeat count) o = true
is_passed lines.Again o = true

-- the state after a reply where a task stands before these lines: it moves to the next line, or
-- rests where it is
abbrev pub after_reply : List Instruction → List Instruction → Outputs → TaskState
after_reply passed [] o = record { passed = passed; to_come = []; rests = false }
after_reply passed (line ∷ to_come) o =
    if is_passed line o
    then record { passed = passed ++ line ∷ []; to_come = to_come; rests = false }
    else record { passed = passed; to_come = line ∷ to_come; rests = true }

-- the state after a reply
unfoldable pub state_after : TaskState → Outputs → TaskState
state_after s o = after_reply s.passed s.to_come o

-- the state after a rest
abbrev pub state_rested : TaskState → TaskState
state_rested s = record s { rests = false }
