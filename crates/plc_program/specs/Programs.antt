-- What contracts see of a program: a list of instructions for each task. This project's profile.
use Rattle.std.specs.Prelude.{◌≡◌, ◌≤◌, ◌<◌, ℕ, suc, ◌==◌, Bool, true, false, Option, Some, None, List, [], ◌∷◌, ◌++◌, length, slice_get, IsTrue}
use Rattle.std.specs.List.{AllByRecursion, list_any}
use Rattle.motion_history.specs.Calls.{IsCall}
use Rattle.motion_history.specs.Setup.{Setup, IsSetup}
use Rattle.motion_history.specs.declared.config.BlockDef.{BlockDef}
use Rattle.plc_program.specs.declared.program.Instruction.{Instruction}
use Rattle.plc_program.specs.declared.program.Instruction.TheVariants.{Call, Wait, Repeat, Again}

-- ---- a task by itself

-- whether lines end inside a repeat, if they begin inside one or not; none where a repeat stands in
-- another, or an `again` after none
abbrev pub repeating_after : Bool → List Instruction → Option Bool
repeating_after inside [] = Some inside
repeating_after inside (Call k i ∷ lines) = repeating_after inside lines
repeating_after inside (Wait k flag ∷ lines) = repeating_after inside lines
repeating_after false (Repeat count ∷ lines) = repeating_after true lines
repeating_after true (Repeat count ∷ lines) = None
repeating_after true (Again ∷ lines) = repeating_after false lines
repeating_after false (Again ∷ lines) = None

-- lines are repeated 1 to 1,000,000 times
abbrev pub IsCounted : Instruction → Type 0
IsCounted (Call k i) = Unit {0}
IsCounted (Wait k flag) = Unit {0}
IsCounted (Repeat count) = (1 ≤ count) × (count ≤ 1000000)
IsCounted Again = Unit {0}

-- whether an instruction calls the block of this number with inputs of its own
abbrev pub is_call_of : ℕ → Instruction → Bool
is_call_of k (Call j i) = j == k
is_call_of k (Wait j flag) = false
is_call_of k (Repeat count) = false
is_call_of k Again = false

-- whether one of them does
unfoldable pub is_called : ℕ → List Instruction → Bool
is_called k lines = list_any (is_call_of k) lines

-- a wait for a block stands after a call of it
abbrev pub IsBehindItsCall : List Instruction → Instruction → Type 0
IsBehindItsCall above (Call k i) = Unit {0}
IsBehindItsCall above (Wait k flag) = IsTrue (is_called k above)
IsBehindItsCall above (Repeat count) = Unit {0}
IsBehindItsCall above Again = Unit {0}

-- each wait does, below some lines
abbrev pub AreBehindTheirCalls : List Instruction → List Instruction → Type 0
AreBehindTheirCalls above [] = Unit {0}
AreBehindTheirCalls above (line ∷ lines) =
    IsBehindItsCall above line × AreBehindTheirCalls (above ++ line ∷ []) lines

-- the lines of a task: repeats are counted, closed and not nested, each wait stands after a call
-- of its block, and there are not too many
pub record IsTask (lines : List Instruction) : Type 0 where
  pub few : length lines ≤ 10000
  pub counted : AllByRecursion IsCounted lines
  pub closed : repeating_after false lines ≡ Some false
  pub waits : AreBehindTheirCalls [] lines

-- a program has 1 to 8 tasks
pub record IsProgram (program : List (List Instruction)) : Type 0 where
  pub some : 1 ≤ length program
  pub few : length program ≤ 8
  pub tasks : AllByRecursion IsTask program

-- ---- the tasks of a machine

-- the block of this number is there, and of this task
pub record IsBlockOf (s : Setup) (task k : ℕ) : Type 0 where
  pub there : k < length s.blocks
  pub own : (b : BlockDef) → slice_get s.blocks k ≡ Some b → b.task ≡ task

-- an instruction is one of a task of this machine: it calls the task's own blocks, with inputs of
-- their kinds
abbrev pub IsLineOf : Setup → ℕ → Instruction → Type 0
IsLineOf s task (Call k i) = IsBlockOf s task k × IsCall s k i
IsLineOf s task (Wait k flag) = IsBlockOf s task k
IsLineOf s task (Repeat count) = Unit {0}
IsLineOf s task Again = Unit {0}

-- the tasks, the first of this number, have lines of their own
abbrev pub AreTasksOf : Setup → ℕ → List (List Instruction) → Type 0
AreTasksOf s task [] = Unit {0}
AreTasksOf s task (lines ∷ more) =
    AllByRecursion (IsLineOf s task) lines × AreTasksOf s (suc task) more

-- a program is one of this machine, which is whole: it has a list for each of its tasks, of lines
-- of this task
pub record IsProgramOf (s : Setup) (program : List (List Instruction)) : Type 0 where
  pub setup : IsSetup s
  pub each : length program ≡ length s.tasks
  pub tasks : AreTasksOf s 0 program

-- a machine has got tasks and blocks, and is else as before
pub record AddsTasks (before after : Setup) : Type 0 where
  pub axes : after.axes ≡ before.axes
  pub groups : after.groups ≡ before.groups
  pub tables : after.tables ≡ before.tables
  pub cycles : after.cycles ≡ before.cycles
  pub entries : after.entries ≡ before.entries
