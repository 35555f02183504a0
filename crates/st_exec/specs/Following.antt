-- A task that follows its code, and what it gives. This project's profile.
use Rattle.std.specs.Prelude.{◌≡◌, ◌≤◌, ◌<◌, ◌+◌, ℕ, Bool, true, false, if◌then◌else◌, List, [], ◌∷◌, ◌++◌, Option, Some, None, length, replicate, slice_get, slice_set, vec_len, vec_capacity}
use Rattle.plc_types.specs.Inputs.{inputs_off}
use Rattle.plc_types.specs.declared.outputs.Outputs.{Outputs}
use Rattle.st_exec.specs.declared.instruction.Instruction.{Instruction}
use Rattle.st_exec.specs.declared.instruction.Instruction.TheVariants.{Ask}
use Rattle.st_exec.specs.declared.task.StNext.{StNext}
use Rattle.st_exec.specs.declared.task.StNext.TheVariants.{Call, ScanDone, End}
use Rattle.st_exec.specs.declared.task.StTask.{StTask}
use Rattle.st_exec.specs.Compiled.{Compiled, course_of, is_ended, program_at}
use Rattle.st_exec.specs.Scan.{Asked, Course, Over, Waits}
use Rattle.st_exec.specs.Standing.{from_place}
use Rattle.st_exec.specs.Values.{silent}

-- the code of a task
abbrev pub code_at : Compiled → StTask → List Instruction
code_at c t = (program_at c t.task).code

-- a task follows its code: whatever replies come, the course of the code by those got and these is
-- the course from where the task stands
pub record Follows (c : Compiled) (t : StTask) : Type 0 where
  pub there : t.task < length c.tasks
  pub calls : List Asked
  pub many : length calls ≡ length t.got.items
  pub same : (more : List Outputs) →
      course_of c.us (code_at c t) t.vars.items t.last.items (t.got.items ++ more) ≡
      from_place c.us (code_at c t) t.place t.machine calls more
  pub asked : (k : ℕ) → t.asked ≡ Some k → slice_get (code_at c t) t.place ≡ Some (Ask k)
  pub depth : vec_len t.machine.stack ≤ t.place
  pub stack_room : length (code_at c t) ≤ vec_capacity t.machine.stack
  pub got_depth : vec_len t.got ≤ t.place
  pub got_room : length (code_at c t) ≤ vec_capacity t.got
  pub vars : length t.machine.vars.items ≡ length t.vars.items
  pub last : length t.machine.last.items ≡ length t.last.items

-- a scan begins: the task stands before its first instruction, in room that is enough
pub record Begins (c : Compiled) (t : StTask) : Type 0 where
  pub there : t.task < length c.tasks
  pub place : t.place ≡ 0
  pub stack : t.machine.stack.items ≡ []
  pub inputs : t.machine.inputs ≡ inputs_off
  pub vars : t.machine.vars.items ≡ t.vars.items
  pub last : t.machine.last.items ≡ t.last.items
  pub got : t.got.items ≡ []
  pub asked : t.asked ≡ None
  pub stack_room : length (code_at c t) ≤ vec_capacity t.machine.stack
  pub got_room : length (code_at c t) ≤ vec_capacity t.got

-- a task was opened: its scan begins, no block has replied
pub record IsOpened (c : Compiled) (number : ℕ) (t : StTask) : Type 0 where
  pub task : t.task ≡ number
  pub vars : t.vars.items ≡ (program_at c number).start
  pub last : t.last.items ≡ replicate 256 silent
  pub got : t.got.items ≡ []
  pub asked : t.asked ≡ None
  pub follows : Follows c t

-- a task has taken a reply
pub record IsAnswered (reply : Outputs) (before after : StTask) : Type 0 where
  pub task : after.task ≡ before.task
  pub vars : after.vars ≡ before.vars
  pub last : after.last ≡ before.last
  pub got : after.got.items ≡ before.got.items ++ reply ∷ []
  pub asked : after.asked ≡ None

-- a task asks for the call after those that were answered, for whose reply its scan waits
pub record IsAsking (course : Course) (before : StTask) (call : Asked) (after : StTask) : Type 0 where
  pub calls : List Asked
  pub answered : length calls ≡ length before.got.items
  pub waits : course ≡ Waits (calls ++ call ∷ [])
  pub same : (after.task ≡ before.task) × (after.vars ≡ before.vars) × (after.last ≡ before.last) ×
      (after.got ≡ before.got)
  pub asked : after.asked ≡ Some call.instance

-- the scan of a task is over, all its calls were answered, and the next begins with what it leaves
pub record IsOver (course : Course) (before after : StTask) : Type 0 where
  pub calls : List Asked
  pub answered : length calls ≡ length before.got.items
  pub over : course ≡ Over (record {
    calls = calls;
    vars = after.vars.items;
    last = after.last.items;
    left = [];
  })
  pub task : after.task ≡ before.task
  pub got : after.got.items ≡ []
  pub asked : after.asked ≡ None

-- what a task gives is what the course of its scan says
abbrev pub Says : Option ℕ → Course → StTask → StNext → StTask → Type 0
Says finished course before (Call k i) after =
    IsAsking course before (record { instance = k; inputs = i }) after
Says finished course before ScanDone after =
    IsOver course before after × (is_ended finished after.vars.items ≡ false)
Says finished course before End after =
    IsOver course before after × (is_ended finished after.vars.items ≡ true)

-- a task has taken the reply of a block, and stands after the call
pub record HasReplied (reply : Outputs) (k : ℕ) (before after : StTask) : Type 0 where
  pub task : after.task ≡ before.task
  pub stack : after.machine.stack ≡ before.machine.stack
  pub inputs : after.machine.inputs ≡ inputs_off
  pub machine_vars : after.machine.vars ≡ before.machine.vars
  pub machine_last : after.machine.last.items ≡ slice_set before.machine.last.items k reply
  pub place : after.place ≡ before.place + 1
  pub asked : after.asked ≡ None
  pub vars : after.vars ≡ before.vars
  pub last : after.last ≡ before.last
  pub got : after.got.items ≡ before.got.items ++ reply ∷ []
  pub got_len : vec_len after.got ≡ vec_len before.got + 1
  pub got_room : vec_capacity after.got ≡ vec_capacity before.got

-- a scan is at its end: it leaves its variables and last replies to the next, in the same room
pub record IsReset (before after : StTask) : Type 0 where
  pub task : after.task ≡ before.task
  pub vars : after.vars.items ≡ before.machine.vars.items
  pub last : after.last.items ≡ before.machine.last.items
  pub got : after.got.items ≡ []
  pub got_room : vec_capacity after.got ≡ vec_capacity before.got
  pub stack : after.machine.stack.items ≡ []
  pub stack_room : vec_capacity after.machine.stack ≡ vec_capacity before.machine.stack
  pub inputs : after.machine.inputs ≡ inputs_off
  pub machine_vars : after.machine.vars ≡ before.machine.vars
  pub machine_last : after.machine.last ≡ before.machine.last
  pub place : after.place ≡ 0
  pub asked : after.asked ≡ before.asked

-- the block that is called by what is given, for whose reply the task then waits
abbrev pub asked_by : StNext → Option ℕ
asked_by (Call k i) = Some k
asked_by ScanDone = None
asked_by End = None

-- what is given at the end of a scan
abbrev pub end_of_scan : Bool → StNext
end_of_scan ended = if ended then End else ScanDone
