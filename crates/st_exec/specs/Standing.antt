-- Where a run of a task's code stands: what is left of the code, and what the machine holds.
use Rattle.std.specs.Prelude.{◌≡◌, ◌≤◌, ℕ, List, [], Option, Some, None, drop, length, slice_get, vec_len, vec_capacity}
use Rattle.plc_types.specs.declared.outputs.Outputs.{Outputs}
use Rattle.st_exec.specs.declared.instruction.Instruction.{Instruction}
use Rattle.st_exec.specs.declared.instruction.Instruction.TheVariants.{Ask}
use Rattle.st_exec.specs.declared.machine.Machine.{Machine}
use Rattle.st_exec.specs.declared.walk.Stop.{Stop}
use Rattle.st_exec.specs.Acting.{stack_of}
use Rattle.st_exec.specs.Machine.{run}
use Rattle.st_exec.specs.Scan.{Asked, Course, HasAll}

-- the course of what is left of a code at a place, by the calls made and the replies left
unfoldable pub from_place : ℕ → List Instruction → ℕ → Machine → List Asked → List Outputs → Course
from_place us code place m calls left =
    run us (drop place code) 0 (stack_of m) m.inputs
    (record { calls = calls; vars = m.vars.items; last = m.last.items; left = left })

-- what is left of a code may be run: no operand is missing, and the stack has room
pub record MayRun (us : ℕ) (code : List Instruction) (place : ℕ) (m : Machine) : Type 0 where
  pub calls : List Asked
  pub operands : HasAll (from_place us code place m calls [])
  pub depth : vec_len m.stack ≤ place
  pub room : length code ≤ vec_capacity m.stack

-- a machine has run some code: what is left of it comes to the same
pub record Advances (us : ℕ) (code : List Instruction) (place : ℕ) (m : Machine) (stop : ℕ)
    (n : Machine) : Type 0 where
  pub same : (calls : List Asked) → (left : List Outputs) →
      from_place us code stop n calls left ≡ from_place us code place m calls left
  pub on : place ≤ stop
  pub depth : vec_len n.stack ≤ stop
  pub room : vec_capacity n.stack ≡ vec_capacity m.stack
  pub last : n.last ≡ m.last
  pub vars : length n.vars.items ≡ length m.vars.items

-- at this place a block is called, or the code ends
abbrev pub StopsAt : List Instruction → ℕ → Option ℕ → Type 0
StopsAt code place (Some k) = slice_get code place ≡ Some (Ask k)
StopsAt code place None = length code ≤ place

-- a run stops at a call or at the code's end
abbrev pub Stops : List Instruction → Stop → Type 0
Stops code stop = StopsAt code stop.place stop.asked
