-- What a machine has done when an act is made.
use Rattle.std.specs.Prelude.{◌≡◌, ◌≤◌, ◌+◌, ℕ, ℤ, Option, Some, None, Vec, List, [], ◌∷◌, length, reverse, vec_len, vec_capacity}
use Rattle.std.specs.Option.{option_to_list}
use Rattle.std.specs.declared.alloc.Global.{Global}
use Rattle.st_exec.specs.declared.instruction.Act.{Act}
use Rattle.st_exec.specs.declared.instruction.Use.{Use}
use Rattle.st_exec.specs.declared.machine.Machine.{Machine}
use Rattle.st_exec.specs.Machine.{Effect, Goes, Lacks, effect_of, use_of}

-- the stack of a machine, its top first
abbrev pub stack_of : Machine → List ℤ
stack_of m = reverse m.stack.items

-- a value on the top of others, or none on an empty stack
abbrev pub on_top : Option ℤ → List ℤ → List ℤ
on_top None stack = []
on_top (Some a) stack = a ∷ stack

-- a value was put on a stack, in its room
pub record IsPut (value : ℤ) (before after : Vec ℤ Global) : Type 0 where
  pub stack : reverse after.items ≡ value ∷ reverse before.items
  pub depth : vec_len after ≡ vec_len before + 1
  pub room : vec_capacity after ≡ vec_capacity before

-- the value on top was taken, where there was one
pub record IsTaken (value : Option ℤ) (before after : Vec ℤ Global) : Type 0 where
  pub stack : reverse before.items ≡ on_top value (reverse after.items)
  pub depth : vec_len after + length (option_to_list value) ≡ vec_len before
  pub room : vec_capacity after ≡ vec_capacity before

-- a machine has what an effect says, and this many instructions are passed
abbrev pub IsDone : Effect → ℕ → Machine → Type 0
IsDone (Goes n stack i vars) passed m =
    (passed ≡ n) × (stack_of m ≡ stack) × (m.inputs ≡ i) × (m.vars.items ≡ vars)
IsDone Lacks passed m = Unit {0}

-- the last replies, the room and the number of variables stay, and the stack grows by one at most
pub record Keeps (before after : Machine) : Type 0 where
  pub last : after.last ≡ before.last
  pub room : vec_capacity after.stack ≡ vec_capacity before.stack
  pub depth : vec_len after.stack ≤ vec_len before.stack + 1
  pub vars : length after.vars.items ≡ length before.vars.items

-- a machine has made an act
pub record Performs (us : ℕ) (act : Act) (before : Machine) (passed : ℕ) (after : Machine) : Type 0 where
  pub done : IsDone (effect_of us act (stack_of before) before.inputs before.vars.items before.last.items)
      passed after
  pub keeps : Keeps before after

-- a machine has used a value that was taken
pub record Uses (us : ℕ) (how : Use) (value : ℤ) (before : Machine) (passed : ℕ) (after : Machine) :
    Type 0 where
  pub done : IsDone (use_of us how value (stack_of before) before.inputs before.vars.items) passed after
  pub keeps : Keeps before after
