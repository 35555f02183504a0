-- The calls of a task, by the replies to them. This project's profile.
use Rattle.std.specs.Prelude.{◌≡◌, ℕ, List, [], ◌∷◌}
use Rattle.plc_program.specs.declared.program.Instruction.{Instruction}
use Rattle.task_run.specs.Callers.{MayFollow}
use Rattle.task_run.specs.Tasks.{TaskState, first_state, next_in, state_after}
use Rattle.task_run.specs.declared.caller.LoggedCall.{LoggedCall}
use Rattle.task_run.specs.declared.run.Next.TheVariants.{Call}

-- the next call of a task that stands so, where this many cycles came before its last: it is the
-- one that its lines ask for, and where the task rests it comes in a later cycle
pub record IsNextCall (s : TaskState) (earlier : ℕ) (c : LoggedCall) : Type 0 where
  pub call : next_in s.passed s.to_come ≡ Call c.instance c.inputs
  pub follows : MayFollow s.rests earlier c.cycles

-- the next calls of a task that stands so, each by the replies to those before it
abbrev pub AreNextCalls : TaskState → ℕ → List LoggedCall → Type 0
AreNextCalls s earlier [] = Unit {0}
AreNextCalls s earlier (c ∷ calls) =
    IsNextCall s earlier c × AreNextCalls (state_after s c.reply) c.cycles calls

-- these are calls of a task from its first on, by their own replies
abbrev pub TaskCalls : List Instruction → List LoggedCall → Type 0
TaskCalls lines calls = AreNextCalls (first_state lines) 0 calls

-- where a task stands after these calls
abbrev pub state_behind : TaskState → List LoggedCall → TaskState
state_behind s [] = s
state_behind s (c ∷ calls) = state_behind (state_after s c.reply) calls

-- after these calls a task is at its end: nothing is to come
abbrev pub IsEndedBy : List Instruction → List LoggedCall → Type 0
IsEndedBy lines calls = (state_behind (first_state lines) calls).to_come ≡ []
