-- What a task has made, and what it leaves. This project's profile.
use Rattle.std.specs.Prelude.{◌≡◌, ℕ, suc, Bool, true, false, List, [], ◌∷◌, ◌++◌, map, if◌then◌else◌}
use Rattle.kernel_turn.specs.PermitState.{PermitState}
use Rattle.motion_history.specs.Entries.{Entry, end_of}
use Rattle.motion_history.specs.Setup.{Setup}
use Rattle.motion_plant.specs.Calls.{IsCut, entry_of, fixed_part, logged_calls}
use Rattle.motion_plant.specs.Makers.{IsBy, Logged, Owns, entries_by, own_entries}
use Rattle.motion_plant.specs.declared.task_job.TaskJobEnd.{TaskJobEnd}
use Rattle.plc_program.specs.declared.program.Instruction.{Instruction}
use Rattle.task_run.specs.TaskCalls.{IsEndedBy, TaskCalls}

-- the end of a task, where it has ended
abbrev pub end_if : Bool → ℕ → List Entry
end_if ended t = if ended then end_of t ∷ [] else []

-- what a task has made: calls of its program, by the replies that they got; and where it has ended,
-- all of them and its end after them
pub record TaskMade (lines : List Instruction) (t : ℕ) (ended : Bool) (made : List Logged)
    : Type 0 where
  pub entries : map (λ (l : Logged). l.entry) made ≡
      map entry_of (logged_calls made) ++ end_if ended t
  pub calls : TaskCalls lines (logged_calls made)
  pub whole : ended ≡ true → IsEndedBy lines (logged_calls made)

-- the entries of a task in this history are what it has made, with its end where it has ended
abbrev pub TaskMeets : Setup → List Instruction → ℕ → List Entry → Type 0
TaskMeets s lines t h = (ended : Bool) × TaskMade lines t ended (entries_by s (suc t) h)

-- the job of a task is done: its permit has made what the task has made, and nothing else; and
-- where the task has not ended, the permit has met a stop or there was no room
pub record TaskDone (before : PermitState) (t : ℕ) (lines : List Instruction) (e : TaskJobEnd)
    : Type 0 where
  pub fixed : fixed_part e.permit ≡ fixed_part before
  pub owns : Owns (IsBy before.config t) e.permit.own e.permit.seen
  pub made : TaskMade lines t e.ended (own_entries e.permit.own e.permit.seen)
  pub cut : e.ended ≡ false → IsCut e.permit
