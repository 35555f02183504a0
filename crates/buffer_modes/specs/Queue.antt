-- The commands of an axis or group, and how another joins them (PLCopen Motion Control Part 1,
-- buffer modes).
use Rattle.std.specs.Prelude.{ℕ, Bool, true, false, not, ◌&&◌, ◌||◌, if◌then◌else◌, Option, Some, None, is_some, is_none, nat_eq, List, [], ◌∷◌, ◌++◌, length}
use Rattle.command_pool.specs.declared.ending.Finish.{Finish}
use Rattle.command_pool.specs.declared.ending.Finish.TheVariants as finish
use Rattle.plc_types.specs.declared.kind.BufferMode.{BufferMode}
use Rattle.plc_types.specs.declared.kind.BufferMode.TheVariants as mode
use Rattle.command_pool.specs.declared.notes.Note.{Note}
use Rattle.command_pool.specs.declared.wanted.Wanted.{Wanted}
use Rattle.command_pool.specs.Waiting.{queue_of, note_of, notes_of}

-- the active command of an axis or group, and those that wait in order. PLCopen Motion Control Part
-- 1, buffer modes
pub record Commands : Type 0 where
  pub active : Option Wanted
  pub waiting : List Wanted

-- the active command and those that wait in a list of the pool. PLCopen Motion Control Part 1,
-- buffer modes
abbrev pub commands : Option Wanted → List (List Wanted) → ℕ → Commands
commands active lists list = record { active = active; waiting = queue_of lists list }

-- whether the mode ends the commands that are there. PLCopen Motion Control Part 1, buffer modes
abbrev pub is_aborting : BufferMode → Bool
is_aborting mode.Aborting = true
is_aborting mode.Buffered = false
is_aborting mode.BlendingLow = false
is_aborting mode.BlendingPrevious = false
is_aborting mode.BlendingNext = false
is_aborting mode.BlendingHigh = false

-- whether there is no place for a command: it doesn't abort, one is active and eight wait. This
-- project's profile
abbrev pub is_full : Commands → Wanted → Bool
is_full c w = not (is_aborting w.mode) && (is_some c.active && nat_eq (length c.waiting) 8)

-- whether a command becomes active in its call. PLCopen Motion Control Part 1, buffer modes
abbrev pub is_active_at_once : Commands → Wanted → Bool
is_active_at_once c w = is_aborting w.mode || is_none c.active

-- a command after those that are there, or active where none is. PLCopen Motion Control Part 1,
-- buffer modes
abbrev pub behind : Option Wanted → List Wanted → Wanted → Commands
behind None ws w = record { active = Some w; waiting = ws }
behind (Some a) ws w = record { active = Some a; waiting = ws ++ w ∷ [] }

-- the commands after one more was admitted. PLCopen Motion Control Part 1, buffer modes
abbrev pub admitted : Commands → Wanted → Commands
admitted c w = if is_aborting w.mode then record { active = Some w; waiting = [] } else behind c.active c.waiting w

-- what is reported where the active command ends so. PLCopen Motion Control Part 1, Done,
-- CommandAborted and Error
abbrev pub active_note : Finish → Option Wanted → List Note
active_note f None = []
active_note f (Some w) = note_of f w

-- what is reported where the active command ends so and those after it are aborted. PLCopen Motion
-- Control Part 1, CommandAborted
abbrev pub end_notes : Finish → Commands → List Note
end_notes f c = active_note f c.active ++ notes_of finish.Aborted c.waiting

-- what is reported where a command is admitted. PLCopen Motion Control Part 1, the output
-- CommandAborted
abbrev pub noted : Commands → Wanted → List Note
noted c w = if is_aborting w.mode then end_notes finish.Aborted c else []

-- the first that waits in the place of the active one, which stays where none waits. PLCopen Motion
-- Control Part 1, buffer modes
abbrev pub first_of : Option Wanted → List Wanted → Commands
first_of active [] = record { active = active; waiting = [] }
first_of active (w ∷ ws) = record { active = Some w; waiting = ws }

-- the commands after the first that waits took over. PLCopen Motion Control Part 1, buffer modes
abbrev pub follower : Commands → Commands
follower c = first_of c.active c.waiting
