-- The commands of an axis or a group, as the laws of both see them (PLCopen Motion Control Part 1,
-- general rules).
use Rattle.std.specs.Prelude.{◌≤◌, ℕ, ◌+◌, Option, List, map}
use Rattle.buffer_modes.specs.Owners.{active_without, owner_count, owner_by, waits_of}
use Rattle.buffer_modes.specs.Queue.{Commands}
use Rattle.command_pool.specs.Waiting.{detached, without}
use Rattle.command_pool.specs.declared.notes.Note.{Note}
use Rattle.command_pool.specs.declared.wanted.Wanted.{Wanted}

-- what an axis or a group is charged with: its active command, those that wait, the owner of a
-- pending reset, who holds it in stopping, and whose commands ended so far and how
pub record CommandState : Type 0 where
  pub active : Option Wanted
  pub waiting : List Wanted
  pub reset : Option ℕ
  pub hold : Option ℕ
  pub notes : List Note

-- the active command and those that wait. BufferMode
abbrev pub queue_of : CommandState → Commands
queue_of c = record { active = c.active; waiting = c.waiting }

-- whether an instance has the active command: 1, else 0
abbrev pub active_of : ℕ → CommandState → ℕ
active_of k c = owner_count k (owner_by c.active)

-- how many of its commands wait, a pending reset among them
abbrev pub waiting_of : ℕ → CommandState → ℕ
waiting_of k c = waits_of k c.waiting + owner_count k c.reset

-- how many commands it has
abbrev pub owns : ℕ → CommandState → ℕ
owns k c = active_of k c + waiting_of k c

-- no instance has two commands
abbrev pub AreApart : CommandState → Type 0
AreApart c = (k : ℕ) → owns k c ≤ 1

-- an instance has lost its commands and its hold
abbrev pub disowned : ℕ → CommandState → CommandState
disowned owner c = record {
  active = active_without owner c.active;
  waiting = map (detached owner) c.waiting;
  reset = without owner c.reset;
  hold = without owner c.hold;
  notes = c.notes;
}
