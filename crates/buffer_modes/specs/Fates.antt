-- What becomes of the active command of an axis or group, and who is notified of it (PLCopen Motion
-- Control Part 1, buffer modes).
use Rattle.std.specs.Prelude.{◌≡◌, ◌≢◌, ℕ, Bool, false, Option, Some, None, List}
use Rattle.std.specs.List.{Contains}
use Rattle.command_pool.specs.declared.ending.Finish.{Finish}
use Rattle.command_pool.specs.declared.notes.Note.{Note}
use Rattle.command_pool.specs.declared.wanted.Wanted.{Wanted}
use Rattle.buffer_modes.specs.Owners.{IsSame, owner_by}

-- how the active command ends, if it does, which one becomes active, if one does, and whether the
-- active one is a move that is blended, as one of an axis may be
pub record Fate : Type 0 where
  pub ends : Option Finish
  pub begins : Option Wanted
  pub blends : Bool

-- the active command goes on; without one none begins
abbrev pub goes_on : Fate
goes_on = record { ends = None; begins = None; blends = false }

-- an active command ends so, and this one begins
abbrev pub replaced : Finish → Option Wanted → Option Wanted → Fate
replaced f None next = record { ends = None; begins = next; blends = false }
replaced f (Some w) next = record { ends = Some f; begins = next; blends = false }

-- a fate is what the active command before a call or a cycle and the one after it show
pub record IsFate (f : Fate) (before now : Option Wanted) : Type 0 where
  pub begins : (w : Wanted) → f.begins ≡ Some w → now ≡ Some w
  pub ends : f.ends ≢ None → f.begins ≡ None → now ≡ None
  pub goes_on : f.ends ≡ None → f.begins ≡ None → IsSame before now
  pub was : f.ends ≢ None → before ≢ None

-- among some notes one gives the instance that has the active command how that ended, where this
-- fate ends it
abbrev pub TellsOwner : Fate → Option Wanted → List Note → Type 0
TellsOwner f active notes = (owner : ℕ) (g : Finish) → f.ends ≡ Some g →
    owner_by active ≡ Some owner → Contains notes (record { owner = owner; finish = g })

-- each of some notes is among others
abbrev pub AreAmong : List Note → List Note → Type 0
AreAmong notes others = (n : Note) → Contains notes n → Contains others n
