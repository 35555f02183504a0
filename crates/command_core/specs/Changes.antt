-- What happens to the commands of an axis or a group, one change after another (PLCopen Motion
-- Control Part 1, buffer modes).
use Rattle.std.specs.Prelude.{◌≡◌, ℕ, ◌≤◌, Bool, true, false, ℤ, Option, Some, None, List, [], ◌∷◌, ◌++◌, length}
use Rattle.buffer_modes.specs.Owners.{owner_by}
use Rattle.buffer_modes.specs.Queue.{active_note, admitted, end_notes, is_full, noted}
use Rattle.command_pool.specs.Waiting.{told_to}
use Rattle.command_pool.specs.declared.ending.Finish.{Finish}
use Rattle.command_pool.specs.declared.ending.Finish.TheVariants as finish
use Rattle.command_pool.specs.declared.wanted.Wanted.{Wanted}
use Rattle.command_core.specs.CommandState.{CommandState, queue_of}

-- one change
pub data Change : Type 0 where
  -- a command joins the others, by its buffer mode
  joins : Wanted → Change
  -- the active command ends so and all that wait are aborted; this one is active now, if one is,
  -- and those wait
  replaced : Finish → Option Wanted → List Wanted → Change
  -- the active command ends so, and the first that waits takes over, with this target where it had
  -- none
  ends : Finish → Option ℤ → Change
  -- a reset of this owner is pending, in the place of another one
  awaits : Option ℕ → Change
  -- the pending reset is done
  resets : Change
  -- the instance of the active command holds stopping now, or none does
  holds : Bool → Change

-- a command with a target, where one becomes known
abbrev pub with_known : Option ℤ → Wanted → Wanted
with_known None w = w
with_known (Some target) w = record w { target = Some target }

-- the first that waits takes over, if one waits
abbrev pub taken_over : Option ℤ → List Wanted → CommandState → CommandState
taken_over target [] c = c
taken_over target (w ∷ ws) c = record c { active = Some (with_known target w); waiting = ws }

-- who holds stopping: the instance of the active command, where that is one that stops
abbrev pub hold_by : Bool → Option Wanted → Option ℕ
hold_by true active = owner_by active
hold_by false active = None

-- after one change
abbrev pub changed : Change → CommandState → CommandState
changed (joins w) c = record c {
  active = (admitted (queue_of c) w).active;
  waiting = (admitted (queue_of c) w).waiting;
  notes = c.notes ++ noted (queue_of c) w;
}
changed (replaced f next ws) c =
    record c { active = next; waiting = ws; notes = c.notes ++ end_notes f (queue_of c) }
changed (ends f target) c =
    taken_over target c.waiting
    (record c { active = None; notes = c.notes ++ active_note f c.active })
changed (awaits owner) c =
    record c { reset = owner; notes = c.notes ++ told_to c.reset finish.Aborted }
changed resets c = record c { reset = None; notes = c.notes ++ told_to c.reset finish.Done }
changed (holds stops) c = record c { hold = hold_by stops c.active }

-- after several changes, the first one first
abbrev pub all_changed : List Change → CommandState → CommandState
all_changed [] c = c
all_changed (x ∷ xs) c = all_changed xs (changed x c)

-- there is a place for those that a change brings
abbrev pub Fits : Change → CommandState → Type 0
Fits (joins w) c = is_full (queue_of c) w ≡ false
Fits (replaced f next ws) c = length ws ≤ 8
Fits x c = Unit {0}

-- and for those of several changes
abbrev pub AllFit : List Change → CommandState → Type 0
AllFit [] c = Unit {0}
AllFit (x ∷ xs) c = Fits x c × AllFit xs (changed x c)
