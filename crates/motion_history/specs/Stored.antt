-- Entries that are kept without what they hold: the calls stand in one array, the rows of all
-- cycles in two others.
use Rattle.std.specs.Prelude.{ℕ, zero, suc, ◌<◌, ◌≤◌, ◌*◌, List, [], ◌∷◌, Option, Some, None, length, map, slice_get}
use Rattle.plc_types.specs.declared.axis.AxisRow.{AxisRow}
use Rattle.plc_types.specs.declared.group.GroupRow.{GroupRow}
use Rattle.motion_history.specs.declared.entry.CallMade.{CallMade}
use Rattle.motion_history.specs.declared.entry.Stored.{Stored}
use Rattle.motion_history.specs.declared.entry.Stored.TheVariants as stored
use Rattle.motion_history.specs.Entries.{Entry, call, cycle, end_of}
use Rattle.motion_history.specs.LastCycles.{later}
use Rattle.motion_history.specs.Rows.{rows_at}

-- what stands beside the entries: how many rows a cycle has, the calls, and the rows of all cycles
pub record Store : Type 0 where
  pub axes : ℕ
  pub groups : ℕ
  pub calls : List CallMade
  pub axis_rows : List AxisRow
  pub group_rows : List GroupRow

-- the entry of a call; where there is none, one that no history has
abbrev pub call_entry : Option CallMade → Entry
call_entry None = end_of 256
call_entry (Some c) = call c.instance c.inputs c.reply

-- the entry that is kept so
abbrev pub entry_of : Store → Stored → Entry
entry_of s (stored.Call place) = call_entry (slice_get s.calls place)
entry_of s (stored.Cycle n) =
    cycle n (rows_at s.axes n s.axis_rows) (rows_at s.groups n s.group_rows)
entry_of s (stored.End task) = end_of task

-- the entries that are kept so
unfoldable pub entries_of : Store → List Stored → List Entry
entries_of s es = map (entry_of s) es

-- a call or a cycle that is kept is one of those that were made
abbrev pub IsMade : ℕ → ℕ → Stored → Type 0
IsMade calls cycles (stored.Call place) = place < calls
IsMade calls cycles (stored.Cycle n) = (1 ≤ n) × (n ≤ cycles)
IsMade calls cycles (stored.End task) = Unit {0}

-- what an entry holds is there
abbrev pub IsThere : Store → Stored → Type 0
IsThere s (stored.Call place) = place < length s.calls
IsThere s (stored.Cycle n) =
    (1 ≤ n) × (n * s.axes ≤ length s.axis_rows) × (n * s.groups ≤ length s.group_rows)
IsThere s (stored.End task) = Unit {0}

-- the number of what is kept, if it is a cycle
abbrev pub number_in : Stored → Option ℕ
number_in (stored.Call place) = None
number_in (stored.Cycle n) = Some n
number_in (stored.End task) = None

-- the number of the last cycle that is kept, if there is one
abbrev pub last_number_of : List Stored → Option ℕ
last_number_of [] = None
last_number_of (e ∷ es) = later (number_in e) (last_number_of es)

-- a number that counts from 1, if it is one
abbrev pub number_from : ℕ → Option ℕ
number_from zero = None
number_from (suc n) = Some (suc n)
