-- The last cycle of a history. This project's profile.
use Rattle.std.specs.Prelude.{ℕ, Option, Some, None, List, [], ◌∷◌, slice_get}
use Rattle.plc_types.specs.declared.axis.AxisRow.{AxisRow}
use Rattle.plc_types.specs.declared.group.GroupRow.{GroupRow}
use Rattle.motion_history.specs.Entries.{Entry, call, cycle, end_of}
use Rattle.motion_history.specs.declared.entry.CycleLook.{CycleLook}

-- an entry, if it is a cycle
abbrev pub cycle_in : Entry → Option Entry
cycle_in (call k inputs reply) = None
cycle_in (cycle n axes groups) = Some (cycle n axes groups)
cycle_in (end_of task) = None

-- the later of two, of which each may be missing
abbrev pub later : {X : Type 0} → Option X → Option X → Option X
later earlier (Some e) = Some e
later earlier None = earlier

-- the last cycle of these entries, if there was one
abbrev pub last_cycle_of : List Entry → Option Entry
last_cycle_of [] = None
last_cycle_of (e ∷ es) = later (cycle_in e) (last_cycle_of es)

-- the cycle that is looked at
abbrev pub cycle_told : CycleLook → Entry
cycle_told l = cycle l.number l.axes.now l.groups.now

-- the row of an axis in a cycle, if both are there
abbrev pub axis_row_in : ℕ → Option Entry → Option AxisRow
axis_row_in n (Some (cycle k axes groups)) = slice_get axes n
axis_row_in n e = None

-- the row of a group in a cycle, if both are there
abbrev pub group_row_in : ℕ → Option Entry → Option GroupRow
group_row_in n (Some (cycle k axes groups)) = slice_get groups n
group_row_in n e = None
