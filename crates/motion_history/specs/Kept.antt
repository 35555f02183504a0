-- How a history is kept: the entries in one array, the calls and the rows of all cycles in three
-- others, the last with those of a cycle in the making.
use Rattle.std.specs.Prelude.{◌≡◌, ◌≤◌, ◌*◌, drop, vec_len, vec_capacity}
use Rattle.std.specs.List.{AllByRecursion}
use Rattle.motion_history.specs.declared.history.History.TheInside.{Inside}
use Rattle.motion_history.specs.Entries.{cycles_of, HistoryState}
use Rattle.motion_history.specs.Bits.{HasCallBits, HasGroupRowBits, HasRowBits}
use Rattle.motion_history.specs.declared.entry.CallMade.{CallMade}
use Rattle.motion_history.specs.Stored.{Store, entries_of, IsMade, last_number_of, number_from}

-- what stands beside the entries
abbrev pub store_of : Inside → Store
store_of h = record {
  axes = h.axes;
  groups = h.groups;
  calls = h.calls.items;
  axis_rows = h.axis_rows.items;
  group_rows = h.group_rows.items;
}

-- the history that is kept so
abbrev pub state_of : Inside → HistoryState
state_of h = record {
  axes = h.axes;
  groups = h.groups;
  room = h.room;
  cycles = h.most;
  entries = entries_of (store_of h) h.stored.items;
  rows = drop (h.made * h.axes) h.axis_rows.items;
  group_rows = drop (h.made * h.groups) h.group_rows.items;
}

-- the arrays have room for all that may come, and hold what the entries do
pub record IsKept (h : Inside) : Type 0 where
  pub stored : vec_len h.stored ≤ h.room
  pub stored_room : h.room ≤ vec_capacity h.stored
  pub calls : vec_len h.calls ≤ vec_len h.stored
  pub calls_room : h.room ≤ vec_capacity h.calls
  pub axis_rows : h.made * h.axes ≤ vec_len h.axis_rows
  pub axis_room : h.most * h.axes ≤ vec_capacity h.axis_rows
  pub group_rows : h.made * h.groups ≤ vec_len h.group_rows
  pub group_room : h.most * h.groups ≤ vec_capacity h.group_rows
  pub made : h.made ≤ h.most
  pub cycles : h.made ≡ cycles_of (entries_of (store_of h) h.stored.items)
  pub numbers : AllByRecursion (IsMade (vec_len h.calls) h.made) h.stored.items

-- the numbers that are kept have the bits of their types
pub record HaveBits (h : Inside) : Type 0 where
  pub calls : AllByRecursion (λ (c : CallMade). HasCallBits c.inputs c.reply) h.calls.items
  pub axis_rows : AllByRecursion HasRowBits h.axis_rows.items
  pub group_rows : AllByRecursion HasGroupRowBits h.group_rows.items

-- the arrays are in step and hold numbers of their bits, and the last cycle that is kept is the
-- last that was made
pub record IsWhole (h : Inside) : Type 0 where
  pub kept : IsKept h
  pub bits : HaveBits h
  pub last : last_number_of h.stored.items ≡ number_from h.made
