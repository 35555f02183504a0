-- How the entries that were found are kept: the calls with inputs in one array, the rows of all
-- cycles and the places in three others. This project's profile.
use Rattle.std.specs.Prelude.{◌≡◌, ◌+◌, ◌<◌, ◌≤◌, ◌++◌, ℕ, List, Option, Some, None, drop, length, map, slice_get, take}
use Rattle.std.specs.List.{AllByRecursion}
use Rattle.motion_history.specs.Entries.{cycles_of}
use Rattle.trace_text.specs.Found.{CycleFound}
use Rattle.trace_text.specs.TraceState.{entry_of}
use Rattle.trace_text.specs.declared.found.FoundEntry.{FoundEntry}
use Rattle.trace_text.specs.declared.found.FoundEntry.TheVariants as found
use Rattle.trace_text.specs.declared.found_rooms.CyclePlace.{CyclePlace}
use Rattle.trace_text.specs.declared.found_rooms.FoundCall.{FoundCall}
use Rattle.trace_text.specs.declared.found_list.FoundList.TheInside.{Inside}
use Rattle.trace_text.specs.declared.found_rooms.Kept.{Kept}
use Rattle.trace_text.specs.declared.found_rooms.Kept.TheVariants as kept
use Rattle.trace_text.specs.declared.found_rooms.Rooms.{Rooms}

-- this many items from a place on
abbrev pub part_of : {X : Type 0} → List X → ℕ → ℕ → List X
part_of items from count = take count (drop from items)

-- the items from a place on are these
pub record IsPart {X : Type 0} (items : List X) (from count : ℕ) (part : List X) : Type 0 where
  pub within : from + count ≤ length items
  pub is : part_of items from count ≡ part

-- a call that is kept; where there is none, an entry that no text has
abbrev pub called : Option FoundCall → FoundEntry
called None = found.End 256
called (Some c) = found.Call c.instance c.inputs c.reply

-- the cycle whose rows and places stand here
abbrev pub cycle_in : Rooms → CyclePlace → CycleFound
cycle_in r c = record {
  number = c.number;
  axes = part_of r.rows.items c.rows_from c.rows;
  groups = part_of r.group_rows.items c.groups_from c.groups;
  places = part_of r.places.items c.places_from c.places;
}

-- the entry that is kept so
abbrev pub entry_in : Rooms → Kept → FoundEntry
entry_in r (kept.Call place) = called (slice_get r.calls.items place)
entry_in r (kept.Off instance reply) = found.Call instance r.off reply
entry_in r (kept.Cycle c) = found.Cycle (cycle_in r c)
entry_in r (kept.End task) = found.End task

-- the rows and places of a cycle are there
pub record IsCycleThere (r : Rooms) (c : CyclePlace) : Type 0 where
  pub rows : c.rows_from + c.rows ≤ length r.rows.items
  pub groups : c.groups_from + c.groups ≤ length r.group_rows.items
  pub places : c.places_from + c.places ≤ length r.places.items

-- what an entry holds is there
abbrev pub IsThere : Rooms → Kept → Type 0
IsThere r (kept.Call place) = place < length r.calls.items
IsThere r (kept.Off instance reply) = Unit {0}
IsThere r (kept.Cycle c) = IsCycleThere r c
IsThere r (kept.End task) = Unit {0}

-- an entry is kept so, and what it holds is there
pub record IsKeptSo (r : Rooms) (e : FoundEntry) (k : Kept) : Type 0 where
  pub there : IsThere r k
  pub is : entry_in r k ≡ e

-- a list with what another has, and perhaps more after it
pub record Leads {X : Type 0} (xs ys : List X) : Type 0 where
  pub more : List X
  pub is : ys ≡ xs ++ more

-- rooms with what others have, and perhaps more after it
pub record Grows (old new : Rooms) : Type 0 where
  pub calls : Leads old.calls.items new.calls.items
  pub rows : Leads old.rows.items new.rows.items
  pub group_rows : Leads old.group_rows.items new.group_rows.items
  pub places : Leads old.places.items new.places.items
  pub off : new.off ≡ old.off

-- the entries that are kept so
abbrev pub entries_of : Inside → List FoundEntry
entries_of l = map (entry_in l.rooms) l.kept.items

-- what each entry holds is there, and the cycles are counted
pub record AreKept (l : Inside) : Type 0 where
  pub there : AllByRecursion (IsThere l.rooms) l.kept.items
  pub cycles : l.cycles ≡ cycles_of (map entry_of (entries_of l))
