-- What a trace that was read holds. This project's profile.
use Rattle.std.specs.Prelude.{ℕ, ℤ, Option, List, [], map, option_and_then, slice_get}
use Rattle.motion_history.specs.Entries.{Entry, call, cycle, end_of}
use Rattle.motion_history.specs.Setup.{Setup}
use Rattle.motion_history.specs.declared.refused.TraceVersion.{TraceVersion}
use Rattle.trace_text.specs.declared.found.FoundEntry.{FoundEntry}
use Rattle.trace_text.specs.declared.found.FoundEntry.TheVariants as found
use Rattle.trace_text.specs.declared.command.Command.{Command}
use Rattle.trace_text.specs.declared.drive_end.DriveEndRow.{DriveEndRow}

-- a trace: its version, who made it, its machine, its entries as they were found, and what the
-- drives took
pub record TraceState : Type 0 where
  pub version : TraceVersion
  pub command : Command
  pub config : Setup
  pub found : List FoundEntry
  pub drives : List DriveEndRow

-- the entry that was found
abbrev pub entry_of : FoundEntry → Entry
entry_of (found.Call k inputs reply) = call k inputs reply
entry_of (found.Cycle c) = cycle c.number c.axes c.groups
entry_of (found.End task) = end_of task

-- the places that the drives reported in it
abbrev pub places_of : FoundEntry → List ℤ
places_of (found.Call k inputs reply) = []
places_of (found.Cycle c) = c.places
places_of (found.End task) = []

-- the entries of a trace
abbrev pub entries_of : TraceState → List Entry
entries_of t = map entry_of t.found

-- the place that the drive of an axis reported in the entry at a place
abbrev pub place_at : TraceState → ℕ → ℕ → Option ℤ
place_at t place axis =
    option_and_then (λ e. slice_get (places_of e) axis) (slice_get t.found place)
