-- When a trace is legal. This project's profile.
use Rattle.std.specs.Prelude.{◌≡◌, All, List, map}
use Rattle.motion_history.specs.Entries.{Entry, cycles_of}
use Rattle.motion_kernel.specs.Histories.{IsLegalFrom}
use Rattle.motion_kernel.specs.Machine.{Machine, machine_at_opening}
use Rattle.trace_text.specs.TraceState.{TraceState}
use Rattle.trace_text.specs.Writable.{found_entry}
use Rattle.trace_text.specs.declared.drive_end.DriveEndRow.{DriveEndRow}

-- a trace is that of a history: its entries are those of the history without the offsets of their
-- rows, from version 2 on with the place that each drive reported by its offset, and each drive took
-- a setpoint in every cycle
pub record IsTraceOf (t : TraceState) (es : List Entry) : Type 0 where
  pub found : t.found ≡ map (found_entry t.version t.config) es
  pub taken : All (λ (d : DriveEndRow). d.taken ≡ cycles_of es) t.drives

-- a trace is legal from a machine on: it is that of a history which is
pub record IsLegalTraceFrom (m : Machine) (t : TraceState) : Type 0 where
  pub history : List Entry
  pub legal : IsLegalFrom t.config m history
  pub is : IsTraceOf t history

-- a trace is legal: it is that of a legal history of its machine
abbrev pub IsLegalTrace : TraceState → Type 0
IsLegalTrace t = IsLegalTraceFrom (machine_at_opening t.config) t
