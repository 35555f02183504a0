-- Switches under way, cycle by cycle. This project's profile.
use Rattle.std.specs.Prelude.{ℕ, false, Option, List}
use Rattle.plc_types.specs.declared.axis.AxisRow.{AxisRow}
use Rattle.switch_text.specs.Columns.{on_at, setpoint_of}
use Rattle.switch_text.specs.Edges.{edge_by}
use Rattle.switch_text.specs.Switches.{is_on_after}
use Rattle.switch_text.specs.declared.edge.Edge.{Edge}
use Rattle.switch_text.specs.declared.switch.Switch.{Switch}
use Rattle.switch_text.specs.declared.watch.Watch.{Watch}

-- a switch before the first cycle
abbrev pub watch_of : Switch → Watch
watch_of s = record { switch = s; on = false }

-- a switch after this many of the cycles
unfoldable pub watch_at : List (List AxisRow) → ℕ → Switch → Watch
watch_at cycles k s = record { switch = s; on = on_at s cycles k }

-- it goes on by the rows of a cycle
unfoldable pub watch_after : List AxisRow → Watch → Watch
watch_after rows w =
    record w { on = is_on_after w.switch w.on (setpoint_of w.switch.axis rows) }

-- its edge there
unfoldable pub edge_after : ℕ → List AxisRow → Watch → Option Edge
edge_after cycle rows w = edge_by w.switch.name cycle w.on (watch_after rows w).on
