-- The setpoints of an axis, cycle by cycle. This project's profile.
use Rattle.std.specs.Prelude.{ℕ, Bool, ℤ, pos, List, map, slice_get, take}
use Rattle.std.specs.Option.{option_map_or}
use Rattle.plc_types.specs.declared.axis.AxisRow.{AxisRow}
use Rattle.switch_text.specs.Switches.{is_on}
use Rattle.switch_text.specs.declared.switch.Switch.{Switch}

-- the setpoint of an axis in the rows of a cycle; 0 where it has no row
unfoldable pub setpoint_of : ℕ → List AxisRow → ℤ
setpoint_of axis rows = option_map_or (λ (r : AxisRow). r.setpoint) (slice_get rows axis) (pos 0)

-- its setpoints in the cycles
abbrev pub column : ℕ → List (List AxisRow) → List ℤ
column axis cycles = map (setpoint_of axis) cycles

-- whether a switch is on at a cycle, counted from 1; at 0 it is off
unfoldable pub on_at : Switch → List (List AxisRow) → ℕ → Bool
on_at s cycles k = is_on s (take k (column s.axis cycles))
