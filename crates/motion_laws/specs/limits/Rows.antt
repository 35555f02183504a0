-- When all axes keep their limits. This project's profile.
use Rattle.std.specs.Prelude.{◌≡◌, ℕ, Some, List, slice_get}
use Rattle.plc_types.specs.declared.axis.AxisDef.{AxisDef}
use Rattle.axis_state.specs.Spells.{KeepsLimits, opening_spell}
use Rattle.motion_history.specs.Columns.{rows_in}
use Rattle.motion_history.specs.Entries.{Entry}
use Rattle.motion_history.specs.Setup.{Setup}

-- in all its rows each axis keeps its limits of position, velocity, acceleration and braking while
-- it is driven
unfoldable pub KeepTheirLimits : Setup → List Entry → Type 0
KeepTheirLimits s es = (n : ℕ) (d : AxisDef) → slice_get s.axes n ≡ Some d →
    KeepsLimits d.limits (opening_spell d) (rows_in n es)
