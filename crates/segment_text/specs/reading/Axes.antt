-- Axes, read from the fields of a header's records. This project's profile.
use Rattle.std.specs.Prelude.{ℕ, pos, false, Option, Some, None, List, ◌∷◌}
use Rattle.axis_core.specs.declared.axis.Axis.{Axis}
use Rattle.plc_types.specs.declared.axis.AxisDef.{AxisDef}
use Rattle.plc_types.specs.declared.axis_state.AxisState.TheVariants.{Disabled}
use Rattle.line_text.specs.Numbers.{◌>>=◌}
use Rattle.segment_text.specs.reading.Columns.{Front, owner_of, reset_of, word_of}
use Rattle.segment_text.specs.reading.Commands.{active_of}
use Rattle.trace_columns.specs.Columns.{axis_state_of, flag_of, hex_of, wide_number_of}

-- an axis of which nothing is read yet: its limits and its increment
unfoldable pub axis_by : AxisDef → Axis
axis_by d = record {
  limits = d.limits;
  inc = d.inc;
  state = Disabled;
  error = 0;
  power = false;
  was_off = false;
  driven = false;
  previous = pos 0;
  setpoint = pos 0;
  offset = pos 0;
  active = None;
  reached = false;
  reset = None;
  hold = None;
  controlword = 0;
}

-- an axis with its state, its error, and whether its active command has reached
unfoldable pub with_state : Axis → List (List ℕ) → Front Axis
with_state a (state ∷ error ∷ reached ∷ behind) = do
  s ← axis_state_of state
  e ← word_of error
  r ← flag_of reached
  Some (record a { state = s; error = e; reached = r }, behind)
with_state a _ = None

-- an axis with its power, whether that was off, whether it was driven, and its controlword
unfoldable pub with_power : Axis → List (List ℕ) → Front Axis
with_power a (power ∷ was_off ∷ driven ∷ controlword ∷ behind) = do
  p ← flag_of power
  o ← flag_of was_off
  d ← flag_of driven
  w ← hex_of controlword
  Some (record a { power = p; was_off = o; driven = d; controlword = w }, behind)
with_power a _ = None

-- an axis with its setpoints and its offset
unfoldable pub with_places : Axis → List (List ℕ) → Front Axis
with_places a (previous ∷ setpoint ∷ offset ∷ behind) = do
  p ← wide_number_of previous
  s ← wide_number_of setpoint
  o ← wide_number_of offset
  Some (record a { previous = p; setpoint = s; offset = o }, behind)
with_places a _ = None

-- an axis with its pending reset, its hold and its active command
unfoldable pub with_commands : Axis → List (List ℕ) → Option Axis
with_commands a (reset ∷ hold ∷ active) = do
  r ← reset_of reset
  h ← owner_of hold
  w ← active_of active
  Some (record a { reset = r; hold = h; active = w })
with_commands a _ = None

-- the axis of these fields after its number
unfoldable pub axis_of : AxisDef → List (List ℕ) → Option Axis
axis_of d fields = do
  a ← with_state (axis_by d) fields
  b ← with_power a.0 a.1
  c ← with_places b.0 b.1
  with_commands c.0 c.1
