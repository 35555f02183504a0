-- The axis on its group's path (PLCopen Motion Control Part 4).
use Rattle.std.specs.Prelude.{Bool, true, false, ◌&&◌, not, if◌then◌else◌, ℤ, Option, None, is_some}
use Rattle.axis_state.specs.Diagram.{next_of}
use Rattle.plc_types.specs.declared.axis_state.AxisState.{AxisState}
use Rattle.plc_types.specs.declared.axis_state.AxisState.TheVariants as state
use Rattle.axis_state.specs.declared.diagram.AxisEvent.TheVariants.{GroupActive, PathRest}
use Rattle.axis_state.specs.States.{is_synchronized}
use Rattle.axis_core.specs.declared.axis.Axis.{Axis}
use Rattle.axis_core.specs.declared.look.AxisLook.{AxisLook}

-- the axis is on its group's path: it follows, and not by a command of its own
abbrev pub is_on_path : Axis → Bool
is_on_path a = is_synchronized a.state && not (is_some a.active)

-- the axis goes on its group's path, or leaves it
abbrev pub state_on_path : Bool → AxisState → AxisState
state_on_path true state.Standstill = next_of GroupActive
state_on_path false state.SynchronizedMotion = next_of PathRest
state_on_path on s = s

-- an axis that comes on its group's path, or leaves it
unfoldable pub axis_on_path : Bool → Axis → Axis
axis_on_path on a = record a { state = state_on_path on a.state }

-- the place that an axis takes on its group's path, if it is on it
abbrev pub place_on_path : Axis → AxisLook → Option ℤ
place_on_path a look = if is_on_path a then look.path else None

-- an axis on its group's path leaves it where that ends
abbrev pub axis_after_path : Bool → Axis → Axis
axis_after_path ends a = if ends then record a { state = next_of PathRest } else a
