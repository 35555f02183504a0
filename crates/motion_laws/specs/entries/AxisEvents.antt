-- By which events of its diagram each axis changes its state in an entry of a history (PLCopen
-- Motion Control Part 1 and Part 4).
use Rattle.std.specs.Prelude.{ℕ, Bool, true, false, if◌then◌else◌, is_some, List, [], slice_get}
use Rattle.axis_core.specs.Cores.{Core}
use Rattle.axis_core.specs.blocks.Path.{is_on_path}
use Rattle.axis_core.specs.declared.axis.Axis.{Axis}
use Rattle.axis_state.specs.declared.diagram.AxisEvent.{AxisEvent}
use Rattle.motion_history.specs.Entries.{Entry, call, cycle, end_of}
use Rattle.motion_history.specs.Setup.{Setup}
use Rattle.motion_kernel.specs.Histories.{inputs_of}
use Rattle.motion_kernel.specs.Machine.{Machine, axis_core_at}
use Rattle.motion_kernel.specs.cycles.Cycles.{look_of_axis}
use Rattle.motion_laws.specs.calls.Axis as on_axis
use Rattle.motion_laws.specs.calls.Axis.{AxisCall, by_call}
use Rattle.state_events.specs.Axis.{command_events, cycle_events, path_events, power_events}

-- an axis that is led on its group's path, unless a command moves it, or leaves it
abbrev pub led_events : Bool → Axis → List AxisEvent
led_events true a = if is_some a.active then [] else path_events true a.state
led_events false a = if is_on_path a then path_events false a.state else []

-- in a call, by what that asks of the axis
abbrev pub call_events : AxisCall → Core → List AxisEvent
call_events (on_axis.asked q) c = command_events q c
call_events (on_axis.power enable) c = power_events enable c.axis.state
call_events (on_axis.led on) c = led_events on c.axis
call_events on_axis.rests c = []

-- the events of an axis in an entry
abbrev pub axis_events : Setup → Machine → Entry → ℕ → List AxisEvent
axis_events s m (call k i reply) n = by_call call_events s (slice_get s.blocks k) k i m n
axis_events s m (cycle c rows grows) n =
    cycle_events (look_of_axis s m (inputs_of rows) n) (axis_core_at m n)
axis_events s m (end_of task) n = []
