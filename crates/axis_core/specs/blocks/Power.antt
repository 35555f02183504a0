-- MC_Power: its Enable is taken at each call (PLCopen Motion Control Part 1).
use Rattle.std.specs.Prelude.{Bool, true, false, ◌&&◌, not, None}
use Rattle.axis_state.specs.Diagram.{next_of}
use Rattle.plc_types.specs.declared.axis_state.AxisState.{AxisState}
use Rattle.plc_types.specs.declared.axis_state.AxisState.TheVariants as state
use Rattle.axis_state.specs.declared.diagram.AxisEvent.TheVariants.{PowerOff, DrivenFirst}
use Rattle.axis_core.specs.declared.axis.Axis.{Axis}

-- power is on in a cycle: the last Power call had Enable true, and none since the last cycle had it
-- false. The second part is this project's profile
abbrev pub is_powered : Axis → Bool
is_powered a = a.power && not a.was_off

-- the wish that a Power call leaves
abbrev pub axis_with_wish : Bool → Axis → Axis
axis_with_wish true a = record a { power = true }
axis_with_wish false a = record a { power = false; was_off = true }

-- the axis whose power goes off, apart from its commands, which are aborted
abbrev pub axis_without_power : Axis → Axis
axis_without_power a = record a { state = next_of PowerOff; reached = false; hold = None }

-- the state at the first cycle of a driven spell
abbrev pub state_when_driven : Bool → AxisState → AxisState
state_when_driven true state.Disabled = next_of DrivenFirst
state_when_driven driven s = s
