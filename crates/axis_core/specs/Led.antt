-- By what an axis moves (PLCopen Motion Control Part 1, the state diagram).
use Rattle.std.specs.Prelude.{◌≡◌, Bool, true, false, is_some}
use Rattle.plc_types.specs.declared.axis_state.AxisState.{AxisState}
use Rattle.plc_types.specs.declared.axis_state.AxisState.TheVariants as state
use Rattle.axis_core.specs.blocks.Path.{is_on_path}
use Rattle.axis_core.specs.declared.axis.Axis.{Axis}

-- whether a state is that of a command that moves the axis, and of no path
abbrev pub is_of_command : AxisState → Bool
is_of_command state.DiscreteMotion = true
is_of_command state.ContinuousMotion = true
is_of_command state.Homing = true
is_of_command s = false

-- in such a state a command is active
pub record HasCommand (a : Axis) : Type 0 where
  pub active : is_of_command a.state ≡ true → is_some a.active ≡ true

-- an axis that moves has a command still, and comes on no path
pub record StaysLed (before after : Axis) : Type 0 where
  pub command : HasCommand before → HasCommand after
  pub path : is_on_path after ≡ true → is_on_path before ≡ true
