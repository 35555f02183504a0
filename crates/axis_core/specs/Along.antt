-- What never changes of an axis, and the axis beside its group (PLCopen Motion Control Part 4).
use Rattle.std.specs.Prelude.{◌≡◌, true, false, Some, None, []}
use Rattle.plc_types.specs.declared.axis_state.AxisState.TheVariants as state
use Rattle.axis_core.specs.Cores.{Core}
use Rattle.axis_core.specs.declared.axis.Axis.{Axis}
use Rattle.axis_core.specs.declared.look.AxisLook.{AxisLook}

-- an axis keeps its limits and its increment
pub record KeepsDefinition (before after : Axis) : Type 0 where
  pub limits : after.limits ≡ before.limits
  pub inc : after.inc ≡ before.inc

-- nothing becomes of an axis and of the commands that wait but for a pending Reset
pub record IsLeftAlone (before after : Core) : Type 0 where
  pub axis : after.axis ≡ record before.axis { reset = after.axis.reset }
  pub waiting : after.waiting ≡ before.waiting

-- an axis has gone to the place that its group's path gave it, and the path goes on
pub record HasFollowed (before : Axis) (look : AxisLook) (after : Axis) : Type 0 where
  pub previous : after.previous ≡ before.setpoint
  pub place : look.path ≡ Some after.setpoint
  pub goes_on : look.path_ends ≡ false

-- an axis has gone to the place that its group's path gave it, without a command of its own: it
-- follows on where the path goes on, and stands where it ends
pub record GoesAlong (before : Axis) (look : AxisLook) (after : Core) : Type 0 where
  pub previous : after.axis.previous ≡ before.setpoint
  pub place : look.path ≡ Some after.axis.setpoint
  pub idle : after.axis.active ≡ None
  pub waiting : after.waiting ≡ []
  pub follows : look.path_ends ≡ false → after.axis.state ≡ state.SynchronizedMotion
  pub stands : look.path_ends ≡ true → after.axis.state ≡ state.Standstill
