-- The laws on which it rests that rows show errors in the states of errors.
-- for: machines_can_stand, rows_show_errors, errors_have_causes
use Rattle.std.specs.Prelude.{◌≡◌, ℕ, Bool, ℤ, Some, slice_get}
use Rattle.axis_core.specs.Calls.{axis_without_owner, core_after_command, core_after_power}
use Rattle.axis_core.specs.Cores as axis
use Rattle.axis_core.specs.Cycles.{axis_at_opening, core_after_cycle}
use Rattle.axis_core.specs.Demands as demands
use Rattle.axis_core.specs.Refusals.{Asked}
use Rattle.axis_core.specs.Shown as axis_shown
use Rattle.axis_core.specs.blocks.Path.{axis_on_path}
use Rattle.axis_core.specs.declared.axis.Axis.{Axis}
use Rattle.axis_core.specs.declared.look.AxisLook.{AxisLook}
use Rattle.plc_types.specs.declared.axis.AxisDef.{AxisDef}
use Rattle.command_pool.specs.declared.wanted.Wanted.{Wanted}
use Rattle.plc_types.specs.declared.inputs.Inputs.{Inputs}
use Rattle.group_core.specs.Calls.{commanded, group_without, powered_off}
use Rattle.group_core.specs.Cores as group
use Rattle.group_core.specs.Cycles.{cycled, opened, reset_where}
use Rattle.group_core.specs.GroupKept.{IsCoreKept, IsMade}
use Rattle.group_core.specs.Refusals.{limits_in}
use Rattle.group_core.specs.Shown as group_shown
use Rattle.group_core.specs.declared.group.Group.{Group}
use Rattle.group_core.specs.declared.look.GroupLook.{GroupLook}
use Rattle.motion_history.specs.Calls.{IsCall}
use Rattle.motion_history.specs.Setup.{Setup}
use Rattle.motion_history.specs.declared.config.BlockDef.{BlockDef}
use Rattle.motion_kernel.specs.Machine.{Machine}
use Rattle.motion_kernel.specs.calls.Calls.{with_execute}
use Rattle.motion_kernel.specs.kept.Machine.{AreWhole, IsMachineKept}
use Rattle.motion_kernel.specs.kept.Ready.{MayCall}
use Rattle.motion_kernel.proofs.kept.Machine.{MachinesStayKept}
use Rattle.motion_laws.specs.Standing.{ShowsTruly}

-- axis_core's errors_stand_in_error_stop
pub record AxisErrors : Type 0 where
  pub opened : (d : AxisDef) → axis_shown.IsShown (axis_at_opening d)
  pub command : (q : Asked) (c : axis.Core) → q.axis ≡ c.axis → demands.IsMade q.wanted →
      axis_shown.IsShown c.axis → axis_shown.IsShown (core_after_command q c).axis
  pub power : (enable : Bool) (c : axis.Core) → axis_shown.IsShown c.axis →
      axis_shown.IsShown (core_after_power enable c).axis
  pub detach : (owner : ℕ) (a : Axis) → axis_shown.IsShown a →
      axis_shown.IsShown (axis_without_owner owner a)
  pub path : (on : Bool) (a : Axis) → axis_shown.IsShown a → axis_shown.IsShown (axis_on_path on a)
  pub cycle : (look : AxisLook) (c : axis.Core) → axis_shown.IsShown c.axis →
      axis_shown.IsShown (core_after_cycle look c).axis

-- group_core's errors_stand_in_error_stop and errors_are_those_of_axes
pub record GroupErrors : Type 0 where
  pub opened : (axes : ℕ) → ShowsTruly (opened axes)
  pub command : (w : Wanted) (jerk : ℤ) (members : GroupLook) (c : group.Core) →
      IsMade c.group.axes w → ShowsTruly c.group →
      ShowsTruly (commanded w jerk members c).group
  pub power_off : (c : group.Core) → ShowsTruly c.group →
      ShowsTruly (powered_off c).group
  pub detach : (owner : ℕ) (g : Group) → ShowsTruly g →
      ShowsTruly (group_without owner g)
  pub cycle : (members : GroupLook) (c : group.Core) → IsCoreKept (limits_in members) c →
      group_shown.IsErrorOrNone members.error → ShowsTruly c.group → ShowsTruly (cycled members c).group
  pub reset : (members : GroupLook) (on_path : Bool) (g : Group) → ShowsTruly g →
      ShowsTruly (reset_where members on_path g)

pub record ErrorLaws : Type 0 where
  pub machines : MachinesStayKept
  pub may_call : (s : Setup) (k : ℕ) (b : BlockDef) (i : Inputs) (m : Machine) → AreWhole s →
      slice_get s.blocks k ≡ Some b → IsCall s k i →
      IsMachineKept s m → MayCall s k b i (with_execute k i m)
  pub axes : AxisErrors
  pub groups : GroupErrors
