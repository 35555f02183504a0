-- How many events a call and a cycle bring at most (PLCopen Motion Control Part 1 and Part 4, the
-- state diagrams).
use Rattle.std.specs.Prelude.{◌≤◌, ℤ, Bool, length}
use Rattle.axis_core.specs.Cores as axes
use Rattle.axis_core.specs.Refusals.{Asked}
use Rattle.axis_core.specs.declared.look.AxisLook.{AxisLook}
use Rattle.plc_types.specs.declared.axis_state.AxisState.{AxisState}
use Rattle.command_pool.specs.declared.wanted.Wanted.{Wanted}
use Rattle.group_core.specs.Cores as groups
use Rattle.group_core.specs.GroupKept.{IsCoreKept}
use Rattle.group_core.specs.Refusals.{limits_in}
use Rattle.group_core.specs.declared.group.Group.{Group}
use Rattle.group_core.specs.declared.look.GroupLook.{GroupLook}
use Rattle.plc_types.specs.declared.group.GroupState.{GroupState}
use Rattle.state_events.specs.Axis as axis
use Rattle.state_events.specs.Group as group

-- an axis has at most one in a call, and at most three in a cycle
pub record AreFewAxisEvents : Type 0 where
  pub command : (q : Asked) (c : axes.Core) → length (axis.command_events q c) ≤ 1
  pub power : (enable : Bool) (s : AxisState) → length (axis.power_events enable s) ≤ 1
  pub path : (on : Bool) (s : AxisState) → length (axis.path_events on s) ≤ 1
  pub cycle : (look : AxisLook) (c : axes.Core) → length (axis.cycle_events look c) ≤ 3

-- a group has at most one in a call, by its step and by a GroupReset
pub record AreFewGroupEvents : Type 0 where
  pub command : (w : Wanted) (jerk : ℤ) (members : GroupLook) (c : groups.Core) →
      length (group.command_events w jerk members c) ≤ 1
  pub power_off : (s : GroupState) → length (group.power_off_events s) ≤ 1
  pub cycle : (members : GroupLook) (c : groups.Core) → IsCoreKept (limits_in members) c →
      length (group.step_events members c) ≤ 1
  pub reset : (members : GroupLook) (on_path : Bool) (g : Group) →
      length (group.reset_events members on_path g) ≤ 1
