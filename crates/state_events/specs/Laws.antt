-- What the laws of states by their events say (PLCopen Motion Control Part 1 and Part 4, the state
-- diagrams).
use Rattle.std.specs.Prelude.{◌≡◌, ℕ, ℤ, Bool}
use Rattle.axis_core.specs.AxisKept as axes_kept
use Rattle.axis_core.specs.AxisKept.{IsLook}
use Rattle.axis_core.specs.Calls.{axis_without_owner, core_after_command, core_after_power}
use Rattle.axis_core.specs.Cores as axes
use Rattle.axis_core.specs.Cycles.{core_after_cycle}
use Rattle.axis_core.specs.Demands as axis_demands
use Rattle.axis_core.specs.blocks.Path.{axis_on_path}
use Rattle.axis_core.specs.declared.axis.Axis.{Axis}
use Rattle.axis_core.specs.declared.look.AxisLook.{AxisLook}
use Rattle.command_pool.specs.declared.wanted.Wanted.{Wanted}
use Rattle.group_core.specs.Calls.{commanded, group_without, powered_off}
use Rattle.group_core.specs.Cores as groups
use Rattle.group_core.specs.Cycles.{cycled, reset_where}
use Rattle.group_core.specs.GroupKept as groups_kept
use Rattle.group_core.specs.Refusals.{limits_in}
use Rattle.group_core.specs.declared.group.Group.{Group}
use Rattle.group_core.specs.declared.look.GroupLook.{GroupLook}
use Rattle.state_events.specs.Axis as axis
use Rattle.state_events.specs.Group as group

-- an axis changes its state by its events, one after another
pub record AreAxisEvents : Type 0 where
  -- by a command that is asked
  pub command : (c : axes.Core) (number : ℕ) (w : Wanted) (jerk : ℤ) (held : Bool)
      (tables : ℕ) → axes_kept.IsCoreKept c → axis_demands.IsMade w →
      axis.Lead c.axis.state
      (axis.command_events (axis_demands.asked_in c number w jerk held tables) c)
      (core_after_command (axis_demands.asked_in c number w jerk held tables) c).axis.state
  -- by a Power
  pub power : (enable : Bool) (c : axes.Core) →
      axis.Lead c.axis.state (axis.power_events enable c.axis.state)
      (core_after_power enable c).axis.state
  -- where it goes on its group's path or leaves it
  pub path : (on : Bool) (a : Axis) →
      axis.Lead a.state (axis.path_events on a.state) (axis_on_path on a).state
  -- by none where an instance loses its commands
  pub detach : (owner : ℕ) (a : Axis) → (axis_without_owner owner a).state ≡ a.state
  -- in a cycle
  pub cycle : (look : AxisLook) (c : axes.Core) → axes_kept.IsCoreKept c → IsLook c.axis look →
      axis.Lead c.axis.state (axis.cycle_events look c) (core_after_cycle look c).axis.state

-- a group changes its state by its events, one after another
pub record AreGroupEvents : Type 0 where
  -- by a command that is asked
  pub command : (w : Wanted) (jerk : ℤ) (members : GroupLook) (c : groups.Core) →
      groups_kept.IsMade c.group.axes w →
      group.Lead c.group.state (group.command_events w jerk members c)
      (commanded w jerk members c).group.state
  -- by a Power off of a member
  pub power_off : (c : groups.Core) →
      group.Lead c.group.state (group.power_off_events c.group.state)
      (powered_off c).group.state
  -- by none where an instance loses its commands
  pub detach : (owner : ℕ) (g : Group) → (group_without owner g).state ≡ g.state
  -- by its step in a cycle
  pub cycle : (members : GroupLook) (c : groups.Core) →
      groups_kept.IsCoreKept (limits_in members) c →
      group.Lead c.group.state (group.step_events members c) (cycled members c).group.state
  -- by the GroupResets after the cycles of its axes
  pub reset : (members : GroupLook) (on_path : Bool) (g : Group) →
      group.Lead g.state (group.reset_events members on_path g)
      (reset_where members on_path g).state
