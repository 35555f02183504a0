-- What becomes of the active command of an axis or a group, and who is notified of it, by the
-- changes of its commands (PLCopen Motion Control Part 1 and Part 4, buffer modes).
use Rattle.std.specs.Prelude.{◌≡◌, ℕ, ℤ, Bool, List}
use Rattle.axis_core.specs.Calls.{axis_without_owner, core_after_command, core_after_power}
use Rattle.axis_core.specs.Cores as axes
use Rattle.axis_core.specs.Cycles.{core_after_cycle}
use Rattle.axis_core.specs.Fates as axis_fates
use Rattle.axis_core.specs.Refusals.{Asked}
use Rattle.axis_core.specs.blocks.Path.{axis_on_path}
use Rattle.axis_core.specs.declared.axis.Axis.{Axis}
use Rattle.axis_core.specs.declared.look.AxisLook.{AxisLook}
use Rattle.buffer_modes.specs.Fates.{Fate, IsFate, TellsOwner}
use Rattle.buffer_modes.specs.Owners.{IsSame}
use Rattle.command_core.specs.Changes.{Change}
use Rattle.command_core.specs.CommandState.{CommandState}
use Rattle.command_core.specs.Fates.{fate_in}
use Rattle.command_pool.specs.declared.wanted.Wanted.{Wanted}
use Rattle.group_core.specs.Calls.{commanded, group_without, powered_off}
use Rattle.group_core.specs.Cores as groups
use Rattle.group_core.specs.Cycles.{cycled, reset_where}
use Rattle.group_core.specs.Fates as group_fates
use Rattle.group_core.specs.declared.group.Group.{Group}
use Rattle.group_core.specs.declared.look.GroupLook.{GroupLook}
use Rattle.command_changes.specs.Axis as axis
use Rattle.command_changes.specs.Group as group

-- a fate is what becomes of the active command by changes, from these commands to those
pub record IsFateBy (f : Fate) (xs : List Change) (before now : CommandState) : Type 0 where
  -- it ends and begins as they do
  pub ends : f.ends ≡ (fate_in xs before).ends
  pub begins : f.begins ≡ (fate_in xs before).begins
  -- it is what the active command before and the one after show
  pub shown : IsFate f before.active now.active
  -- and the owner of the active command is notified how it ends
  pub told : TellsOwner f before.active now.notes

-- what becomes of the active command of an axis
pub record AreAxisFates : Type 0 where
  -- by a command that is asked
  pub command : (q : Asked) (c : axes.Core) →
      IsFateBy (axis_fates.command_fate q c) (axis.command_changes q c) (axis.command_state_of c)
      (axis.command_state_of (core_after_command q c))
  -- by a Power
  pub power : (enable : Bool) (c : axes.Core) →
      IsFateBy (axis_fates.power_fate enable c) (axis.power_changes enable c) (axis.command_state_of c)
      (axis.command_state_of (core_after_power enable c))
  -- in a cycle
  pub cycle : (look : AxisLook) (c : axes.Core) →
      IsFateBy (axis_fates.cycle_fate look c) (axis.cycle_changes look c) (axis.command_state_of c)
      (axis.command_state_of (core_after_cycle look c))
  -- where an instance loses its commands it goes on
  pub detach : (owner : ℕ) (a : Axis) → IsSame a.active (axis_without_owner owner a).active
  -- and where the axis goes on its group's path or leaves it
  pub path : (on : Bool) (a : Axis) → (axis_on_path on a).active ≡ a.active

-- what becomes of the active command of a group
pub record AreGroupFates : Type 0 where
  -- by a command that is asked
  pub command : (w : Wanted) (jerk : ℤ) (members : GroupLook) (c : groups.Core) →
      IsFateBy (group_fates.command_fate w jerk members c)
      (group.command_changes w jerk members c) (group.command_state_of c)
      (group.command_state_of (commanded w jerk members c))
  -- by a Power off of a member
  pub power_off : (c : groups.Core) →
      IsFateBy (group_fates.power_off_fate c) (group.power_off_changes c) (group.command_state_of c)
      (group.command_state_of (powered_off c))
  -- in a cycle
  pub cycle : (members : GroupLook) (c : groups.Core) →
      IsFateBy (group_fates.cycle_fate members c) (group.cycle_changes members c)
      (group.command_state_of c) (group.command_state_of (cycled members c))
  -- where an instance loses its commands it goes on
  pub detach : (owner : ℕ) (g : Group) → IsSame g.active (group_without owner g).active
  -- and in a GroupReset
  pub reset : (members : GroupLook) (on_path : Bool) (g : Group) →
      (reset_where members on_path g).active ≡ g.active
