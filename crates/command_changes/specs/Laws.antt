-- What the laws of the changes of axes and groups say (PLCopen Motion Control Part 1 and Part 4).
use Rattle.std.specs.Prelude.{◌≡◌, ℕ, ℤ, Bool}
use Rattle.axis_core.specs.AxisKept as axes_kept
use Rattle.axis_core.specs.Calls.{core_after_command, core_after_power}
use Rattle.axis_core.specs.Cores as axes
use Rattle.axis_core.specs.Cycles.{core_after_cycle}
use Rattle.axis_core.specs.Demands as axes_made
use Rattle.axis_core.specs.Owners.{core_without_owner, owner_brought}
use Rattle.axis_core.specs.Refusals as axes_asked
use Rattle.axis_core.specs.Refusals.{Asked}
use Rattle.axis_core.specs.blocks.Path.{axis_on_path}
use Rattle.axis_core.specs.declared.look.AxisLook.{AxisLook}
use Rattle.buffer_modes.specs.Owners.{owner_count}
use Rattle.command_core.specs.Brought.{BringNone, brought}
use Rattle.command_core.specs.Calls.{IsCall}
use Rattle.command_core.specs.Changes.{AllFit, all_changed}
use Rattle.command_core.specs.CommandState as command_state
use Rattle.command_pool.specs.declared.wanted.Wanted.{Wanted}
use Rattle.group_core.specs.Calls.{asked_in, commanded, disowned, powered_off}
use Rattle.group_core.specs.Cores as groups
use Rattle.group_core.specs.Cycles.{cycled, reset_cycled}
use Rattle.group_core.specs.Owners as group_owners
use Rattle.group_core.specs.Refusals as groups_asked
use Rattle.group_core.specs.declared.look.GroupLook.{GroupLook}
use Rattle.command_changes.specs.Axis as axis
use Rattle.command_changes.specs.Group as group

-- what happens to the commands of an axis
pub record AreAxisChanges : Type 0 where
  -- by a command that is asked
  pub command : (q : Asked) (c : axes.Core) →
      axis.command_state_of (core_after_command q c)
      ≡ all_changed (axis.command_changes q c) (axis.command_state_of c)
  -- by a Power
  pub power : (enable : Bool) (c : axes.Core) →
      axis.command_state_of (core_after_power enable c)
      ≡ all_changed (axis.power_changes enable c) (axis.command_state_of c)
  -- in a cycle
  pub cycle : (look : AxisLook) (c : axes.Core) →
      axis.command_state_of (core_after_cycle look c)
      ≡ all_changed (axis.cycle_changes look c) (axis.command_state_of c)
  -- where an instance loses its commands
  pub detach : (owner : ℕ) (c : axes.Core) →
      axis.command_state_of (core_without_owner owner c) ≡ command_state.disowned owner (axis.command_state_of c)
  -- nothing, where the axis goes on its group's path or leaves it
  pub path : (on : Bool) (c : axes.Core) →
      axis.command_state_of (record c { axis = axis_on_path on c.axis }) ≡ axis.command_state_of c
  -- a command and a Power are a call's
  pub command_call : (q : Asked) (c : axes.Core) → IsCall (axis.command_changes q c)
  pub power_call : (enable : Bool) (c : axes.Core) → IsCall (axis.power_changes enable c)
  -- a command brings its owner, where it brings one
  pub command_brings : (k : ℕ) (q : Asked) (c : axes.Core) →
      brought k (axis.command_changes q c)
      ≡ owner_count k (owner_brought (axes_asked.refusal_of q) q.wanted)
  -- and finds its place
  pub command_fits : (c : axes.Core) (number : ℕ) (w : Wanted) (jerk : ℤ) (held : Bool)
      (tables : ℕ) → axes_kept.IsCoreKept c → axes_made.IsMade w →
      AllFit (axis.command_changes (axes_made.asked_in c number w jerk held tables) c)
      (axis.command_state_of c)
  -- a Power and a cycle bring none
  pub power_brings : (enable : Bool) (c : axes.Core) → BringNone (axis.power_changes enable c)
  pub cycle_brings : (look : AxisLook) (c : axes.Core) → BringNone (axis.cycle_changes look c)

-- what happens to the commands of a group
pub record AreGroupChanges : Type 0 where
  -- by a command that is asked
  pub command : (w : Wanted) (jerk : ℤ) (members : GroupLook) (c : groups.Core) →
      group.command_state_of (commanded w jerk members c)
      ≡ all_changed (group.command_changes w jerk members c) (group.command_state_of c)
  -- by a Power off of a member
  pub power_off : (c : groups.Core) →
      group.command_state_of (powered_off c)
      ≡ all_changed (group.power_off_changes c) (group.command_state_of c)
  -- in a cycle
  pub cycle : (members : GroupLook) (c : groups.Core) →
      group.command_state_of (cycled members c)
      ≡ all_changed (group.cycle_changes members c) (group.command_state_of c)
  -- by the GroupResets of a cycle
  pub reset : (members : GroupLook) (c : groups.Core) →
      group.command_state_of (reset_cycled members c)
      ≡ all_changed (group.reset_changes c) (group.command_state_of c)
  -- where an instance loses its commands
  pub detach : (owner : ℕ) (c : groups.Core) →
      group.command_state_of (disowned owner c) ≡ command_state.disowned owner (group.command_state_of c)
  -- a command and a Power off are a call's
  pub command_call : (w : Wanted) (jerk : ℤ) (members : GroupLook) (c : groups.Core) →
      IsCall (group.command_changes w jerk members c)
  pub power_call : (c : groups.Core) → IsCall (group.power_off_changes c)
  -- a command brings its owner, where it brings one
  pub command_brings : (k : ℕ) (w : Wanted) (jerk : ℤ) (members : GroupLook) (c : groups.Core) →
      brought k (group.command_changes w jerk members c)
      ≡ owner_count k (group_owners.brought
      (groups_asked.refusal_of (asked_in c w jerk members)) w)
  -- and finds its place
  pub command_fits : (w : Wanted) (jerk : ℤ) (members : GroupLook) (c : groups.Core) →
      AllFit (group.command_changes w jerk members c) (group.command_state_of c)
  -- a Power off, a cycle and a GroupReset bring none
  pub power_brings : (c : groups.Core) → BringNone (group.power_off_changes c)
  pub cycle_brings : (members : GroupLook) (c : groups.Core) →
      BringNone (group.cycle_changes members c)
  pub reset_brings : (c : groups.Core) → BringNone (group.reset_changes c)
