-- Whose commands an axis or a group has (PLCopen Motion Control Part 1, general rules).
use Rattle.std.specs.Prelude.{◌≡◌, ◌<◌, ℕ, true, Some, slice_get}
use Rattle.command_changes.specs.Axis as axis
use Rattle.command_changes.specs.Group as group
use Rattle.command_core.specs.CommandState.{CommandState, owns}
use Rattle.motion_history.specs.Setup.{Setup}
use Rattle.motion_kernel.specs.Machine.{Machine, axis_core_at, group_core_at}
use Rattle.motion_kernel.specs.owners.Objects.{a_group, an_axis, IsThere, Object, has_commands_on}

-- the commands of an axis or a group
abbrev pub command_state_at : Machine → Object → CommandState
command_state_at m (an_axis n) = axis.command_state_of (axis_core_at m n)
command_state_at m (a_group j) = group.command_state_of (group_core_at m j)

-- of an instance that has one of these commands, or holds stopping, this is true
pub record HasOnly (k : ℕ) (c : CommandState) (there : Type 0) : Type 0 where
  pub commands : 0 < owns k c → there
  pub holds : c.hold ≡ Some k → there

-- whoever has a command of an axis or a group, or holds it in stopping, is an instance whose block
-- has its commands there
abbrev pub OwnersHaveBlocksOn : Setup → Machine → Object → Type 0
OwnersHaveBlocksOn s m o = (k : ℕ) →
    HasOnly k (command_state_at m o) (has_commands_on (slice_get s.blocks k) o ≡ true)

-- so it is of all axes and groups
abbrev pub OwnersHaveBlocks : Setup → Machine → Type 0
OwnersHaveBlocks s m = (o : Object) → IsThere m o → OwnersHaveBlocksOn s m o
