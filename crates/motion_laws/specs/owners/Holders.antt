-- Who holds an axis in Stopping or a group in GroupStopping (MC_Stop and MC_GroupStop).
use Rattle.std.specs.Prelude.{◌≡◌, ℕ, true, Option, Some, slice_get}
use Rattle.motion_history.specs.Setup.{Setup}
use Rattle.motion_kernel.specs.Machine.{Machine, axis_at, group_at}
use Rattle.motion_kernel.specs.owners.Objects.{an_axis, a_group, Object, IsThere, has_commands_on}

-- who holds an axis in Stopping or a group in GroupStopping, if an instance does
abbrev pub holder_at : Machine → Object → Option ℕ
holder_at m (an_axis n) = (axis_at m n).hold
holder_at m (a_group j) = (group_at m j).group.hold

-- whoever holds one is an instance of the configuration whose block acts on it
abbrev pub HoldersHaveBlocks : Setup → Machine → Type 0
HoldersHaveBlocks s m = (o : Object) → IsThere m o → (k : ℕ) → holder_at m o ≡ Some k →
    has_commands_on (slice_get s.blocks k) o ≡ true
