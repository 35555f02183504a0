-- Which commands an instance has, and which it shows (PLCopen Motion Control Part 1, general
-- rules).
use Rattle.std.specs.Prelude.{◌≡◌, ℕ, if◌then◌else◌, slice_get}
use Rattle.axis_core.specs.Owners as axis
use Rattle.buffer_modes.specs.Owners.{owner_count, owner_by}
use Rattle.fb_outputs.specs.declared.instance.Progress.{Progress}
use Rattle.fb_outputs.specs.declared.instance.Progress.TheVariants.{Idle, Waiting, Active, Ended}
use Rattle.group_core.specs.Owners as group
use Rattle.motion_history.specs.Setup.{Setup}
use Rattle.motion_kernel.specs.Machine.{Machine, axis_at, axis_core_at, group_at, group_core_at, instance_at}
use Rattle.motion_kernel.specs.owners.Objects.{an_axis, a_group, Object, IsThere, has_commands_on}

-- how many of its commands an instance has: the active one, those that wait and a pending reset
abbrev pub commands_at : Machine → ℕ → Object → ℕ
commands_at m k (an_axis n) = axis.owns k (axis_core_at m n)
commands_at m k (a_group j) = group.owns k (group_core_at m j)

-- how many commands an instance shows: one while it waits or is active, and none else
abbrev pub commands_shown : Progress → ℕ
commands_shown Idle = 0
commands_shown Waiting = 1
commands_shown Active = 1
commands_shown (Ended f shown) = 0

-- whether an instance has the active command of it: 1, else 0
abbrev pub active_at : Machine → ℕ → Object → ℕ
active_at m k (an_axis n) = owner_count k (owner_by (axis_at m n).active)
active_at m k (a_group j) = owner_count k (owner_by (group_at m j).group.active)

-- whether an instance shows that its command is active: 1, else 0
abbrev pub active_shown : Progress → ℕ
active_shown Idle = 0
active_shown Waiting = 0
active_shown Active = 1
active_shown (Ended f shown) = 0

-- an instance has a command exactly while it shows one, on the axis or group on which its block
-- acts; and whoever has a command is an instance of the configuration
abbrev pub CommandsAreShown : Setup → Machine → Type 0
CommandsAreShown s m = (k : ℕ) (o : Object) → IsThere m o →
    commands_at m k o ≡ (if has_commands_on (slice_get s.blocks k) o
    then commands_shown (instance_at m.instances k).progress else 0)

-- and its command is the active one exactly while it shows so
abbrev pub ActiveAreShown : Setup → Machine → Type 0
ActiveAreShown s m = (k : ℕ) (o : Object) → IsThere m o →
    active_at m k o ≡ (if has_commands_on (slice_get s.blocks k) o
    then active_shown (instance_at m.instances k).progress else 0)
