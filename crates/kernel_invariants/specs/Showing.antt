-- What an instance shows of its commands (PLCopen Motion Control Part 1, general rules).
use Rattle.std.specs.Prelude.{◌≡◌, ℕ, ◌+◌, true, slice_get}
use Rattle.buffer_modes.specs.Owners.{owner_count}
use Rattle.fb_outputs.specs.declared.instance.Progress.{Progress}
use Rattle.kernel_invariants.specs.declared.owners.commands.Owners.{Owners}
use Rattle.motion_history.specs.Setup.{Setup}
use Rattle.motion_kernel.specs.Machine.{Machine, instance_at}
use Rattle.motion_kernel.specs.owners.Commands.{active_at, active_shown, commands_at, commands_shown}
use Rattle.motion_kernel.specs.owners.Objects.{IsThere, Object, has_commands_on}

-- an instance that is so far shows the commands that it has: of these owners, and so many that wait
pub record Shows (k waits : ℕ) (owners : Owners) (progress : Progress) : Type 0 where
  pub commands : owner_count k owners.active + waits + owner_count k owners.reset
      ≡ commands_shown progress
  pub active : owner_count k owners.active ≡ active_shown progress

-- an instance shows those that it has of an axis or a group
pub record ShowsOn (m : Machine) (k : ℕ) (o : Object) : Type 0 where
  pub commands : commands_at m k o ≡ commands_shown (instance_at m.instances k).progress
  pub active : active_at m k o ≡ active_shown (instance_at m.instances k).progress

-- so it does where its block acts
abbrev pub ShowsWhere : Setup → Machine → ℕ → Type 0
ShowsWhere s m k = (o : Object) → IsThere m o → has_commands_on (slice_get s.blocks k) o ≡ true →
    ShowsOn m k o
