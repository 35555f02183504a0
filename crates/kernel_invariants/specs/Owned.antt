-- Of which instances the commands of an axis or a group are, part by part (PLCopen Motion Control
-- Part 1, general rules).
use Rattle.std.specs.Prelude.{◌≡◌, ℕ, true, Option, Some, IfSome, List, slice_get}
use Rattle.buffer_modes.specs.Owners.{owner_by}
use Rattle.command_core.specs.CommandState.{CommandState}
use Rattle.command_pool.specs.declared.wanted.Wanted.{Wanted}
use Rattle.kernel_invariants.specs.declared.owners.blocks.Object as code
use Rattle.kernel_invariants.specs.declared.owners.blocks.Object.TheVariants.{Axis, Group}
use Rattle.kernel_invariants.specs.declared.owners.commands.Owners.{Owners}
use Rattle.motion_history.specs.Setup.{Setup}
use Rattle.motion_kernel.specs.owners.Objects.{a_group, an_axis, Object, has_commands_on}

-- the axis or group that the code names
abbrev pub object_by : code.Object → Object
object_by (Axis n) = an_axis n
object_by (Group j) = a_group j

-- who has the active command and the pending reset, and who holds it in stopping
abbrev pub owners_of : CommandState → Owners
owners_of c = record { active = owner_by c.active; reset = c.reset; hold = c.hold }

-- an owner, if there is one, is an instance whose block has its commands on an axis or a group
abbrev pub HasBlock : Setup → Object → Option ℕ → Type 0
HasBlock s o owner = IfSome owner (λ k. has_commands_on (slice_get s.blocks k) o ≡ true)

-- each of these three owners, if there is one, is such an instance
pub record HaveBlocks (s : Setup) (o : Object) (owners : Owners) : Type 0 where
  pub active : HasBlock s o owners.active
  pub reset : HasBlock s o owners.reset
  pub hold : HasBlock s o owners.hold

-- so are the owners of these commands
abbrev pub HaveAllBlocks : Setup → Object → List Wanted → Type 0
HaveAllBlocks s o ws = (n : ℕ) (w : Wanted) → slice_get ws n ≡ Some w → HasBlock s o w.owner
