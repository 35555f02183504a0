-- Axes and groups by one word, and on which of them a block has its commands.
use Rattle.std.specs.Prelude.{ℕ, ◌<◌, Bool, false, not, ◌&&◌, nat_eq, if◌then◌else◌, Option, Some, None, length}
use Rattle.plc_types.specs.Kinds.{acts_on_group}
use Rattle.fb_outputs.specs.Steps.{is_power}
use Rattle.motion_history.specs.declared.config.BlockDef.{BlockDef}
use Rattle.motion_kernel.specs.Machine.{Machine}

-- an axis or a group, by its number
pub data Object : Type 0 where
  an_axis : ℕ → Object
  a_group : ℕ → Object

-- one that the machine has
abbrev pub IsThere : Machine → Object → Type 0
IsThere m (an_axis n) = n < length m.axes
IsThere m (a_group j) = j < length m.groups

-- whether two are the same
abbrev pub is_same : Object → Object → Bool
is_same (an_axis n) (an_axis k) = nat_eq n k
is_same (an_axis n) (a_group j) = false
is_same (a_group j) (an_axis n) = false
is_same (a_group j) (a_group k) = nat_eq j k

-- on which a block acts
abbrev pub object_of : BlockDef → Object
object_of b = if acts_on_group b.kind then a_group b.object else an_axis b.object

-- whether it is where a block's commands are; a Power has none
abbrev pub has_commands_on : Option BlockDef → Object → Bool
has_commands_on None o = false
has_commands_on (Some b) o = not (is_power b.kind) && is_same (object_of b) o
