-- How a block of a configuration may be called. This project's profile.
use Rattle.std.specs.Prelude.{◌≡◌, ◌<◌, ℕ, Option, Some, None, length, slice_get, if◌then◌else◌}
use Rattle.plc_types.specs.Kinds.{acts_on_group}
use Rattle.plc_types.specs.Inputs.{AreInputs}
use Rattle.plc_types.specs.declared.inputs.Inputs.{Inputs}
use Rattle.motion_history.specs.declared.config.BlockDef.{BlockDef}
use Rattle.motion_history.specs.declared.config.GroupDef.{GroupDef}
use Rattle.motion_history.specs.Setup.{Setup}

-- how many axes a group has, if it is there
abbrev pub count_in : Option GroupDef → ℕ
count_in None = 0
count_in (Some g) = g.count

-- on how many axes a block acts: one, or those of its group. PLCopen Motion Control Part 4
abbrev pub axes_of : Setup → BlockDef → ℕ
axes_of s b = if acts_on_group b.kind then count_in (slice_get s.groups b.object) else 1

-- a call is of a block that is there, with inputs of its kind, and an axis that is there for its
-- master
pub record IsCall (s : Setup) (k : ℕ) (i : Inputs) : Type 0 where
  pub there : k < length s.blocks
  pub inputs : (b : BlockDef) → slice_get s.blocks k ≡ Some b → AreInputs b.kind (axes_of s b) i
  pub master : i.master < length s.axes
