-- Of which kind the commands of instances are (PLCopen Motion Control Part 1, general rules).
use Rattle.std.specs.Prelude.{◌≡◌, ℕ, Bool, true, false, Option, Some, slice_get}
use Rattle.std.specs.List.{AllByRecursion}
use Rattle.command_core.specs.CommandState.{CommandState}
use Rattle.plc_types.specs.declared.kind.BlockKind.{BlockKind}
use Rattle.plc_types.specs.declared.kind.BlockKind.TheVariants as kind
use Rattle.command_pool.specs.declared.wanted.Wanted.{Wanted}
use Rattle.motion_history.specs.Setup.{Setup}
use Rattle.motion_history.specs.declared.config.BlockDef.{BlockDef}

-- whether a block resets errors. MC_Reset and MC_GroupReset
abbrev pub is_reset : BlockKind → Bool
is_reset kind.Reset = true
is_reset kind.GroupReset = true
is_reset kind = false

-- a command is of the kind of its instance's block
abbrev pub IsOfItsBlock : Setup → Wanted → Type 0
IsOfItsBlock s w = (k : ℕ) (b : BlockDef) → w.owner ≡ Some k → slice_get s.blocks k ≡ Some b →
    w.kind ≡ b.kind

-- whoever has a pending reset has a block that resets
abbrev pub IsOfAReset : Setup → Option ℕ → Type 0
IsOfAReset s o = (k : ℕ) (b : BlockDef) → o ≡ Some k → slice_get s.blocks k ≡ Some b →
    is_reset b.kind ≡ true

-- so are all commands of an axis or a group
pub record AreOfTheirBlocks (s : Setup) (c : CommandState) : Type 0 where
  pub active : (w : Wanted) → c.active ≡ Some w → IsOfItsBlock s w
  pub waiting : AllByRecursion (IsOfItsBlock s) c.waiting
  pub reset : IsOfAReset s c.reset
