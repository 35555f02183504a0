-- Of which kind the blocks are whose instances have commands, part by part (PLCopen Motion Control
-- Part 1, general rules).
use Rattle.std.specs.Prelude.{◌≡◌, ℕ, Option, Some, IfSome, List, slice_get}
use Rattle.command_pool.specs.declared.wanted.Wanted.{Wanted}
use Rattle.motion_history.specs.Setup.{Setup}
use Rattle.motion_kernel.specs.owners.Kinds.{IsOfAReset, IsOfItsBlock}

-- each of these commands is of the kind of its instance's block
abbrev pub AreOfBlocks : Setup → List Wanted → Type 0
AreOfBlocks s ws = (n : ℕ) (w : Wanted) → slice_get ws n ≡ Some w → IsOfItsBlock s w

-- an active command, the owner of a pending reset and the commands that wait are of their blocks
pub record HasParts (s : Setup) (active : Option Wanted) (reset : Option ℕ) (ws : List Wanted)
    : Type 0 where
  pub command : IfSome active (IsOfItsBlock s)
  pub own : IsOfAReset s reset
  pub queue : AreOfBlocks s ws
