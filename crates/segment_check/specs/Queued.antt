-- The commands of an axis as calls ask for them, part by part (PLCopen Motion Control Part 1).
use Rattle.std.specs.Prelude.{◌≡◌, ℕ, ◌<◌, true, false, Option, Some, IfSome, List, length, slice_get}
use Rattle.axis_core.specs.blocks.Cam.{is_no_table}
use Rattle.axis_core.specs.blocks.Gear.{is_master}
use Rattle.command_pool.specs.declared.wanted.Wanted.{Wanted}
use Rattle.motion_history.specs.Setup.{Setup}
use Rattle.motion_laws.specs.Orders.{IsHeldByStop, IsOrder, IsQueued, has_master, is_follow_of}

-- a command follows as its kind does
pub record Follows (s : Setup) (n : ℕ) (w : Wanted) : Type 0 where
  pub follow : is_follow_of w.kind w.follow ≡ true
  pub other : is_master n w.follow ≡ false
  pub table : is_no_table (length s.tables) w.follow ≡ false
  pub there : has_master (length s.axes) w.follow ≡ true

-- each of these commands is one that waits for the axis of this number
abbrev pub AreQueued : Setup → ℕ → List Wanted → Type 0
AreQueued s n ws = (place : ℕ) (w : Wanted) → slice_get ws place ≡ Some w → IsQueued s n w

-- an active command, a hold and the commands that wait are so
pub record HasOrders (s : Setup) (n : ℕ) (active : Option Wanted) (hold : Option ℕ)
    (ws : List Wanted) : Type 0 where
  pub command : IfSome active (IsOrder s n)
  pub held : IsHeldByStop s hold
  pub queue : AreQueued s n ws
