-- The active command where another one waits after it.
-- for: crates above
use Rattle.std.specs.Prelude.{◌≡◌, refl, Bool, true, false, ◌||◌, Option, Some, None, is_none, List, [], if◌then◌else◌}
use Rattle.buffer_modes.specs.Queue.{Commands, behind}
use Rattle.command_pool.specs.declared.wanted.Wanted.{Wanted}

-- it stays
pub later_active : (aborts : Bool) (active : Option Wanted) (ws : List Wanted) (w : Wanted) → (aborts || is_none active) ≡ false →
    (let after : Commands = if aborts then record { active = Some w; waiting = [] } else behind active ws w in after).active ≡ active
later_active true active ws w h = absurd (cc)
later_active false None ws w h = absurd (cc)
later_active false (Some v) ws w h = refl
