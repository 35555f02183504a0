-- Targets that are small enough to be worked with.
-- for: command
use Rattle.std.specs.Prelude.{List, [], ◌∷◌}
use Rattle.command_pool.specs.Waiting.{last_of}
use Rattle.command_pool.specs.declared.wanted.Wanted.{Wanted}
use Rattle.axis_core.specs.Kept.{AreSmallTargets, IsSmallTarget}

-- the last of commands whose targets are small has a small one
pub last-small : (ws : List Wanted) → AreSmallTargets ws → IsSmallTarget (last_of ws)
last-small [] h = tt
last-small (w ∷ []) h = h.0
last-small (w ∷ v ∷ ws) h = last-small (v ∷ ws) h.1
