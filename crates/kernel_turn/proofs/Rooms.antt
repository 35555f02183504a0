-- What a kernel has room for.
-- for: turn_call, turn_cycle, turn_end
use Rattle.std.proofs.Common.{◌≤◌, Bool, true, false, ℕ, arith}
use Rattle.std.specs.Prelude.{if◌then◌else◌}

-- no kernel has more entries than its room, whether it was stopped or not
pub within_room : (stopped : Bool) (made room : ℕ) → made ≤ room → made ≤ (if stopped then made else room)
within_room true made room few = omega arith
within_room false made room few = few
