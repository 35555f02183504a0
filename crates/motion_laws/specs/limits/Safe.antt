-- That every axis and every path can be stopped, and at most eight commands wait in each list.
use Rattle.std.specs.Prelude.{◌≡◌, ℕ, ◌<◌, ◌≤◌, true, Some, length, map}
use Rattle.command_pool.specs.Waiting.{queue_of}
use Rattle.group_core.specs.GroupKept.{IsPathOf}
use Rattle.group_core.specs.Tracks.{OnPath}
use Rattle.kin_core.specs.Admissible.{IsKept}
use Rattle.motion_history.specs.Setup.{Setup}
use Rattle.motion_kernel.specs.Machine.{Machine, axis_at, group_at}
use Rattle.motion_kernel.specs.kept.Machine.{limits_of}
use Rattle.motion_kernel.specs.members.Members.{members_at}

-- an axis can be stopped within its limits, where it is driven
abbrev pub IsAxisStoppable : Setup → Machine → ℕ → Type 0
IsAxisStoppable s m n =
    (axis_at m n).driven ≡ true →
    IsKept (limits_of s n) (axis_at m n).previous (axis_at m n).setpoint

-- a group's path, where it has one, is one of its axes, on which it can be stopped
abbrev pub IsPathStoppable : Setup → Machine → ℕ → Type 0
IsPathStoppable s m j = (p : OnPath) → (group_at m j).path ≡ Some p →
    IsPathOf (length (members_at s j)) (map (limits_of s) (members_at s j)) p

-- each axis that is driven and each path can be stopped, and at most eight commands wait in each
-- list
pub record IsSafe (s : Setup) (m : Machine) : Type 0 where
  pub axes : (n : ℕ) → n < length s.axes → IsAxisStoppable s m n
  pub paths : (j : ℕ) → j < length s.groups → IsPathStoppable s m j
  pub waiting : (list : ℕ) → length (queue_of m.queues list) ≤ 8
