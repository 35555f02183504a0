-- Where the axes of a group stand on its path (PLCopen Motion Control Part 4).
use Rattle.std.specs.Prelude.{◌≡◌, ℕ, ℤ, List}
use Rattle.kin_core.specs.Admissible.{IsKept, IsSafe}
use Rattle.plc_types.specs.declared.limits.Limits.{Limits}
use Rattle.linear_path.specs.Path.{limits_at}
use Rattle.group_core.specs.Tracks.{OnPath, place_on}

-- the setpoints of an axis, the one before and the current one, are its places on the path
pub record StandsOn (p : OnPath) (axis : ℕ) (before now : ℤ) : Type 0 where
  pub before_is : before ≡ place_on p.way axis p.motion.previous
  pub now_is : now ≡ place_on p.way axis p.motion.place

-- an axis can be stopped within its own limits, and the place that it is given is a safe step
pub record TakesSafely (limits : List Limits) (axis : ℕ) (before now place : ℤ) : Type 0 where
  pub kept : IsKept (limits_at limits axis) before now
  pub safe : IsSafe (limits_at limits axis) before now place
