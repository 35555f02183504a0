-- Parts of the invariant of a group, and of where its axes stand.
use Rattle.std.specs.Prelude.{◌≡◌, ℕ, ◌<◌, pos, ◌≤ℤ◌, Option, Some}
use Rattle.command_pool.specs.declared.wanted.Wanted.{Wanted}
use Rattle.linear_path.specs.declared.line.LinePath.{LinePath}
use Rattle.group_core.specs.GroupKept.{IsActive, IsCount, IsInState}
use Rattle.group_core.specs.Seen.{way_of}
use Rattle.group_core.specs.Tracks.{OnPath, length_of}
use Rattle.group_core.specs.declared.group.Group.{Group}
use Rattle.group_core.specs.declared.group.Track.{Track}

-- a line with the place on it
abbrev pub track_of : Track LinePath → OnPath
track_of t = record { way = way_of t.path; motion = t.motion }

-- a group has 2 to 6 axes, is as its state says, and its active command fits it
pub record IsOrdered (g : Group) (p : Option OnPath) : Type 0 where
  pub axes : IsCount g.axes
  pub state : IsInState g.state p g.active
  pub active : (w : Wanted) → g.active ≡ Some w → IsActive g.state w

-- an axis of a path, whose two last places lie on it
pub record IsOnLine (p : OnPath) (axis : ℕ) : Type 0 where
  pub there : axis < p.way.count
  pub from : pos 0 ≤ℤ p.motion.previous
  pub from_end : p.motion.previous ≤ℤ pos (length_of p.way)
  pub to : pos 0 ≤ℤ p.motion.place
  pub to_end : p.motion.place ≤ℤ pos (length_of p.way)
