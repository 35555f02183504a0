-- A group on a straight line, as its definitions see it.
use Rattle.std.specs.Prelude.{ℕ, Option, Some, None, List}
use Rattle.command_pool.specs.declared.notes.Note.{Note}
use Rattle.command_pool.specs.declared.wanted.Wanted.{Wanted}
use Rattle.linear_path.specs.declared.line.LinePath.{LinePath}
use Rattle.group_core.specs.Cores.{Core, core_in}
use Rattle.group_core.specs.Tracks.{OnPath, Way}
use Rattle.group_core.specs.declared.group.GroupOnPath.{GroupOnPath}
use Rattle.group_core.specs.declared.group.Track.{Track}

-- the way of a line
abbrev pub way_of : LinePath → Way
way_of line = record { count = line.count; starts = line.starts; targets = line.targets }

-- a line with the place on it
abbrev pub on_path : Option (Track LinePath) → Option OnPath
on_path None = None
on_path (Some t) = Some (record { way = way_of t.path; motion = t.motion })

-- a group with its path and the commands that wait in its list of the pool
abbrev pub core_at : GroupOnPath LinePath → List (List Wanted) → ℕ → List Note → Core
core_at g lists list notes = core_in g.group (on_path g.track) lists list notes
