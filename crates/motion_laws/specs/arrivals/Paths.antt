-- When the commands of groups come to their end (PLCopen Motion Control Part 4, Done).
use Rattle.std.specs.Prelude.{◌≡◌, ℕ, ◌+◌, ◌<◌, ◌≤◌, Option, Some, None, option_map, List, [], ◌∷◌, ◌++◌, length}
use Rattle.command_pool.specs.declared.ending.Finish.{Finish}
use Rattle.command_pool.specs.declared.ending.Finish.TheVariants as finish
use Rattle.plc_types.specs.declared.kind.BlockKind.TheVariants as kind
use Rattle.command_pool.specs.declared.wanted.Wanted.{Wanted}
use Rattle.group_core.specs.Courses.{Course, IsEnd, bound_of, course_of}
use Rattle.buffer_modes.specs.Fates.{IsFate}
use Rattle.group_core.specs.Tracks.{OnPath}
use Rattle.linear_path.specs.Line.{coordinate_of}
use Rattle.motion_history.specs.Entries.{Entry, cycle_count, cycles_of}
use Rattle.motion_history.specs.Setup.{Setup}
use Rattle.motion_laws.specs.arrivals.GroupFates.{group_fate, path_in}
use Rattle.motion_kernel.specs.Histories.{after, machine_after}
use Rattle.motion_kernel.specs.Machine.{Machine, axis_at, group_at}
use Rattle.motion_kernel.specs.members.Members.{member_at, members_at}

-- how the active command of a group ends: in which cycle, how, and on which path. This project's
-- profile
pub record Ended : Type 0 where
  pub cycles : ℕ
  pub finish : Finish
  pub path : Option OnPath

-- it ends by an entry of this many cycles, or later
abbrev pub ended_by : Option Finish → ℕ → Option OnPath → Option Ended → Option Ended
ended_by (Some f) cycles p later = Some (record { cycles = cycles; finish = f; path = p })
ended_by None cycles p later =
    option_map (λ (t : Ended). record t { cycles = cycles + t.cycles }) later

-- the end of the active command of a group in some entries, if it ends there
abbrev pub ended_in : Setup → ℕ → Machine → List Entry → Option Ended
ended_in s j m [] = None
ended_in s j m (e ∷ es) =
    ended_by (group_fate s m e j).ends (cycle_count e) (path_in s m e j)
    (ended_in s j (after s m e) es)

-- it ends, within this many cycles; where it is then Done, the group is at the end of its course:
-- at rest, and at the end of the path if it leads there
abbrev pub IsEndedWithin : ℕ → Course → Option Ended → Type 0
IsEndedWithin most course None = ⊥
IsEndedWithin most course (Some t) = (t.cycles ≤ most) × IsEnd t.finish course t.path

-- the axes of a group rest, and where the command was a line each stands at its target
abbrev pub AreAtEnd : Setup → Machine → ℕ → Wanted → Type 0
AreAtEnd s m j w = (place : ℕ) → place < length (members_at s j) →
    let a = axis_at m (member_at (members_at s j) place) in
    (a.previous ≡ a.setpoint) ×
    (w.kind ≡ kind.MoveLinearAbsolute → a.setpoint ≡ coordinate_of w.targets place)

-- what an entry makes of the active command of a group, with the entries after it
pub record KeepsCourse (s : Setup) (m : Machine) (e : Entry) (more : List Entry) (j : ℕ)
    : Type 0 where
  -- how it ends and which one begins is what the group shows
  pub fate : IsFate (group_fate s m e j) (group_at m j).group.active
      (group_at (after s m e) j).group.active
  -- a line, a GroupHalt or a GroupStop that begins ends within its bound on its path, where there
  -- are this many cycles
  pub in_time : (w : Wanted) (course : Course) (p : OnPath) → (group_fate s m e j).begins ≡ Some w →
      course_of w ≡ Some course → (group_at (after s m e) j).path ≡ Some p →
      bound_of course p.motion ≤ cycles_of more →
      IsEndedWithin (bound_of course p.motion) course (ended_in s j (after s m e) more)
  -- wherever a command ends Done, the axes rest, those of a line at its targets
  pub done : (w : Wanted) → (group_at m j).group.active ≡ Some w →
      (group_fate s m e j).ends ≡ Some finish.Done → AreAtEnd s (after s m e) j w

-- so it is of each entry of a history and each group
abbrev pub PathsEnd : Setup → List Entry → Type 0
PathsEnd s es = (made more : List Entry) (e : Entry) (j : ℕ) → es ≡ made ++ e ∷ more →
    j < length s.groups → KeepsCourse s (machine_after s made) e more j
