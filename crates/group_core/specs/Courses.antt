-- Commands of a group that come to their end in time (PLCopen Motion Control Part 4, Done).
use Rattle.std.specs.Prelude.{◌≡◌, ◌↔◌, ◌⊎◌, ℕ, ◌+◌, ◌/◌, ◌≤◌, Bool, true, false, ℤ, pos, ◌-ℤ◌, ◌&&◌, unsigned_abs, Option, Some, None}
use Rattle.std.specs.Int.{int_min}
use Rattle.std.specs.Ordering.{int_eq}
use Rattle.command_pool.specs.declared.ending.Finish.{Finish}
use Rattle.command_pool.specs.declared.ending.Finish.TheVariants as finish
use Rattle.plc_types.specs.declared.kind.BlockKind.{BlockKind}
use Rattle.plc_types.specs.declared.kind.BlockKind.TheVariants as kind
use Rattle.command_pool.specs.declared.rates.Rates.{Rates}
use Rattle.command_pool.specs.declared.wanted.Wanted.{Wanted}
use Rattle.trapezoid_plan.specs.CyclesBound.{cycles_bound_of}
use Rattle.trapezoid_plan.specs.MoveRun.{IsAtRestWithin, IsDoneWithin}
use Rattle.group_core.specs.Cores.{Core}
use Rattle.buffer_modes.specs.Fates.{Fate}
use Rattle.group_core.specs.States.{is_error_stop}
use Rattle.group_core.specs.Tracks.{OnPath, cut, moved_by}
use Rattle.group_core.specs.declared.group.Motion.{Motion}

-- where a command leads: to the end of the path by some rates, or to rest by a deceleration
pub data Course : Type 0 where
  along : Rates → Course
  slowing : ℤ → Course

-- the course of a command, if it has one
abbrev pub course_by : BlockKind → Wanted → Option Course
course_by kind.MoveLinearAbsolute w = Some (along w.rates)
course_by kind.GroupHalt w = Some (slowing w.rates.d)
course_by kind.GroupStop w = Some (slowing w.rates.d)
course_by k w = None

-- the course of a command, if it has one
abbrev pub course_of : Wanted → Option Course
course_of w = course_by w.kind w

-- how many cycles a course takes at most, from a place on the path. This project's profile
abbrev pub bound_of : Course → Motion → ℕ
bound_of (along rates) m =
    cycles_bound_of (m.limits.hi -ℤ m.place) (m.place -ℤ m.previous) (cut m.limits rates)
bound_of (slowing d) m =
    unsigned_abs (m.place -ℤ m.previous) / unsigned_abs (int_min d m.limits.dmax) + 1

-- a course comes to its end within n cycles
abbrev pub RunsWithin : ℕ → Course → Motion → Type 0
RunsWithin n (along rates) m =
    IsDoneWithin n m.limits (cut m.limits rates) m.limits.hi m.previous m.place
RunsWithin n (slowing d) m =
    IsAtRestWithin n m.limits (int_min d m.limits.dmax) m.previous m.place

-- the group is at the end of a course: at rest, and at the end of the path if it leads there
abbrev pub IsAtEnd : Course → Motion → Type 0
IsAtEnd (along rates) m = (m.place ≡ m.limits.hi) × (m.previous ≡ m.limits.hi)
IsAtEnd (slowing d) m = m.place ≡ m.previous

-- what an end says: Done, that the group is at the end of the course; replaced or faulted, nothing
abbrev pub IsEnd : Finish → Course → Option OnPath → Type 0
IsEnd finish.Done course None = ⊥
IsEnd finish.Done course (Some p) = IsAtEnd course p.motion
IsEnd finish.Aborted course p = Unit {0}
IsEnd (finish.Error n) course p = Unit {0}

-- a command of this course is active, and comes to its end within n cycles
pub record IsUnderWay (n : ℕ) (course : Course) (c : Core) : Type 0 where
  pub command : Wanted
  pub active : c.group.active ≡ Some command
  pub leads : course_of command ≡ Some course
  pub on : OnPath
  pub path : c.path ≡ Some on
  pub run : RunsWithin n course on.motion

-- it goes on, with fewer cycles to go
pub record GoesOn (n cycles : ℕ) (course : Course) (c : Core) : Type 0 where
  pub left : ℕ
  pub sum : cycles + left ≡ n
  pub under_way : IsUnderWay left course c

-- after this many cycles, in which the group took this path, the command ended so or goes on
abbrev pub Carried : ℕ → ℕ → Course → Option Finish → Option OnPath → Core → Type 0
Carried n cycles course (Some f) p c = (cycles ≤ n) × IsEnd f course p
Carried n cycles course None p c = GoesOn n cycles course c

-- in GroupErrorStop a path brakes by its dmax, and comes to rest within n cycles
pub record IsBraking (n : ℕ) (c : Core) : Type 0 where
  pub stopped : is_error_stop c.group.state ≡ true
  pub on : OnPath
  pub path : c.path ≡ Some on
  pub run : RunsWithin n (slowing on.motion.limits.dmax) on.motion

-- it brakes on, with one cycle less to go
pub record BrakesOn (n : ℕ) (c : Core) : Type 0 where
  pub left : ℕ
  pub sum : 1 + left ≡ n
  pub braking : IsBraking left c

-- after a cycle the path is over, or it brakes on
abbrev pub Braked : ℕ → Core → Type 0
Braked n c = (c.path ≡ None) ⊎ BrakesOn n c

-- in a cycle the group goes on by this step on its path, and the command is done exactly where this
-- holds
pub record Leads (step : ℤ) (done : Bool) (p : OnPath) (f : Fate) (after : Option OnPath)
    : Type 0 where
  pub path : after ≡ Some (record p { motion = moved_by step p.motion })
  pub ends : (f.ends ≡ Some finish.Done) ↔ (done ≡ true)

-- whether a line is done by a step: it stands at the end of its path, with step 0
abbrev pub is_line_done : Motion → ℤ → Bool
is_line_done m step = int_eq m.place m.limits.hi && int_eq step (pos 0)

-- whether a kind slows to rest
abbrev pub is_slowing : BlockKind → Bool
is_slowing kind.GroupHalt = true
is_slowing kind.GroupStop = true
is_slowing k = false
