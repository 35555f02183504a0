-- MC_MoveLinearAbsolute, and MC_MoveCircularAbsolute, which is refused (PLCopen Part 4).
use Rattle.std.specs.Prelude.{ℕ, ◌&&◌, if◌then◌else◌, ℤ, pos, Option, Some, None, List, [], ◌∷◌, ◌++◌}
use Rattle.std.specs.Ordering.{int_eq}
use Rattle.command_pool.specs.declared.ending.Finish.{Finish}
use Rattle.command_pool.specs.declared.ending.Finish.TheVariants as finish
use Rattle.plc_types.specs.declared.kind.BlockKind.TheVariants as kind
use Rattle.command_pool.specs.declared.wanted.Wanted.{Wanted}
use Rattle.group_core.specs.Tracks.{Way}
use Rattle.group_core.specs.declared.group.Motion.{Motion}
use Rattle.group_core.specs.declared.reason.Reason.{Reason}
use Rattle.group_core.specs.declared.reason.Reason.TheVariants.{BadVelocity, BadAcceleration, BadDeceleration, JerkRefused, TargetOutside, QueueFull, GroupStateRefuses, BlendRefused, CircularRefused}

-- the refusals of a line, in their order. This project's profile
abbrev pub line_tests : List Reason
line_tests =
    BadVelocity ∷ BadAcceleration ∷ BadDeceleration ∷ JerkRefused ∷ TargetOutside ∷ QueueFull
    ∷ GroupStateRefuses ∷ BlendRefused ∷ []

-- the reasons against which a circle is tested, in their order
abbrev pub circle_tests : List Reason
circle_tests = line_tests ++ CircularRefused ∷ []

-- the way of a line, from where the axes stand
abbrev pub way_to : ℕ → List ℤ → Wanted → Way
way_to count setpoints w = record { count = count; starts = setpoints; targets = w.targets }

-- a line is done where it stands at the end of its path and the step is 0
abbrev pub line_ending : Motion → ℤ → Option Finish
line_ending m step =
    if int_eq m.place m.limits.hi && int_eq step (pos 0) then Some finish.Done else None

-- what brakes a path before an aborting line: a halt that nobody has, by the Deceleration that was
abbrev pub braking_for : Option Wanted → Option Wanted
braking_for None = None
braking_for (Some w) = Some (record w { kind = kind.GroupHalt; owner = None })
