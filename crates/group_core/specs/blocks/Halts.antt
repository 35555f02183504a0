-- MC_GroupHalt and MC_GroupStop, and the hold on GroupStopping (PLCopen Motion Control Part 4).
use Rattle.std.specs.Prelude.{ℕ, Bool, ◌&&◌, not, if◌then◌else◌, ℤ, pos, Option, Some, None, is_some, List, [], ◌∷◌}
use Rattle.std.specs.Ordering.{int_eq}
use Rattle.buffer_modes.specs.Owners.{is_released}
use Rattle.command_pool.specs.declared.ending.Finish.{Finish}
use Rattle.command_pool.specs.declared.ending.Finish.TheVariants as finish
use Rattle.plc_types.specs.declared.kind.BlockKind.{BlockKind}
use Rattle.plc_types.specs.declared.kind.BlockKind.TheVariants as kind
use Rattle.plc_types.specs.declared.limits.Limits.{Limits}
use Rattle.group_core.specs.States.{is_stopping}
use Rattle.group_core.specs.Tracks.{OnPath, Way, beginning, is_moving}
use Rattle.group_core.specs.declared.group.Group.{Group}
use Rattle.group_core.specs.declared.reason.Reason.{Reason}
use Rattle.group_core.specs.declared.reason.Reason.TheVariants.{BadDeceleration, JerkRefused, GroupStateRefuses}

-- the refusals of both, in their order. This project's profile
abbrev pub halt_tests : List Reason
halt_tests = BadDeceleration ∷ JerkRefused ∷ GroupStateRefuses ∷ []

-- both are done where the step along the path is 0
abbrev pub halt_ending : ℤ → Option Finish
halt_ending step = if int_eq step (pos 0) then Some finish.Done else None

-- a way of length 0, where the axes stand
abbrev pub way_here : ℕ → List ℤ → Way
way_here count setpoints = record { count = count; starts = setpoints; targets = setpoints }

-- both brake the path that moves; where none does, one of length 0. This project's profile
abbrev pub halted_path : Way → List Limits → Option OnPath → Option OnPath
halted_path here limits p = if is_moving p then p else Some (beginning here limits)

-- the instance that holds GroupStopping by a command: a GroupStop's
abbrev pub hold_by : BlockKind → Option ℕ → Option ℕ
hold_by kind.GroupStop owner = owner
hold_by k owner = None

-- whether the group leaves GroupStopping: its GroupStop is done, nothing moves, nobody holds it
abbrev pub leaves_stopping : Bool → Group → Option OnPath → Bool
leaves_stopping held g p =
    is_stopping g.state && not (is_some g.active) && not (is_moving p) && is_released g.hold held
