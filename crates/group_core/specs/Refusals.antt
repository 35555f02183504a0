-- Why a command on a group is refused (the refusals of this project's profile).
use Rattle.std.specs.Prelude.{ℕ, zero, suc, Bool, true, false, not, ◌&&◌, ◌||◌, ◌==◌, if◌then◌else◌, ℤ, pos, Option, Some, None, is_some, List, [], ◌∷◌, take}
use Rattle.std.specs.List.{list_any}
use Rattle.std.specs.Ordering.{int_eq}
use Rattle.plc_types.specs.declared.axis_state.AxisState.{AxisState}
use Rattle.buffer_modes.specs.Queue.{is_aborting}
use Rattle.plc_types.specs.declared.kind.BufferMode.{BufferMode}
use Rattle.plc_types.specs.declared.kind.BufferMode.TheVariants as mode
use Rattle.command_pool.specs.declared.wanted.Wanted.{Wanted}
use Rattle.plc_types.specs.declared.limits.Limits.{Limits}
use Rattle.linear_path.specs.Line.{coordinate_of}
use Rattle.linear_path.specs.Path.{limits_at}
use Rattle.motion_numbers.specs.Ranges.{is_outside}
use Rattle.motion_numbers.specs.declared.TheConstants.{MOST_STEP}
use Rattle.group_core.specs.Kinds.{may_come, tests_of}
use Rattle.axis_state.specs.States as axis
use Rattle.group_core.specs.States.{is_moved}
use Rattle.group_core.specs.declared.group.Group.{Group}
use Rattle.group_core.specs.declared.look.GroupLook.{GroupLook}
use Rattle.group_core.specs.declared.reason.Reason.{Reason}
use Rattle.group_core.specs.declared.reason.Reason.TheVariants.{NotPowered, InErrorStop, InStopping, InHoming, BadVelocity, BadAcceleration, BadDeceleration, JerkRefused, TargetOutside, QueueFull, NotAtRest, GroupStateRefuses, BlendRefused, CircularRefused}

-- what a command is asked of: the group, whether its path moves, and how many commands wait; the
-- command and its Jerk; and the axes
pub record Asked : Type 0 where
  pub group : Group
  pub moves : Bool
  pub waiting : ℕ
  pub wanted : Wanted
  pub jerk : ℤ
  pub members : GroupLook

-- the ErrorID of a refusal
abbrev pub number_of : Reason → ℕ
number_of NotPowered = 1
number_of InErrorStop = 2
number_of InStopping = 3
number_of InHoming = 4
number_of BadVelocity = 6
number_of BadAcceleration = 7
number_of BadDeceleration = 8
number_of JerkRefused = 9
number_of TargetOutside = 10
number_of QueueFull = 11
number_of NotAtRest = 12
number_of GroupStateRefuses = 16
number_of BlendRefused = 17
number_of CircularRefused = 18

-- the limits of the axes
abbrev pub limits_in : GroupLook → List Limits
limits_in members = take members.count members.limits

-- the states of the axes
abbrev pub states_in : GroupLook → List AxisState
states_in members = take members.count members.states

-- whether a rate of a group's command is outside its range
abbrev pub is_no_rate : ℤ → Bool
is_no_rate rate = is_outside (pos 1) rate (pos MOST_STEP)

-- whether a target of the first n axes is outside the limits of its axis
unfoldable pub any_outside : ℕ → List Limits → List ℤ → Bool
any_outside zero limits targets = false
any_outside (suc n) limits targets =
    any_outside n limits targets
    || is_outside (limits_at limits n).lo (coordinate_of targets n) (limits_at limits n).hi

-- whether a mode is a blending one. PLCopen Motion Control Part 1, BufferMode
abbrev pub is_blending : BufferMode → Bool
is_blending mode.Aborting = false
is_blending mode.Buffered = false
is_blending m = true

-- whether a reason to refuse a command holds
unfoldable pub holds : Reason → Asked → Bool
holds NotPowered q = list_any axis.is_disabled (states_in q.members)
holds InErrorStop q = list_any axis.is_error_stop (states_in q.members)
holds InStopping q = list_any axis.is_stopping (states_in q.members)
holds InHoming q = list_any axis.is_homing (states_in q.members)
holds BadVelocity q = is_no_rate q.wanted.rates.v
holds BadAcceleration q = is_no_rate q.wanted.rates.a
holds BadDeceleration q = is_no_rate q.wanted.rates.d
holds JerkRefused q = not (int_eq q.jerk (pos 0))
holds TargetOutside q = any_outside q.members.count (limits_in q.members) q.wanted.targets
holds QueueFull q = not (is_aborting q.wanted.mode) && is_some q.group.active && (q.waiting == 8)
holds NotAtRest q = list_any is_moved (states_in q.members)
holds GroupStateRefuses q = not (may_come q.wanted.kind q.group.state q.moves)
holds BlendRefused q = is_blending q.wanted.mode
holds CircularRefused q = true

-- the first of some reasons that holds
abbrev pub first_holding : Asked → List Reason → Option Reason
first_holding q [] = None
first_holding q (reason ∷ reasons) = if holds reason q then Some reason else first_holding q reasons

-- why a command is refused: the first reason of its kind that holds
unfoldable pub refusal_of : Asked → Option Reason
refusal_of q = first_holding q (tests_of q.wanted.kind)
