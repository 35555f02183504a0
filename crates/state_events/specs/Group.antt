-- By which events of its diagram a group changes its state, in a call and in a cycle (PLCopen
-- Motion Control Part 4; their order within a cycle is this project's profile).
use Rattle.std.specs.Prelude.{◌≡◌, ℤ, Bool, true, false, ◌&&◌, not, if◌then◌else◌, Option, Some, None, is_some, List, [], ◌∷◌, ◌++◌}
use Rattle.std.specs.List.{list_any}
use Rattle.command_pool.specs.declared.ending.Finish.{Finish}
use Rattle.command_pool.specs.declared.wanted.Wanted.{Wanted}
use Rattle.axis_state.specs.GroupDiagram.{IsFrom, next_of}
use Rattle.axis_state.specs.declared.group_diagram.GroupEvent.{GroupEvent}
use Rattle.axis_state.specs.declared.group_diagram.GroupEvent.TheVariants as event
use Rattle.plc_types.specs.declared.group.GroupState.{GroupState}
use Rattle.plc_types.specs.declared.group.GroupState.TheVariants as state
use Rattle.plc_types.specs.declared.kind.BlockKind.{BlockKind}
use Rattle.plc_types.specs.declared.kind.BlockKind.TheVariants as kind
use Rattle.group_core.specs.Calls.{asked_in, is_line_active}
use Rattle.group_core.specs.Refusals.{refusal_of, states_in}
use Rattle.group_core.specs.declared.reason.Reason.{Reason}
use Rattle.group_core.specs.Cores.{Core}
use Rattle.group_core.specs.blocks.Reset.{may_reset}
use Rattle.state_events.specs.Axis.{active_by}
use Rattle.group_core.specs.Cycles.{path_taken}
use Rattle.buffer_modes.specs.Fates.{Fate}
use Rattle.group_core.specs.Fates.{cycle_fate, is_failing}
use Rattle.group_core.specs.Kinds.{event_of}
use Rattle.group_core.specs.States.{is_moved, is_stopping, may_fail}
use Rattle.group_core.specs.Tracks.{OnPath, is_moving}
use Rattle.buffer_modes.specs.Owners.{is_released}
use Rattle.group_core.specs.declared.group.Group.{Group}
use Rattle.group_core.specs.declared.look.GroupLook.{GroupLook}

-- the events lead a group from a state to another, each from a state of its row
abbrev pub Lead : GroupState → List GroupEvent → GroupState → Type 0
Lead s [] t = t ≡ s
Lead s (e ∷ es) t = IsFrom s e × Lead (next_of e) es t

-- the state to which events lead, one after another
abbrev pub state_by : GroupState → List GroupEvent → GroupState
state_by s [] = s
state_by s (e ∷ es) = state_by (next_of e) es

-- an event where this holds
abbrev pub event_where : Bool → GroupEvent → List GroupEvent
event_where holds e = if holds then e ∷ [] else []

-- the last line or halt is done
abbrev pub last_events : GroupState → List GroupEvent
last_events state.GroupMoving = event.LastDone ∷ []
last_events s = []

-- an ended command gives way to the one that begins, or to none
abbrev pub giving_events : Option Wanted → GroupState → List GroupEvent
giving_events (Some w) s = event_of w.kind ∷ []
giving_events None s = last_events s

-- how the active command ends, if it does
abbrev pub ending_events : Option Finish → Option Wanted → GroupState → List GroupEvent
ending_events None begins s = []
ending_events (Some f) begins s = giving_events begins s

-- then GroupStopping is left, where no command is active, nothing moves and nobody holds it
abbrev pub release_events : Bool → GroupState → Core → Fate → Option OnPath → List GroupEvent
release_events held s c f path =
    event_where (is_stopping s && not (is_some (active_by f c.group.active))
    && not (is_moving path) && is_released c.group.hold held) event.StopReleased

-- both, where no error of a member stops the group
abbrev pub going_events : Bool → Fate → Core → Option OnPath → List GroupEvent
going_events held f c path =
    let ends = ending_events f.ends f.begins c.group.state in
    ends ++ release_events held (state_by c.group.state ends) c f path

-- the events of a group's step: an error of a member, or what becomes of its command
unfoldable pub step_events : GroupLook → Core → List GroupEvent
step_events members c =
    if is_failing members c then event.MemberError ∷ []
    else going_events members.stop_held (cycle_fate members c) c (path_taken members c)

-- a GroupReset leads from GroupErrorStop, by whether an axis is not in Standstill. MC_GroupReset
abbrev pub reset_row : Bool → GroupState → List GroupEvent
reset_row false state.GroupErrorStop = event.ResetAllStandstill ∷ []
reset_row true state.GroupErrorStop = event.ResetElse ∷ []
reset_row moved s = []

-- after the cycles of its axes a pending GroupReset, which is done where it may be
abbrev pub reset_events : GroupLook → Bool → Group → List GroupEvent
reset_events members on_path g =
    if is_some g.reset && may_reset on_path g
    then reset_row (list_any is_moved (states_in members)) g.state
    else []

-- a Power with Enable false on a member. MC_Power
abbrev pub power_off_events : GroupState → List GroupEvent
power_off_events s = event_where (may_fail s) event.MemberError

-- a command that is not refused: GroupEnable and GroupDisable by their events, a halt, a stop and a
-- line that is active in its call by that of their kind
abbrev pub admitted_events : BlockKind → Wanted → Core → List GroupEvent
admitted_events kind.GroupEnable w c = event.Enable ∷ []
admitted_events kind.GroupDisable w c = event.Disable ∷ []
admitted_events kind.GroupStop w c = event.StopAdmitted ∷ []
admitted_events kind.GroupHalt w c = event.MoveAdmitted ∷ []
admitted_events kind.MoveLinearAbsolute w c = event_where (is_line_active w c) event.MoveAdmitted
admitted_events k w c = []

-- a refused command brings none
abbrev pub asked_events : Option Reason → Wanted → Core → List GroupEvent
asked_events None w c = admitted_events w.kind w c
asked_events (Some reason) w c = []

-- the events of a command that is asked
unfoldable pub command_events : Wanted → ℤ → GroupLook → Core → List GroupEvent
command_events w jerk members c = asked_events (refusal_of (asked_in c w jerk members)) w c
