-- Which changes a call and a cycle make of the commands of an axis, by kind (PLCopen Motion Control
-- Part 1).
use Rattle.std.specs.Prelude.{Bool, true, false, ◌&&◌, nat_eq, if◌then◌else◌, ℤ, ◌+ℤ◌, Option, Some, None, List, [], ◌∷◌, ◌++◌, slice_get}
use Rattle.axis_core.specs.declared.profile.Goal.{Goal}
use Rattle.axis_core.specs.declared.profile.Goal.TheVariants.{FromBefore}
use Rattle.axis_core.specs.Profiles.{profile_of}
use Rattle.axis_core.specs.Calls.{queue_in}
use Rattle.axis_core.specs.Cores.{Core}
use Rattle.axis_core.specs.Cycles.{advance_in_cycle, core_after_advance, core_after_answer, core_after_step}
use Rattle.axis_core.specs.Drives.{answer_error_of, is_driven}
use Rattle.axis_core.specs.Refusals.{Asked, refusal_of}
use Rattle.axis_core.specs.blocks.Gear.{velocity_command}
use Rattle.axis_core.specs.blocks.Halts.{leaves_stopping}
use Rattle.axis_core.specs.blocks.Moves.{known_target_of, position_of, with_target}
use Rattle.axis_core.specs.blocks.Reset.{may_reset}
use Rattle.axis_core.specs.declared.axis.Axis.{Axis}
use Rattle.axis_core.specs.declared.look.AxisLook.{AxisLook}
use Rattle.axis_core.specs.declared.profile.Entry.{Entry}
use Rattle.axis_core.specs.declared.profile.Entry.TheVariants.{Joins, Leaves, Awaits}
use Rattle.axis_core.specs.declared.reason.Reason.{Reason}
use Rattle.axis_state.specs.States.{is_error_stop}
use Rattle.buffer_modes.specs.Queue.{is_active_at_once}
use Rattle.buffer_modes.specs.Resets.{reset_owner}
use Rattle.buffer_modes.specs.declared.reset.PendingReset.{PendingReset}
use Rattle.plc_types.specs.declared.drive.DriveIn.{DriveIn}
use Rattle.command_core.specs.Changes.{Change, awaits, ends, holds, joins, replaced, resets}
use Rattle.command_core.specs.CommandState.{CommandState}
use Rattle.command_pool.specs.Waiting.{last_of}
use Rattle.command_pool.specs.declared.ending.Finish.{Finish}
use Rattle.command_pool.specs.declared.ending.Finish.TheVariants as finish
use Rattle.plc_types.specs.declared.kind.BlockKind.{BlockKind}
use Rattle.plc_types.specs.declared.kind.BlockKind.TheVariants as kind
use Rattle.command_pool.specs.declared.wanted.Wanted.{Wanted}
use Rattle.motion_numbers.specs.Ranges.{is_outside}
use Rattle.command_changes.specs.Failing.{failing}

-- the commands of an axis
abbrev pub command_state_of : Core → CommandState
command_state_of c = record {
  active = c.axis.active;
  waiting = c.waiting;
  reset = reset_owner c.axis.reset;
  hold = c.axis.hold;
  notes = c.notes;
}

-- whether a command of this kind holds Stopping. MC_Stop
abbrev pub is_stop : BlockKind → Bool
is_stop kind.Stop = true
is_stop k = false

-- a command joins the others, and may be active at once. BufferMode
abbrev pub joined_changes : Wanted → Core → List Change
joined_changes w c =
    if is_active_at_once (queue_in c) w then joins w ∷ holds (is_stop w.kind) ∷ []
    else joins w ∷ []

-- the gear or the cam is left, and a velocity goes on. MC_GearOut and MC_CamOut
abbrev pub left_changes : Wanted → Core → List Change
left_changes w c =
    replaced finish.Aborted (Some (velocity_command w c.axis)) [] ∷ holds false ∷ []

-- a command that is not refused, with its target as far as it is known, by how it enters
abbrev pub entered_changes : Entry → Wanted → Core → List Change
entered_changes Joins w c = joined_changes w c
entered_changes Leaves w c = left_changes w c
entered_changes Awaits w c = awaits w.owner ∷ []

-- the same of a kind
abbrev pub admitted_changes : BlockKind → Wanted → Core → List Change
admitted_changes k w c = entered_changes (profile_of k).entry w c

-- a command that is asked; a refused one changes nothing
abbrev pub asked_changes : Option Reason → Wanted → Core → List Change
asked_changes None w c =
    admitted_changes w.kind (with_target (known_target_of c.axis (last_of c.waiting) w) w) c
asked_changes (Some reason) w c = []

unfoldable pub command_changes : Asked → Core → List Change
command_changes q c = asked_changes (refusal_of q) q.wanted c

-- a Power with Enable false aborts all, but for an axis in ErrorStop. MC_Power
unfoldable pub power_changes : Bool → Core → List Change
power_changes true c = []
power_changes false c =
    if is_error_stop c.axis.state then [] else replaced finish.Aborted None [] ∷ holds false ∷ []

-- the first that waits takes over: a move whose target is fixed there fails where that lies outside
-- the limits. MC_MoveRelative, MC_MoveAdditive; the error is this project's profile
abbrev pub relative_changes : Finish → Wanted → ℤ → Axis → List Change
relative_changes f w target a =
    if is_outside a.limits.lo target a.limits.hi then ends f None ∷ failing 106
    else ends f (Some target) ∷ holds (is_stop w.kind) ∷ []

-- by where it has its target from
abbrev pub taking_changes_in : Goal → Option ℤ → Finish → Wanted → Axis → List Change
taking_changes_in (FromBefore base) None f w a =
    relative_changes f w (a.setpoint +ℤ position_of w) a
taking_changes_in g target f w a = ends f None ∷ holds (is_stop w.kind) ∷ []

-- the same of a kind
abbrev pub taking_changes : BlockKind → Option ℤ → Finish → Wanted → Axis → List Change
taking_changes k target f w a = taking_changes_in (profile_of k).goal target f w a

-- the active command ends so; where none waits, none takes over
abbrev pub ended_changes : Finish → List Wanted → Axis → List Change
ended_changes f [] a = ends f None ∷ []
ended_changes f (w ∷ ws) a = taking_changes w.kind w.target f w a

-- it goes on, ends so, or is ended by an error
abbrev pub ending_changes : Option Finish → List Wanted → Axis → List Change
ending_changes None ws a = []
ending_changes (Some (finish.Error n)) ws a = failing n
ending_changes (Some f) ws a = ended_changes f ws a

-- nobody holds an axis that leaves Stopping
abbrev pub release_changes : AxisLook → Axis → List Change
release_changes look a = if leaves_stopping look a then holds false ∷ [] else []

-- an error of the drive's answer
abbrev pub answer_changes : DriveIn → Core → List Change
answer_changes input c =
    if nat_eq (answer_error_of c.axis input) 0 then []
    else failing (answer_error_of c.axis input)

-- the active command takes its step, and Stopping may be left
abbrev pub advance_changes : AxisLook → Core → List Change
advance_changes look c =
    let step = advance_in_cycle (slice_get c.waiting 0) look c.axis in
    ending_changes step.ending c.waiting step.axis
    ++ release_changes look (core_after_advance look c).axis

-- where a driven spell goes on
abbrev pub step_changes : AxisLook → Bool → Core → List Change
step_changes look driven c = if driven && c.axis.driven then advance_changes look c else []

-- a pending Reset is done where it may be. MC_Reset
abbrev pub reset_changes : Option PendingReset → DriveIn → Axis → List Change
reset_changes None input a = []
reset_changes (Some p) input a = if may_reset input a then resets ∷ [] else []

-- in a cycle: an error of the drive's answer, the step of the active command, and a Reset
unfoldable pub cycle_changes : AxisLook → Core → List Change
cycle_changes look c =
    let driven = is_driven c.axis look.input in
    let answered = core_after_answer look.input c in
    let stepped = core_after_step look driven answered in
    answer_changes look.input c
    ++ (step_changes look driven answered
    ++ reset_changes stepped.axis.reset look.input stepped.axis)
