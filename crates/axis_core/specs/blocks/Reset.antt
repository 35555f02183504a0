-- MC_Reset: it is pending until a cycle in which it may be done (PLCopen Motion Control Part 1).
use Rattle.std.specs.Prelude.{Bool, ◌&&◌, ◌||◌, not, if◌then◌else◌, true, false, Option, Some, None, List, []}
use Rattle.axis_state.specs.Diagram.{next_of}
use Rattle.plc_types.specs.declared.axis_state.AxisState.{AxisState}
use Rattle.plc_types.specs.declared.axis_state.AxisState.TheVariants as state
use Rattle.axis_state.specs.declared.diagram.AxisEvent.TheVariants.{ResetDriven, ResetNotDriven}
use Rattle.plc_types.specs.declared.drive.DriveIn.{DriveIn}
use Rattle.command_pool.specs.Waiting.{told_to}
use Rattle.command_pool.specs.declared.ending.Finish.TheVariants as finish
use Rattle.command_pool.specs.declared.notes.Note.{Note}
use Rattle.command_pool.specs.declared.wanted.Wanted.{Wanted}
use Rattle.axis_core.specs.Drives.{has_fault}
use Rattle.axis_state.specs.States.{is_error_stop}
use Rattle.axis_core.specs.blocks.Halts.{is_at_rest}
use Rattle.axis_core.specs.declared.axis.Axis.{Axis}
use Rattle.buffer_modes.specs.declared.reset.PendingReset.{PendingReset}

-- a Reset is pending
abbrev pub reset_pending : Wanted → Axis → Axis
reset_pending w a = record a { reset = Some (record { owner = w.owner }) }

-- whether a pending Reset is done: outside ErrorStop at once, else where the drive has no fault and
-- the axis is not driven or at rest. The conditions are this project's profile
abbrev pub may_reset : DriveIn → Axis → Bool
may_reset input a =
    not (is_error_stop a.state) || (not (has_fault input) && (not a.driven || is_at_rest a))

-- the state after a Reset: outside ErrorStop it stays
abbrev pub state_after_reset : Bool → AxisState → AxisState
state_after_reset true state.ErrorStop = next_of ResetDriven
state_after_reset false state.ErrorStop = next_of ResetNotDriven
state_after_reset driven s = s

-- the axis after a Reset
abbrev pub after_reset : Axis → Axis
after_reset a = record a { state = state_after_reset a.driven a.state; error = 0; reset = None }

-- the axis whose pending Reset is done where it may be, and what is reported of it
abbrev pub reset_axis : Option PendingReset → DriveIn → Axis → Axis
reset_axis None input a = a
reset_axis (Some p) input a = if may_reset input a then after_reset a else a

-- what is reported of a pending Reset that is done
abbrev pub reset_notes : Option PendingReset → DriveIn → Axis → List Note
reset_notes None input a = []
reset_notes (Some p) input a = if may_reset input a then told_to p.owner finish.Done else []
