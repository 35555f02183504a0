-- MC_GroupReset: it is pending until a cycle in which it may be done (PLCopen Part 4).
use Rattle.std.specs.Prelude.{Bool, true, false, ◌&&◌, not, if◌then◌else◌, Option, Some, None, List, []}
use Rattle.std.specs.List.{list_any}
use Rattle.plc_types.specs.declared.axis_state.AxisState.{AxisState}
use Rattle.command_pool.specs.Waiting.{told_to}
use Rattle.command_pool.specs.declared.ending.Finish.TheVariants as finish
use Rattle.command_pool.specs.declared.notes.Note.{Note}
use Rattle.command_pool.specs.declared.wanted.Wanted.{Wanted}
use Rattle.axis_state.specs.GroupDiagram.{next_of}
use Rattle.axis_state.specs.declared.group_diagram.GroupEvent.TheVariants.{ResetAllStandstill, ResetElse}
use Rattle.plc_types.specs.declared.group.GroupState.{GroupState}
use Rattle.plc_types.specs.declared.group.GroupState.TheVariants as state
use Rattle.group_core.specs.States.{is_error_stop, is_moved}
use Rattle.group_core.specs.declared.group.Group.{Group}
use Rattle.buffer_modes.specs.declared.reset.PendingReset.{PendingReset}

-- a GroupReset is pending
abbrev pub reset_pending : Wanted → Group → Group
reset_pending w g = record g { reset = Some (record { owner = w.owner }) }

-- whether a pending GroupReset is done: in GroupErrorStop once there is no path, else at once
abbrev pub may_reset : Bool → Group → Bool
may_reset on_path g = not (is_error_stop g.state && on_path)

-- the state after a GroupReset: from GroupErrorStop, by whether an axis is not in Standstill
abbrev pub reset_from : Bool → GroupState → GroupState
reset_from false state.GroupErrorStop = next_of ResetAllStandstill
reset_from true state.GroupErrorStop = next_of ResetElse
reset_from moved s = s

-- the group after a GroupReset, with its axes in these states
abbrev pub after_reset : List AxisState → Group → Group
after_reset axes g =
    record g { state = reset_from (list_any is_moved axes) g.state; error = 0; reset = None }

-- the group whose pending GroupReset is done where it may be, and what is reported of it
abbrev pub reset_by : Option PendingReset → List AxisState → Bool → Group → Group
reset_by None axes on_path g = g
reset_by (Some r) axes on_path g = if may_reset on_path g then after_reset axes g else g

-- what is reported of a pending GroupReset that is done
abbrev pub reset_notes : Option PendingReset → Bool → Group → List Note
reset_notes None on_path g = []
reset_notes (Some r) on_path g = if may_reset on_path g then told_to r.owner finish.Done else []
