-- What each entry of a history makes of the commands of an axis or a group (PLCopen Motion Control
-- Part 1 and Part 4).
use Rattle.std.specs.Prelude.{ℕ, List, [], ◌++◌, slice_get}
use Rattle.axis_core.specs.Cores as axes
use Rattle.buffer_modes.specs.Fates.{Fate}
use Rattle.plc_types.specs.declared.drive.DriveIn.{DriveIn}
use Rattle.command_changes.specs.Axis as axis
use Rattle.command_changes.specs.Group as group
use Rattle.command_core.specs.Changes.{Change, all_changed}
use Rattle.command_core.specs.CommandState.{CommandState}
use Rattle.command_core.specs.Fates.{fate_in}
use Rattle.command_pool.specs.declared.notes.Note.{Note}
use Rattle.plc_types.specs.declared.inputs.Inputs.{Inputs}
use Rattle.group_core.specs.Cores as groups
use Rattle.motion_history.specs.Entries.{Entry, call, cycle, end_of}
use Rattle.motion_history.specs.Setup.{Setup}
use Rattle.motion_kernel.specs.Histories.{inputs_of}
use Rattle.motion_kernel.specs.Machine.{Machine, axis_core_at, group_core_at}
use Rattle.motion_kernel.specs.owners.Blocks.{command_state_at}
use Rattle.motion_kernel.specs.cycles.Cycles.{look_of_axis, look_of_group}
use Rattle.motion_laws.specs.calls.Axis as on_axis
use Rattle.motion_laws.specs.calls.Axis.{AxisCall}
use Rattle.motion_laws.specs.calls.Group as on_group
use Rattle.motion_laws.specs.calls.Group.{GroupCall}
use Rattle.motion_kernel.specs.calls.Requests.{Request, machine_asked, request_of}
use Rattle.motion_laws.specs.entries.GroupEvents.{moved_in}
use Rattle.motion_kernel.specs.owners.Objects.{a_group, an_axis, Object}

-- what happens to the commands of an axis or a group: those that are there, and how they change
pub record Effect : Type 0 where
  pub commands : CommandState
  pub changes : List Change

-- whom it notifies of the end of a command, and how that ended
abbrev pub notes_by : Effect → List Note
notes_by x = (all_changed x.changes x.commands).notes

-- what becomes of the active command
abbrev pub fate_by : Effect → Fate
fate_by x = fate_in x.changes x.commands

-- how what a call asks of an axis changes its commands
abbrev pub axis_changes : AxisCall → axes.Core → List Change
axis_changes (on_axis.asked q) c = axis.command_changes q c
axis_changes (on_axis.power enable) c = axis.power_changes enable c
axis_changes (on_axis.led on) c = []
axis_changes on_axis.rests c = []

-- and what it asks of a group
abbrev pub group_changes : GroupCall → groups.Core → List Change
group_changes (on_group.asked w jerk members) c = group.command_changes w jerk members c
group_changes on_group.power_off c = group.power_off_changes c
group_changes on_group.rests c = []

-- how what a call asks for changes the commands of an axis or a group
abbrev pub changes_by_request : Setup → Request → ℕ → Inputs → Machine → Object → List Change
changes_by_request s r k i m (an_axis n) =
    axis_changes (on_axis.by_request s r k i m n) (axis_core_at m n)
changes_by_request s r k i m (a_group j) =
    group_changes (on_group.by_request s r k i m j) (group_core_at m j)

-- a call: what it asks for, of the commands of the machine that is asked
abbrev pub effect_by_request : Setup → Request → ℕ → Inputs → Machine → Object → Effect
effect_by_request s r k i m o =
    let x = machine_asked r k i m in
    record { commands = command_state_at x o; changes = changes_by_request s r k i x o }

-- a cycle: an axis goes through it, and a group takes its step, and after the cycles of the axes a
-- GroupReset is done
abbrev pub changes_in_cycle : Setup → Machine → List DriveIn → Object → List Change
changes_in_cycle s m ins (an_axis n) =
    axis.cycle_changes (look_of_axis s m ins n) (axis_core_at m n)
changes_in_cycle s m ins (a_group j) =
    group.cycle_changes (look_of_group s m ins j) (group_core_at m j)
    ++ group.reset_changes (group_core_at (moved_in s m ins) j)

-- what happens to the commands of an axis or a group in an entry
abbrev pub effect_in : Setup → Machine → Entry → Object → Effect
effect_in s m (call k i reply) o =
    effect_by_request s (request_of (slice_get s.blocks k) k i m) k i m o
effect_in s m (cycle c rows grows) o =
    record { commands = command_state_at m o; changes = changes_in_cycle s m (inputs_of rows) o }
effect_in s m (end_of task) o = record { commands = command_state_at m o; changes = [] }
