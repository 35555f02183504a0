-- By which events of its diagram each group changes its state in an entry of a history (PLCopen
-- Motion Control Part 4).
use Rattle.std.specs.Prelude.{ℕ, is_some, List, [], ◌++◌, length, slice_get}
use Rattle.plc_types.specs.declared.drive.DriveIn.{DriveIn}
use Rattle.group_core.specs.Cores.{Core}
use Rattle.group_core.specs.declared.group.Group.{Group}
use Rattle.group_core.specs.declared.look.GroupLook.{GroupLook}
use Rattle.axis_state.specs.declared.group_diagram.GroupEvent.{GroupEvent}
use Rattle.motion_history.specs.Entries.{Entry, call, cycle, end_of}
use Rattle.motion_history.specs.Setup.{Setup}
use Rattle.motion_kernel.specs.Histories.{inputs_of}
use Rattle.motion_kernel.specs.Machine.{Machine, group_at, group_core_at}
use Rattle.motion_kernel.specs.cycles.AxisCycles.{axes_cycled}
use Rattle.motion_kernel.specs.cycles.Cycles.{around_in, look_of_group, stepped_in}
use Rattle.motion_kernel.specs.cycles.GroupResets.{groups_reset}
use Rattle.motion_kernel.specs.looks.GroupLooks.{group_look}
use Rattle.motion_laws.specs.calls.Group as on_group
use Rattle.motion_laws.specs.calls.Group.{GroupCall, by_call}
use Rattle.state_events.specs.Group.{command_events, power_off_events, reset_events, step_events}

-- the events of a call, by what that asks of the group
abbrev pub call_events : GroupCall → Core → List GroupEvent
call_events (on_group.asked w jerk members) c = command_events w jerk members c
call_events on_group.power_off c = power_off_events c.group.state
call_events on_group.rests c = []

-- a group after its step in a cycle, and after the cycles of the axes
abbrev pub stepped_group : Setup → Machine → List DriveIn → ℕ → Group
stepped_group s m ins j = (group_at (stepped_in s ins m).machine j).group

abbrev pub moved_in : Setup → Machine → List DriveIn → Machine
moved_in s m ins =
    let stepped = (stepped_in s ins m).machine in
    (axes_cycled s (length stepped.axes) (around_in s ins m) stepped).machine

-- what a group's pending GroupReset looks at, after those of the groups before it
abbrev pub look_of_reset : Setup → Machine → List DriveIn → ℕ → GroupLook
look_of_reset s m ins j = group_look s (groups_reset s j (moved_in s m ins)).machine j 0

-- its events in a cycle: those of its step, and after the cycles of its axes a GroupReset's
abbrev pub events_in_cycle : Setup → Machine → List DriveIn → ℕ → List GroupEvent
events_in_cycle s m ins j =
    step_events (look_of_group s m ins j) (group_core_at m j)
    ++ reset_events (look_of_reset s m ins j) (is_some (group_at (moved_in s m ins) j).path)
    (stepped_group s m ins j)

-- the events of a group in an entry
abbrev pub group_events : Setup → Machine → Entry → ℕ → List GroupEvent
group_events s m (call k i reply) j = by_call call_events s (slice_get s.blocks k) k i m j
group_events s m (cycle c rows grows) j =
    events_in_cycle s m (inputs_of rows) j
group_events s m (end_of task) j = []
