-- What becomes of the active command of a group in each entry of a history (PLCopen Motion Control
-- Part 4; BufferMode of Part 1).
use Rattle.std.specs.Prelude.{ℕ, Option, slice_get}
use Rattle.group_core.specs.Cores.{Core}
use Rattle.group_core.specs.Cycles.{path_taken}
use Rattle.buffer_modes.specs.Fates.{Fate, goes_on}
use Rattle.group_core.specs.Fates.{command_fate, cycle_fate, power_off_fate}
use Rattle.group_core.specs.Tracks.{OnPath}
use Rattle.motion_history.specs.Entries.{Entry, call, cycle, end_of}
use Rattle.motion_history.specs.Setup.{Setup}
use Rattle.motion_kernel.specs.Histories.{after, inputs_of}
use Rattle.motion_kernel.specs.Machine.{Machine, group_at, group_core_at}
use Rattle.motion_kernel.specs.cycles.Cycles.{look_of_group}
use Rattle.motion_laws.specs.calls.Group as on_group
use Rattle.motion_laws.specs.calls.Group.{GroupCall, by_call}

-- in a call, by what that asks of the group
abbrev pub call_fate : GroupCall → Core → Fate
call_fate (on_group.asked w jerk members) c = command_fate w jerk members c
call_fate on_group.power_off c = power_off_fate c
call_fate on_group.rests c = goes_on

-- what becomes of the active command of a group in an entry
abbrev pub group_fate : Setup → Machine → Entry → ℕ → Fate
group_fate s m (call k i reply) j = by_call call_fate s (slice_get s.blocks k) k i m j
group_fate s m (cycle c rows grows) j =
    cycle_fate (look_of_group s m (inputs_of rows) j) (group_core_at m j)
group_fate s m (end_of task) j = goes_on

-- the path of a group after an entry; in a cycle the one on which its axes take their places
abbrev pub path_in : Setup → Machine → Entry → ℕ → Option OnPath
path_in s m (call k i reply) j = (group_at (after s m (call k i reply)) j).path
path_in s m (cycle c rows grows) j =
    path_taken (look_of_group s m (inputs_of rows) j) (group_core_at m j)
path_in s m (end_of task) j = (group_at m j).path
