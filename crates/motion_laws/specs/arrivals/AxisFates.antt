-- What becomes of the active command of an axis in each entry of a history (PLCopen Motion Control
-- Part 1, BufferMode).
use Rattle.std.specs.Prelude.{ℕ, slice_get}
use Rattle.buffer_modes.specs.Fates.{Fate, goes_on}
use Rattle.axis_core.specs.Cores.{Core}
use Rattle.axis_core.specs.Fates.{command_fate, cycle_fate, power_fate}
use Rattle.motion_history.specs.Entries.{Entry, call, cycle, end_of}
use Rattle.motion_history.specs.Setup.{Setup}
use Rattle.motion_kernel.specs.Histories.{inputs_of}
use Rattle.motion_kernel.specs.Machine.{Machine, axis_core_at}
use Rattle.motion_kernel.specs.cycles.Cycles.{look_of_axis}
use Rattle.motion_laws.specs.calls.Axis as on_axis
use Rattle.motion_laws.specs.calls.Axis.{AxisCall, by_call}

-- in a call, by what that asks of the axis
abbrev pub call_fate : AxisCall → Core → Fate
call_fate (on_axis.asked q) c = command_fate q c
call_fate (on_axis.power enable) c = power_fate enable c
call_fate (on_axis.led on) c = goes_on
call_fate on_axis.rests c = goes_on

-- what becomes of the active command of an axis in an entry
abbrev pub axis_fate : Setup → Machine → Entry → ℕ → Fate
axis_fate s m (call k i reply) n = by_call call_fate s (slice_get s.blocks k) k i m n
axis_fate s m (cycle c rows grows) n =
    cycle_fate (look_of_axis s m (inputs_of rows) n) (axis_core_at m n)
axis_fate s m (end_of task) n = goes_on
