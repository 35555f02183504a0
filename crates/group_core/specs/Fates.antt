-- What becomes of the active command of a group in a call and in a cycle (PLCopen Motion Control
-- Part 4; BufferMode of Part 1).
use Rattle.std.specs.Prelude.{Bool, false, not, ◌&&◌, nat_eq, if◌then◌else◌, ℤ, Option, Some, None, List, slice_get}
use Rattle.buffer_modes.specs.Fates.{Fate, goes_on, replaced}
use Rattle.buffer_modes.specs.Queue.{is_active_at_once}
use Rattle.command_pool.specs.declared.ending.Finish.{Finish}
use Rattle.command_pool.specs.declared.ending.Finish.TheVariants as finish
use Rattle.plc_types.specs.declared.kind.BlockKind.{BlockKind}
use Rattle.plc_types.specs.declared.kind.BlockKind.TheVariants as kind
use Rattle.command_pool.specs.declared.wanted.Wanted.{Wanted}
use Rattle.group_core.specs.Calls.{asked_in, queue_in, waits_for_rest}
use Rattle.group_core.specs.Cores.{Core}
use Rattle.group_core.specs.Cycles.{ending_of}
use Rattle.group_core.specs.Refusals.{refusal_of}
use Rattle.group_core.specs.States.{may_fail}
use Rattle.group_core.specs.blocks.Line.{braking_for}
use Rattle.group_core.specs.declared.look.GroupLook.{GroupLook}
use Rattle.group_core.specs.declared.reason.Reason.{Reason}

-- a line brakes a path that moves, is active at once, or waits
abbrev pub line_fate : Wanted → Core → Fate
line_fate w c =
    if waits_for_rest w c.path
    then replaced finish.Aborted c.group.active (braking_for c.group.active)
    else (if is_active_at_once (queue_in c) w
    then replaced finish.Aborted c.group.active (Some w)
    else goes_on)

-- a command that is not refused
abbrev pub admitted_fate : BlockKind → Wanted → Core → Fate
admitted_fate kind.GroupStop w c = replaced finish.Aborted c.group.active (Some w)
admitted_fate kind.GroupHalt w c = replaced finish.Aborted c.group.active (Some w)
admitted_fate kind.MoveLinearAbsolute w c = line_fate w c
admitted_fate k w c = goes_on

-- a command that is asked; a refused one does nothing
abbrev pub asked_fate : Option Reason → Wanted → Core → Fate
asked_fate None w c = admitted_fate w.kind w c
asked_fate (Some reason) w c = goes_on

-- what becomes of the active command by a command that is asked
unfoldable pub command_fate : Wanted → ℤ → GroupLook → Core → Fate
command_fate w jerk members c = asked_fate (refusal_of (asked_in c w jerk members)) w c

-- a Power with Enable false on a member. MC_Power
unfoldable pub power_off_fate : Core → Fate
power_off_fate c =
    if may_fail c.group.state then replaced (finish.Error 102) c.group.active None else goes_on

-- the active command goes on, or ends so and the first that waits begins
abbrev pub ending_fate : Option Finish → List Wanted → Fate
ending_fate None ws = goes_on
ending_fate (Some f) ws =
    record { ends = Some f; begins = slice_get ws 0; blends = false }

-- whether an error of a member stops the group in a cycle
abbrev pub is_failing : GroupLook → Core → Bool
is_failing members c = not (nat_eq members.error 0) && may_fail c.group.state

-- in a cycle: an error of a member ends the active command, else it takes its step
unfoldable pub cycle_fate : GroupLook → Core → Fate
cycle_fate members c =
    if is_failing members c then replaced (finish.Error members.error) c.group.active None
    else ending_fate (ending_of c.group c.path) c.waiting
