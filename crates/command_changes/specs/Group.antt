-- Which changes a call and a cycle make of the commands of a group, by kind (PLCopen Motion Control
-- Part 4).
use Rattle.std.specs.Prelude.{Bool, true, false, not, ◌&&◌, ℕ, nat_eq, if◌then◌else◌, ℤ, Option, Some, None, is_some, List, [], ◌∷◌, ◌++◌}
use Rattle.buffer_modes.specs.Queue.{is_active_at_once}
use Rattle.buffer_modes.specs.Resets.{reset_owner}
use Rattle.buffer_modes.specs.declared.reset.PendingReset.{PendingReset}
use Rattle.command_core.specs.Changes.{Change, awaits, ends, holds, joins, replaced, resets}
use Rattle.command_core.specs.CommandState.{CommandState}
use Rattle.command_pool.specs.declared.ending.Finish.{Finish}
use Rattle.command_pool.specs.declared.ending.Finish.TheVariants as finish
use Rattle.plc_types.specs.declared.kind.BlockKind.{BlockKind}
use Rattle.plc_types.specs.declared.kind.BlockKind.TheVariants as kind
use Rattle.command_pool.specs.declared.wanted.Wanted.{Wanted}
use Rattle.group_core.specs.Calls.{asked_in, queue_in, waits_for_rest}
use Rattle.group_core.specs.Cores.{Core}
use Rattle.group_core.specs.Cycles.{answered, ending_of, moved}
use Rattle.group_core.specs.Refusals.{refusal_of}
use Rattle.group_core.specs.States.{may_fail}
use Rattle.group_core.specs.Tracks.{OnPath}
use Rattle.group_core.specs.blocks.Halts.{leaves_stopping}
use Rattle.group_core.specs.blocks.Line.{braking_for}
use Rattle.group_core.specs.blocks.Reset.{may_reset}
use Rattle.group_core.specs.declared.group.Group.{Group}
use Rattle.group_core.specs.declared.look.GroupLook.{GroupLook}
use Rattle.group_core.specs.declared.reason.Reason.{Reason}
use Rattle.command_changes.specs.Failing.{failing}

-- the commands of a group
abbrev pub command_state_of : Core → CommandState
command_state_of c = record {
  active = c.group.active;
  waiting = c.waiting;
  reset = reset_owner c.group.reset;
  hold = c.group.hold;
  notes = c.notes;
}

-- whether a command of this kind holds GroupStopping. MC_GroupStop
abbrev pub is_stop : BlockKind → Bool
is_stop kind.GroupStop = true
is_stop k = false

-- a line is active at once, or waits after the others. BufferMode
abbrev pub joined_changes : Wanted → Core → List Change
joined_changes w c =
    if is_active_at_once (queue_in c) w then joins w ∷ holds (is_stop w.kind) ∷ []
    else joins w ∷ []

-- a line that aborts a path that moves waits until that has braked. This project's profile
abbrev pub line_changes : Wanted → Core → List Change
line_changes w c =
    if waits_for_rest w c.path
    then replaced finish.Aborted (braking_for c.group.active) (w ∷ []) ∷ []
    else joined_changes w c

-- the others are ended, and the path is braked. MC_GroupHalt and MC_GroupStop
abbrev pub halted_changes : Wanted → List Change
halted_changes w = replaced finish.Aborted (Some w) [] ∷ holds (is_stop w.kind) ∷ []

-- a command that is not refused
abbrev pub admitted_changes : BlockKind → Wanted → Core → List Change
admitted_changes kind.GroupReset w c = awaits w.owner ∷ []
admitted_changes kind.GroupStop w c = halted_changes w
admitted_changes kind.GroupHalt w c = halted_changes w
admitted_changes kind.MoveLinearAbsolute w c = line_changes w c
admitted_changes k w c = []

-- a command that is asked; a refused one changes nothing
abbrev pub asked_changes : Option Reason → Wanted → Core → List Change
asked_changes None w c = admitted_changes w.kind w c
asked_changes (Some reason) w c = []

unfoldable pub command_changes : Wanted → ℤ → GroupLook → Core → List Change
command_changes w jerk members c = asked_changes (refusal_of (asked_in c w jerk members)) w c

-- a Power with Enable false on a member. MC_Power
unfoldable pub power_off_changes : Core → List Change
power_off_changes c = if may_fail c.group.state then failing 102 else []

-- an error of a member stops the group
abbrev pub answer_changes : ℕ → Core → List Change
answer_changes error c =
    if not (nat_eq error 0) && may_fail c.group.state then failing error else []

-- the active command goes on, or ends so and the first that waits takes over
abbrev pub ending_changes : Option Finish → List Wanted → List Change
ending_changes None ws = []
ending_changes (Some f) [] = ends f None ∷ []
ending_changes (Some f) (w ∷ ws) = ends f None ∷ holds (is_stop w.kind) ∷ []

-- nobody holds a group that leaves GroupStopping
abbrev pub release_changes : Bool → Group → Option OnPath → List Change
release_changes held g p = if leaves_stopping held g p then holds false ∷ [] else []

-- in a cycle: an error of a member, the end of the active command, and GroupStopping left
unfoldable pub cycle_changes : GroupLook → Core → List Change
cycle_changes members c =
    let stopped = answered members.error c in
    let after = moved members stopped in
    answer_changes members.error c
    ++ (ending_changes (ending_of stopped.group stopped.path) stopped.waiting
    ++ release_changes members.stop_held after.group after.path)

-- a pending GroupReset is done where it may be. MC_GroupReset
abbrev pub reset_changes_by : Option PendingReset → Bool → Group → List Change
reset_changes_by None on_path g = []
reset_changes_by (Some r) on_path g = if may_reset on_path g then resets ∷ [] else []

unfoldable pub reset_changes : Core → List Change
reset_changes c = reset_changes_by c.group.reset (is_some c.path) c.group
