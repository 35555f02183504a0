-- What commands, a Power off of a member and a detachment make of a group (PLCopen Part 4).
use Rattle.std.specs.Prelude.{ℕ, Bool, true, false, not, ◌&&◌, if◌then◌else◌, ℤ, Option, Some, None, Result, Ok, Err, [], ◌∷◌, ◌++◌, length, map}
use Rattle.buffer_modes.specs.Queue.{Commands, admitted, is_aborting, is_active_at_once, noted}
use Rattle.command_pool.specs.Waiting as waiting
use Rattle.command_pool.specs.Waiting.{without}
use Rattle.command_pool.specs.declared.ending.Finish.TheVariants as finish
use Rattle.command_pool.specs.declared.ending.Refusal.{Refusal}
use Rattle.plc_types.specs.declared.kind.BlockKind.{BlockKind}
use Rattle.plc_types.specs.declared.kind.BlockKind.TheVariants as kind
use Rattle.command_pool.specs.declared.wanted.Wanted.{Wanted}
use Rattle.group_core.specs.Cores.{Core, all_ended, begun, failed, line_begun}
use Rattle.group_core.specs.Refusals.{Asked, limits_in, number_of, refusal_of}
use Rattle.group_core.specs.States.{may_fail}
use Rattle.group_core.specs.Tracks.{OnPath, is_moving}
use Rattle.group_core.specs.blocks.Enable.{disabled, enabled}
use Rattle.group_core.specs.blocks.Halts.{halted_path, way_here}
use Rattle.group_core.specs.blocks.Line.{braking_for}
use Rattle.buffer_modes.specs.Owners.{active_without}
use Rattle.buffer_modes.specs.Resets.{replaced_note, reset_without}
use Rattle.group_core.specs.blocks.Reset.{reset_pending}
use Rattle.group_core.specs.declared.group.Group.{Group}
use Rattle.group_core.specs.declared.look.GroupLook.{GroupLook}
use Rattle.group_core.specs.declared.reason.Reason.{Reason}

-- the group's active command and those that wait
abbrev pub queue_in : Core → Commands
queue_in c = record { active = c.group.active; waiting = c.waiting }

-- the queue with a command that joined it, and what is reported of those that it ends. BufferMode
abbrev pub queued : Wanted → Core → Core
queued w c = record c {
  group = record c.group { active = (admitted (queue_in c) w).active };
  waiting = (admitted (queue_in c) w).waiting;
  notes = c.notes ++ noted (queue_in c) w;
}

-- whether a line waits until the path that it aborts has come to rest. This project's profile
abbrev pub waits_for_rest : Wanted → Option OnPath → Bool
waits_for_rest w p = is_aborting w.mode && is_moving p

-- a line aborts a path that moves: that brakes, and the line waits alone. This project's profile
abbrev pub braked_for : Wanted → Core → Core
braked_for w c =
    let ended = all_ended finish.Aborted c in
    record ended {
      group = record ended.group { active = braking_for c.group.active };
      waiting = w ∷ [];
    }

-- a line joins the others, and may be active at once. MC_MoveLinearAbsolute, BufferMode
abbrev pub line_joined : GroupLook → Wanted → Core → Core
line_joined members w c =
    if waits_for_rest w c.path then braked_for w c
    else (if is_active_at_once (queue_in c) w
    then line_begun members members.setpoints w (queued w c)
    else queued w c)

-- whether a line that is not refused is active after its call
abbrev pub is_line_active : Wanted → Core → Bool
is_line_active w c = not (waits_for_rest w c.path) && is_active_at_once (queue_in c) w

-- the others are ended, and the path is braked. MC_GroupHalt and MC_GroupStop
abbrev pub halted : GroupLook → Wanted → Core → Core
halted members w c =
    let ended = all_ended finish.Aborted c in
    record ended {
      group = begun w ended.group;
      path = halted_path (way_here members.count members.setpoints) (limits_in members) c.path;
    }

-- a GroupReset is pending, in the place of another one. MC_GroupReset
abbrev pub awaited : Wanted → Core → Core
awaited w c = record c {
  group = reset_pending w c.group;
  notes = c.notes ++ replaced_note c.group.reset;
}

-- a command that is not refused
abbrev pub admitted_by : BlockKind → GroupLook → Wanted → Core → Core
admitted_by kind.GroupEnable members w c = record c { group = enabled c.group }
admitted_by kind.GroupDisable members w c = record c { group = disabled c.group; path = None }
admitted_by kind.GroupReset members w c = awaited w c
admitted_by kind.GroupStop members w c = halted members w c
admitted_by kind.GroupHalt members w c = halted members w c
admitted_by kind.MoveLinearAbsolute members w c = line_joined members w c
admitted_by k members w c = c

-- whether a command that is not refused is active after its call
abbrev pub is_active_by : BlockKind → Wanted → Core → Bool
is_active_by kind.GroupStop w c = true
is_active_by kind.GroupHalt w c = true
is_active_by kind.MoveLinearAbsolute w c = is_line_active w c
is_active_by k w c = false

-- what a command is asked of: the group as it is
abbrev pub asked_in : Core → Wanted → ℤ → GroupLook → Asked
asked_in c w jerk members = record {
  group = c.group;
  moves = is_moving c.path;
  waiting = length c.waiting;
  wanted = w;
  jerk = jerk;
  members = members;
}

-- what a command makes of the group: nothing where it is refused
abbrev pub commanded_by : Option Reason → GroupLook → Wanted → Core → Core
commanded_by None members w c = admitted_by w.kind members w c
commanded_by (Some reason) members w c = c

-- the group after a command was asked of it
unfoldable pub commanded : Wanted → ℤ → GroupLook → Core → Core
commanded w jerk members c = commanded_by (refusal_of (asked_in c w jerk members)) members w c

-- what a command is answered: the ErrorID where it is refused, else whether it is active
abbrev pub answer_by : Option Reason → Wanted → Core → Result Bool Refusal
answer_by None w c = Ok (is_active_by w.kind w c)
answer_by (Some reason) w c = Err (record { number = number_of reason })

-- whether a command is active at once, or why it is refused
unfoldable pub answer_of : Wanted → ℤ → GroupLook → Core → Result Bool Refusal
answer_of w jerk members c = answer_by (refusal_of (asked_in c w jerk members)) w c

-- a Power with Enable false on a member: the group has error 102 where it may have one. MC_Power
unfoldable pub powered_off : Core → Core
powered_off c = if may_fail c.group.state then failed 102 c else c

-- a group without this owner of its active command, its pending GroupReset and its hold
unfoldable pub group_without : ℕ → Group → Group
group_without owner g = record g {
  active = active_without owner g.active;
  reset = reset_without owner g.reset;
  hold = without owner g.hold;
}

-- a group whose commands this instance has no longer
abbrev pub disowned : ℕ → Core → Core
disowned owner c = record c {
  group = group_without owner c.group;
  waiting = map (waiting.detached owner) c.waiting;
}
