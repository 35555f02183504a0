-- A group with the commands that wait after its active one, and how these become active and end
-- (PLCopen Motion Control Part 4; BufferMode of Part 1).
use Rattle.std.specs.Prelude.{ℕ, ℤ, Option, Some, None, List, [], ◌∷◌, ◌++◌}
use Rattle.buffer_modes.specs.Queue.{active_note, end_notes}
use Rattle.command_pool.specs.Waiting.{queue_of}
use Rattle.command_pool.specs.declared.ending.Finish.{Finish}
use Rattle.command_pool.specs.declared.ending.Finish.TheVariants as finish
use Rattle.command_pool.specs.declared.notes.Note.{Note}
use Rattle.command_pool.specs.declared.wanted.Wanted.{Wanted}
use Rattle.axis_state.specs.GroupDiagram.{next_of}
use Rattle.axis_state.specs.declared.group_diagram.GroupEvent.TheVariants as event
use Rattle.plc_types.specs.declared.group.GroupState.{GroupState}
use Rattle.plc_types.specs.declared.group.GroupState.TheVariants as state
use Rattle.group_core.specs.Kinds.{event_of}
use Rattle.group_core.specs.Refusals.{limits_in}
use Rattle.group_core.specs.Tracks.{OnPath, beginning}
use Rattle.group_core.specs.blocks.Halts.{hold_by}
use Rattle.group_core.specs.blocks.Line.{way_to}
use Rattle.group_core.specs.declared.group.Group.{Group}
use Rattle.group_core.specs.declared.look.GroupLook.{GroupLook}

-- a group on its path, the commands that wait, and whose commands ended so far and how
pub record Core : Type 0 where
  pub group : Group
  pub path : Option OnPath
  pub waiting : List Wanted
  pub notes : List Note

-- a group on a path, with the commands that wait in its list of the pool
abbrev pub core_in : Group → Option OnPath → List (List Wanted) → ℕ → List Note → Core
core_in g p lists list notes =
    record { group = g; path = p; waiting = queue_of lists list; notes = notes }

-- the active command ends so, and those that wait are aborted
abbrev pub all_ended : Finish → Core → Core
all_ended f c = record c {
  group = record c.group { active = None };
  waiting = [];
  notes = c.notes ++ end_notes f (record { active = c.group.active; waiting = c.waiting });
}

-- a command becomes active
abbrev pub begun : Wanted → Group → Group
begun w g = record g {
  state = next_of (event_of w.kind);
  active = Some w;
  hold = hold_by w.kind w.owner;
}

-- a group with an error: it is in GroupErrorStop, its commands are ended, it stays on its path
unfoldable pub failed : ℕ → Core → Core
failed n c =
    let ended = all_ended (finish.Error n) c in
    record ended {
      group = record ended.group { state = next_of event.MemberError; error = n; hold = None };
    }

-- a line begins where the axes stand
abbrev pub line_begun : GroupLook → List ℤ → Wanted → Core → Core
line_begun members setpoints w c = record c {
  group = begun w c.group;
  path = Some (beginning (way_to members.count setpoints w) (limits_in members));
}

-- the state of a group whose last command is done: from GroupMoving to GroupStandby
abbrev pub settled : GroupState → GroupState
settled state.GroupMoving = next_of event.LastDone
settled s = s

-- and it leaves its path
abbrev pub path_settled : GroupState → Option OnPath → Option OnPath
path_settled state.GroupMoving p = None
path_settled s p = p

-- the group settles where no command waits
abbrev pub settled_on : Core → Core
settled_on c = record c {
  group = record c.group { state = settled c.group.state };
  path = path_settled c.group.state c.path;
}

-- the first command that waits takes over, where the axes stand; without one the group settles
abbrev pub taken_over : GroupLook → List ℤ → List Wanted → Core → Core
taken_over members setpoints [] c = settled_on c
taken_over members setpoints (w ∷ ws) c = line_begun members setpoints w (record c { waiting = ws })

-- the active command ends so, and the next one takes over
unfoldable pub ended : GroupLook → List ℤ → Finish → Core → Core
ended members setpoints f c = taken_over members setpoints c.waiting (record c {
  group = record c.group { active = None };
  notes = c.notes ++ active_note f c.group.active;
})

-- the active command goes on, or ends so
abbrev pub ended_by : GroupLook → List ℤ → Option Finish → Core → Core
ended_by members setpoints None c = c
ended_by members setpoints (Some f) c = ended members setpoints f c
