-- The order within a cycle of a group (PLCopen Part 4; the order is this project's profile).
use Rattle.std.specs.Prelude.{ℕ, Bool, not, ◌&&◌, nat_eq, if◌then◌else◌, pos, Option, Some, None, is_some, [], ◌++◌}
use Rattle.command_pool.specs.declared.ending.Finish.{Finish}
use Rattle.command_pool.specs.declared.wanted.Wanted.{Wanted}
use Rattle.axis_state.specs.GroupDiagram.{next_of}
use Rattle.axis_state.specs.declared.group_diagram.GroupEvent.TheVariants.{StopReleased}
use Rattle.plc_types.specs.declared.group.GroupRow.{GroupRow}
use Rattle.plc_types.specs.declared.group.GroupState.TheVariants as state
use Rattle.kin_core.specs.Taken.{taken_step_of}
use Rattle.group_core.specs.Cores.{Core, ended_by, failed}
use Rattle.group_core.specs.Kinds.{ending_by, step_by}
use Rattle.group_core.specs.Refusals.{states_in}
use Rattle.group_core.specs.States.{is_error_stop, may_fail}
use Rattle.group_core.specs.Tracks.{OnPath, braking_step_of, is_moving, moved_by, places_at}
use Rattle.group_core.specs.blocks.Halts.{leaves_stopping}
use Rattle.group_core.specs.blocks.Reset.{reset_by, reset_notes}
use Rattle.group_core.specs.declared.group.Group.{Group}
use Rattle.group_core.specs.declared.group.Motion.{Motion}
use Rattle.group_core.specs.declared.look.GroupLook.{GroupLook}
use Rattle.group_core.specs.declared.look.GroupStep.{GroupStep}

-- first an error of a member stops the group, where it may have one
abbrev pub answered : ℕ → Core → Core
answered error c = if not (nat_eq error 0) && may_fail c.group.state then failed error c else c

-- the path after its step in a cycle, and how the active command ends by it, if it does
pub record Advance : Type 0 where
  pub motion : Motion
  pub ending : Option Finish

-- the step of the active command; without one the path stands
abbrev pub advanced_with : Option Wanted → Motion → Advance
advanced_with None m =
    record {
      motion = moved_by (taken_step_of m.limits m.previous m.place (pos 0)) m;
      ending = None;
    }
advanced_with (Some w) m =
    let step = step_by w.kind w m in
    record { motion = moved_by step m; ending = ending_by w.kind m step }

-- the step of a cycle; in GroupErrorStop the path brakes by its dmax
unfoldable pub advanced : Group → Motion → Advance
advanced g m =
    if is_error_stop g.state
    then record { motion = moved_by (braking_step_of m.limits.dmax m) m; ending = None }
    else advanced_with g.active m

-- then the path takes its step
abbrev pub path_after : Group → Option OnPath → Option OnPath
path_after g None = None
path_after g (Some p) = Some (record p { motion = (advanced g p.motion).motion })

-- how the active command ends by the step of its path, if it does
abbrev pub ending_of : Group → Option OnPath → Option Finish
ending_of g None = None
ending_of g (Some p) = (advanced g p.motion).ending

-- then its command may end, and the next one take over where the axes then stand
abbrev pub moved : GroupLook → Core → Core
moved members c =
    let path = path_after c.group c.path in
    ended_by members (places_at path members.setpoints) (ending_of c.group c.path)
    (record c { path = path })

-- then a group whose GroupStop is done may leave GroupStopping, and its path
abbrev pub group_released : Bool → Group → Option OnPath → Group
group_released held g p =
    if leaves_stopping held g p then record g { state = next_of StopReleased; hold = None } else g

-- its path, which is over where the group leaves GroupStopping
abbrev pub path_released : Bool → Group → Option OnPath → Option OnPath
path_released held g p = if leaves_stopping held g p then None else p

-- the group that leaves GroupStopping, where it does
abbrev pub released : Bool → Core → Core
released held c = record c {
  group = group_released held c.group c.path;
  path = path_released held c.group c.path;
}

-- and in GroupErrorStop a path at rest is over
abbrev pub path_over : Group → Option OnPath → Option OnPath
path_over g p = if is_error_stop g.state && not (is_moving p) then None else p

-- the group whose path is over, where it is
abbrev pub over_at_rest : Core → Core
over_at_rest c = record c { path = path_over c.group c.path }

-- a group after a cycle
unfoldable pub cycled : GroupLook → Core → Core
cycled members c =
    over_at_rest (released members.stop_held (moved members (answered members.error c)))

-- the path on which the axes take their places in a cycle
abbrev pub path_taken : GroupLook → Core → Option OnPath
path_taken members c =
    let stopped = answered members.error c in path_after stopped.group stopped.path

-- what a cycle asks of the axes: their places, and to leave the path where there is none any more
unfoldable pub step_of : GroupLook → Core → GroupStep
step_of members c = record {
  places = places_at (path_taken members c) members.setpoints;
  ends = is_some c.path && not (is_some (cycled members c).path);
}

-- after the cycles of its axes a pending GroupReset is done where it may be
unfoldable pub reset_where : GroupLook → Bool → Group → Group
reset_where members on_path g = reset_by g.reset (states_in members) on_path g

-- the group after the GroupResets of a cycle
abbrev pub reset_cycled : GroupLook → Core → Core
reset_cycled members c = record c {
  group = reset_where members (is_some c.path) c.group;
  notes = c.notes ++ reset_notes c.group.reset (is_some c.path) c.group;
}

-- what a cycle shows of the group after it
abbrev pub row_of : Group → GroupRow
row_of g = record { state = g.state; error = g.error }

-- a group of this many axes at opening
abbrev pub opened : ℕ → Group
opened axes = record {
  axes = axes;
  state = state.GroupDisabled;
  error = 0;
  active = None;
  reset = None;
  hold = None;
}

-- a group of this many axes as it opens
abbrev pub opening : ℕ → Core
opening axes = record { group = opened axes; path = None; waiting = []; notes = [] }
