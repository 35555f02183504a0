-- What the instances show after a cycle (PLCopen Motion Control Part 1, general rules).
use Rattle.std.specs.Prelude.{ℕ, zero, suc, Bool, false, ◌&&◌, Option, Some, None, List, length, slice_get, slice_set}
use Rattle.axis_state.specs.States.{is_stopping}
use Rattle.axis_core.specs.declared.axis.Axis.{Axis}
use Rattle.plc_types.specs.declared.kind.BlockKind.{BlockKind}
use Rattle.plc_types.specs.declared.kind.BlockKind.TheVariants as kind
use Rattle.fb_outputs.specs.InstanceState.{InstanceState}
use Rattle.fb_outputs.specs.Steps as instance
use Rattle.group_core.specs.States as group_states
use Rattle.group_core.specs.declared.group.Group.{Group}
use Rattle.motion_history.specs.Setup.{Setup}
use Rattle.motion_history.specs.declared.config.BlockDef.{BlockDef}
use Rattle.motion_kernel.specs.Machine.{Machine, PlacedGroup, axis_among, group_among, instance_at}
use Rattle.motion_kernel.specs.calls.Telling.{is_holder, shown_active}
use Rattle.buffer_modes.specs.Owners.{owner_by}

-- the owner of an axis's active command is given what that has reached
abbrev pub axis_shown : Axis → List InstanceState → List InstanceState
axis_shown a instances = shown_active (owner_by a.active) a.reached instances

-- so are those of the first n axes
unfoldable pub axes_shown : ℕ → List Axis → List InstanceState → List InstanceState
axes_shown zero axes instances = instances
axes_shown (suc n) axes instances = axis_shown (axis_among axes n) (axes_shown n axes instances)

-- no command of a group reaches anything but its end
abbrev pub group_shown : PlacedGroup → List InstanceState → List InstanceState
group_shown g instances = shown_active (owner_by g.group.active) false instances

unfoldable pub groups_shown : ℕ → List PlacedGroup → List InstanceState → List InstanceState
groups_shown zero groups instances = instances
groups_shown (suc n) groups instances =
    group_shown (group_among groups n) (groups_shown n groups instances)

-- whether an instance holds an axis in Stopping, or a group in GroupStopping. MC_Stop and
-- MC_GroupStop
abbrev pub holds_axis : ℕ → Axis → Bool
holds_axis k a = is_stopping a.state && is_holder k a.hold

abbrev pub holds_group : ℕ → Group → Bool
holds_group k g = group_states.is_stopping g.state && is_holder k g.hold

-- what else an instance finds at a cycle's end: a Power whether its axis was driven, a Stop and a
-- GroupStop whether they hold it in stopping. MC_Power, MC_Stop and MC_GroupStop
abbrev pub found_by : BlockKind → List Axis → List PlacedGroup → ℕ → ℕ → Option Bool
found_by kind.Power axes groups k n = Some (axis_among axes n).driven
found_by kind.Stop axes groups k n = Some (holds_axis k (axis_among axes n))
found_by kind.GroupStop axes groups k j = Some (holds_group k (group_among groups j).group)
found_by kind axes groups k n = None

-- an instance is given what it found
abbrev pub told_found : Option Bool → ℕ → List InstanceState → List InstanceState
told_found None k instances = instances
told_found (Some found) k instances =
    slice_set instances k (instance.with_reached (instance_at instances k) found)

abbrev pub instance_found : Option BlockDef → List Axis → List PlacedGroup → ℕ →
    List InstanceState → List InstanceState
instance_found None axes groups k instances = instances
instance_found (Some b) axes groups k instances =
    told_found (found_by b.kind axes groups k b.object) k instances

-- the first n instances are
unfoldable pub instances_found : ℕ → List BlockDef → List Axis → List PlacedGroup →
    List InstanceState → List InstanceState
instances_found zero blocks axes groups instances = instances
instances_found (suc n) blocks axes groups instances =
    instance_found (slice_get blocks n) axes groups n
    (instances_found n blocks axes groups instances)

-- the machine whose instances were given what the cycle found
unfoldable pub with_found : Setup → Machine → Machine
with_found s m = record m {
  instances = instances_found (length s.blocks) s.blocks m.axes m.groups
      (groups_shown (length m.groups) m.groups (axes_shown (length m.axes) m.axes m.instances));
}
