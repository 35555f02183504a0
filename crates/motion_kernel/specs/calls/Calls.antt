-- What a block call makes of the machine (PLCopen Motion Control Part 1 and Part 4, general rules).
use Rattle.std.specs.Prelude.{ℕ, Bool, true, false, if◌then◌else◌, Option, Some, None, Result, Ok, Err, List, [], ◌∷◌, is_some, length, map, slice_get, slice_set}
use Rattle.axis_core.specs.Calls as axis
use Rattle.axis_core.specs.Cores as axis_cores
use Rattle.axis_core.specs.Demands.{asked_in}
use Rattle.axis_core.specs.Refusals.{Asked}
use Rattle.axis_core.specs.blocks.Path.{axis_on_path, is_on_path}
use Rattle.axis_core.specs.declared.axis.Axis.{Axis}
use Rattle.plc_types.specs.Kinds.{acts_on_group}
use Rattle.command_pool.specs.Waiting.{detached}
use Rattle.command_pool.specs.declared.ending.Finish.TheVariants as finish
use Rattle.command_pool.specs.declared.ending.Refusal.{Refusal}
use Rattle.plc_types.specs.declared.kind.BlockKind.{BlockKind}
use Rattle.plc_types.specs.declared.kind.BlockKind.TheVariants as kind
use Rattle.fb_outputs.specs.InstanceState.{InstanceState}
use Rattle.fb_outputs.specs.Steps as instance
use Rattle.fb_outputs.specs.Steps.{is_power}
use Rattle.plc_types.specs.declared.inputs.Inputs.{Inputs}
use Rattle.fb_outputs.specs.declared.instance.Edge.{Edge}
use Rattle.fb_outputs.specs.declared.instance.Edge.TheVariants as edge
use Rattle.plc_types.specs.declared.outputs.Outputs.{Outputs}
use Rattle.group_core.specs.Calls as group
use Rattle.group_core.specs.Cores as group_cores
use Rattle.plc_types.specs.declared.group.GroupState.{GroupState}
use Rattle.plc_types.specs.declared.group.GroupState.TheVariants.{GroupDisabled}
use Rattle.motion_history.specs.Setup.{Setup}
use Rattle.motion_history.specs.declared.config.BlockDef.{BlockDef}
use Rattle.motion_kernel.specs.calls.Asking.{is_done_at_once, wanted_of}
use Rattle.motion_kernel.specs.looks.GroupLooks.{group_look}
use Rattle.motion_kernel.specs.Machine.{Machine, PlacedGroup, axis_at, axis_core_at, group_at, group_core_at, instance_at, list_of}
use Rattle.motion_kernel.specs.members.Members.{members_at, membership_of}
use Rattle.motion_kernel.specs.calls.Telling.{told_notes}
use Rattle.motion_kernel.specs.declared.memberships.Membership.{Membership}

-- the machine with an axis and what waits for it after an event, which the instances are notified
abbrev pub with_axis_core : Machine → ℕ → axis_cores.Core → Machine
with_axis_core m n c = record m {
  axes = slice_set m.axes n c.axis;
  queues = slice_set m.queues n c.waiting;
  instances = told_notes c.notes m.instances;
}

-- the machine with a group, its path and what waits for it after an event, which the instances are
-- reported
abbrev pub with_group_core : Machine → ℕ → group_cores.Core → Machine
with_group_core m j c = record m {
  groups = slice_set m.groups j (record { group = c.group; path = c.path });
  queues = slice_set m.queues (list_of m j) c.waiting;
  instances = told_notes c.notes m.instances;
}

-- the machine with an instance
abbrev pub with_instance : Machine → ℕ → InstanceState → Machine
with_instance m k i = record m { instances = slice_set m.instances k i }

-- a Power with Enable false stops the group of its axis. MC_Power
abbrev pub group_without_power : Option Membership → Machine → Machine
group_without_power None m = m
group_without_power (Some at) m =
    with_group_core m at.group (group.powered_off (group_core_at m at.group))

-- the machine after a Power of an axis, whose Enable is taken at every call. MC_Power
unfoldable pub after_power : Setup → ℕ → Bool → Machine → Machine
after_power s n enable m =
    let powered = with_axis_core m n (axis.core_after_power enable (axis_core_at m n)) in
    if enable then powered else group_without_power (membership_of s n) powered

-- an instance whose block is called anew has its earlier command no longer, wherever that is
unfoldable pub without_owner : ℕ → Machine → Machine
without_owner k m = record m {
  axes = map (axis.axis_without_owner k) m.axes;
  groups = map (λ (g : PlacedGroup). record g { group = group.group_without k g.group }) m.groups;
  queues = map (map (detached k)) m.queues;
}

-- whether a group holds its axes: it is not in GroupDisabled
abbrev pub holds_axes : GroupState → Bool
holds_axes GroupDisabled = false
holds_axes s = true

-- whether the group of an axis holds it
abbrev pub is_held_by_group : Option Membership → Machine → Bool
is_held_by_group None m = false
is_held_by_group (Some at) m = holds_axes (group_at m at.group).group.state

-- what a call asks of an axis
abbrev pub asked_of_axis : Setup → ℕ → ℕ → BlockKind → Inputs → Machine → Asked
asked_of_axis s k n kind i m =
    asked_in (axis_core_at m n) n (wanted_of k kind i) i.jerk
    (is_held_by_group (membership_of s n) m) (length s.tables)

-- an axis that is on a path from now on, unless a command moves it; or leaves the path that it is
-- on
abbrev pub axis_led : Bool → Axis → Axis
axis_led true a = if is_some a.active then a else axis_on_path true a
axis_led false a = if is_on_path a then axis_on_path false a else a

-- the axes of a group are so
abbrev pub axes_led : Bool → List ℕ → Machine → Machine
axes_led on [] m = m
axes_led on (n ∷ ns) m =
    axes_led on ns (record m { axes = slice_set m.axes n (axis_led on (axis_at m n)) })

-- whether the axes of a group leave its path: GroupDisable is admitted
abbrev pub leaves_path : BlockKind → Result Bool Refusal → Bool
leaves_path kind.GroupDisable (Ok false) = true
leaves_path kind answer = false

-- whether they go on it: a command becomes active in its call
abbrev pub enters_path : Result Bool Refusal → Bool
enters_path (Ok true) = true
enters_path answer = false

-- the axes of a group after it was asked a command
abbrev pub members_led : Setup → ℕ → BlockKind → Result Bool Refusal → Machine → Machine
members_led s j kind answer m =
    if enters_path answer then axes_led true (members_at s j) m
    else if leaves_path kind answer then axes_led false (members_at s j) m
    else m

-- what an instance is notified of its own call: the refusal, or whether the command is active or
-- waits; some are Done at once
abbrev pub answered_instance : BlockKind → Result Bool Refusal → InstanceState → InstanceState
answered_instance kind (Err r) i = instance.finished i (finish.Error r.number)
answered_instance kind (Ok true) i = instance.started i true
answered_instance kind (Ok false) i =
    if is_done_at_once kind then instance.finished i finish.Done else instance.started i false

-- the machine after its instance was answered
abbrev pub with_answer : ℕ → BlockKind → Result Bool Refusal → Machine → Machine
with_answer k kind answer m =
    with_instance m k (answered_instance kind answer (instance_at m.instances k))

-- the machine after a command is asked of an axis. PLCopen Motion Control Part 1
unfoldable pub after_axis_command : Setup → ℕ → ℕ → BlockKind → Inputs → Machine → Machine
after_axis_command s k n kind i m =
    let c = axis_core_at m n in
    let q = asked_of_axis s k n kind i m in
    with_answer k kind (axis.answer_of q c) (with_axis_core m n (axis.core_after_command q c))

-- the machine after a command is asked of a group. PLCopen Motion Control Part 4
unfoldable pub after_group_command : Setup → ℕ → ℕ → BlockKind → Inputs → Machine → Machine
after_group_command s k j kind i m =
    let c = group_core_at m j in
    let w = wanted_of k kind i in
    let members = group_look s m j 0 in
    let answer = group.answer_of w i.jerk members c in
    with_answer k kind answer
    (members_led s j kind answer (with_group_core m j (group.commanded w i.jerk members c)))

-- a rising edge takes the earlier command's owner away, and asks a command of the block's axis or
-- group
abbrev pub after_rising : Setup → ℕ → BlockDef → Inputs → Machine → Machine
after_rising s k b i m =
    if acts_on_group b.kind then after_group_command s k b.object b.kind i (without_owner k m)
    else after_axis_command s k b.object b.kind i (without_owner k m)

-- other calls ask for nothing
abbrev pub after_edge : Setup → Edge → ℕ → BlockDef → Inputs → Machine → Machine
after_edge s edge.Rising k b i m = after_rising s k b i m
after_edge s edge.High k b i m = m
after_edge s edge.Falling k b i m = m
after_edge s edge.Low k b i m = m

-- what the call asks for: a Power at every call, others at a rising edge
abbrev pub after_asking : Setup → BlockKind → Edge → ℕ → BlockDef → Inputs → Machine → Machine
after_asking s kind e k b i m =
    if is_power kind then after_power s b.object i.execute m else after_edge s e k b i m

-- the machine whose instance took a call's Execute
abbrev pub with_execute : ℕ → Inputs → Machine → Machine
with_execute k i m = with_instance m k (instance.called (instance_at m.instances k) i.execute)

-- the machine before a call's reply: its instance takes Execute, then it asks
abbrev pub called_block : Setup → ℕ → BlockDef → Inputs → Machine → Machine
called_block s k b i m =
    after_asking s b.kind (instance.edge_of (instance_at m.instances k).execute i.execute) k b i
    (with_execute k i m)

-- a block that is not there makes nothing
abbrev pub called_where : Setup → Option BlockDef → ℕ → Inputs → Machine → Machine
called_where s None k i m = m
called_where s (Some b) k i m = called_block s k b i m

unfoldable pub called : Setup → ℕ → Inputs → Machine → Machine
called s k i m = called_where s (slice_get s.blocks k) k i m

-- the reply of a call
abbrev pub reply_of : Setup → Machine → ℕ → Inputs → Outputs
reply_of s m k i = instance.outputs_of (instance_at (called s k i m).instances k)

-- the machine after the reply was shown
abbrev pub after_reply : ℕ → Machine → Machine
after_reply k m = with_instance m k (instance.shown (instance_at m.instances k))

-- the machine after a call
abbrev pub after_call : Setup → Machine → ℕ → Inputs → Machine
after_call s m k i = after_reply k (called s k i m)
