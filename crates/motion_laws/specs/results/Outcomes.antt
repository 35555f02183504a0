-- What each entry of a history makes of the command of an instance (PLCopen Motion Control Part 1,
-- general rules).
use Rattle.std.specs.Prelude.{◌≡◌, ℕ, Bool, true, false, nat_eq, if◌then◌else◌, Option, Some, None, Result, Ok, Err}
use Rattle.axis_core.specs.Calls as axis
use Rattle.buffer_modes.specs.Owners.{owner_by}
use Rattle.command_core.specs.Ends.{end_among}
use Rattle.plc_types.specs.Kinds.{acts_on_group}
use Rattle.command_pool.specs.declared.ending.Finish.{Finish}
use Rattle.command_pool.specs.declared.ending.Finish.TheVariants as finish
use Rattle.command_pool.specs.declared.ending.Refusal.{Refusal}
use Rattle.plc_types.specs.declared.kind.BlockKind.{BlockKind}
use Rattle.fb_outputs.specs.Steps.{edge_of, progress_after, shown_progress}
use Rattle.plc_types.specs.declared.inputs.Inputs.{Inputs}
use Rattle.fb_outputs.specs.declared.instance.Edge.{Edge}
use Rattle.fb_outputs.specs.declared.instance.Edge.TheVariants as edge
use Rattle.fb_outputs.specs.declared.instance.Progress.{Progress}
use Rattle.fb_outputs.specs.declared.instance.Progress.TheVariants.{Active, Ended, Waiting}
use Rattle.group_core.specs.Calls as group
use Rattle.motion_history.specs.Entries.{Entry, call, cycle, end_of}
use Rattle.motion_history.specs.Setup.{Setup}
use Rattle.motion_history.specs.declared.config.BlockDef.{BlockDef}
use Rattle.motion_kernel.specs.Histories.{after}
use Rattle.motion_kernel.specs.Machine.{Machine, axis_core_at, group_core_at, instance_at}
use Rattle.motion_kernel.specs.calls.Asking.{is_done_at_once, wanted_of}
use Rattle.motion_kernel.specs.calls.Calls.{asked_of_axis, with_execute, without_owner}
use Rattle.motion_kernel.specs.calls.Telling.{is_holder}
use Rattle.motion_kernel.specs.looks.GroupLooks.{group_look}
use Rattle.motion_kernel.specs.owners.Objects.{Object, object_of}
use Rattle.motion_laws.specs.results.Effects.{effect_in, fate_by, notes_by}

-- how far the command of an instance is
abbrev pub progress_at : Machine → ℕ → Progress
progress_at m k = (instance_at m.instances k).progress

-- how the command of an instance on an axis or a group ends in an entry, if it does
abbrev pub end_of_command : Setup → Machine → Entry → ℕ → Object → Option Finish
end_of_command s m e k o = end_among k (notes_by (effect_in s m e o))

-- whether its command begins
abbrev pub begins_command : Setup → Machine → Entry → ℕ → Object → Bool
begins_command s m e k o = is_holder k (owner_by (fate_by (effect_in s m e o)).begins)

-- how far it then is: ended, where it ends so; active, where it begins; else as it was
abbrev pub progress_by : Option Finish → Bool → Progress → Progress
progress_by (Some f) begins p = Ended f false
progress_by None true p = Active
progress_by None false p = p

-- after an entry that is no call of the instance
abbrev pub progress_beside : Setup → Machine → Entry → ℕ → Object → Progress
progress_beside s m e k o =
    progress_by (end_of_command s m e k o) (begins_command s m e k o) (progress_at m k)

-- what a rising edge of a block is answered
abbrev pub answer_in : Setup → ℕ → BlockDef → Inputs → Machine → Result Bool Refusal
answer_in s k b i m =
    let free = without_owner k m in
    let n = b.object in
    if acts_on_group b.kind
    then group.answer_of (wanted_of k b.kind i) i.jerk (group_look s free n 0)
    (group_core_at free n)
    else axis.answer_of (asked_of_axis s k n b.kind i free) (axis_core_at free n)

-- how far a command is that is answered so: refused, active or waiting; some are Done at once
abbrev pub progress_answered : BlockKind → Result Bool Refusal → Progress
progress_answered kind (Err r) = Ended (finish.Error r.number) false
progress_answered kind (Ok true) = Active
progress_answered kind (Ok false) =
    if is_done_at_once kind then Ended finish.Done false else Waiting

-- how far it is in a call of the instance: as the call is answered, at a rising edge; else a result
-- that was shown goes with Execute false
abbrev pub progress_by_edge : Setup → Edge → ℕ → BlockDef → Inputs → Machine → Progress → Progress
progress_by_edge s edge.Rising k b i m p = progress_answered b.kind (answer_in s k b i m)
progress_by_edge s e k b i m p = progress_after e p

-- and after it, when a result has been shown
abbrev pub progress_by_call : Setup → ℕ → BlockDef → Inputs → Machine → Progress
progress_by_call s k b i m =
    let e = edge_of (instance_at m.instances k).execute i.execute in
    shown_progress (progress_by_edge s e k b i (with_execute k i m) (progress_at m k))

-- how far the command of an instance is after an entry
abbrev pub progress_in : Setup → Machine → Entry → ℕ → BlockDef → Progress
progress_in s m (call j i reply) k b =
    if nat_eq j k then progress_by_call s k b i m
    else progress_beside s m (call j i reply) k (object_of b)
progress_in s m (cycle c rows grows) k b =
    progress_beside s m (cycle c rows grows) k (object_of b)
progress_in s m (end_of task) k b = progress_at m k

-- an entry makes this of an instance
abbrev pub IsOutcome : Setup → Machine → Entry → ℕ → BlockDef → Type 0
IsOutcome s m e k b = progress_at (after s m e) k ≡ progress_in s m e k b

-- how a command ends as it is answered: refused, or Done at once
abbrev pub end_answered : BlockKind → Result Bool Refusal → Option Finish
end_answered kind (Err r) = Some (finish.Error r.number)
end_answered kind (Ok true) = None
end_answered kind (Ok false) = if is_done_at_once kind then Some finish.Done else None

-- so in a call of its instance that is a rising edge
abbrev pub end_by_edge : Setup → Edge → ℕ → BlockDef → Inputs → Machine → Option Finish
end_by_edge s edge.Rising k b i m = end_answered b.kind (answer_in s k b i m)
end_by_edge s e k b i m = None

-- how the command of an instance ends in an entry, if it does
abbrev pub finish_in : Setup → Machine → Entry → ℕ → BlockDef → Option Finish
finish_in s m (call j i reply) k b =
    if nat_eq j k
    then end_by_edge s (edge_of (instance_at m.instances k).execute i.execute) k b i
    (with_execute k i m)
    else end_of_command s m (call j i reply) k (object_of b)
finish_in s m (cycle c rows grows) k b =
    end_of_command s m (cycle c rows grows) k (object_of b)
finish_in s m (end_of task) k b = None
