-- What a call asks of an axis (PLCopen Motion Control Part 1, general rules).
use Rattle.std.specs.Prelude.{ℕ, Bool, true, false, nat_eq, if◌then◌else◌, Option, Result}
use Rattle.std.specs.List.{list_any}
use Rattle.axis_core.specs.Cores.{Core}
use Rattle.axis_core.specs.Refusals.{Asked}
use Rattle.command_pool.specs.declared.ending.Refusal.{Refusal}
use Rattle.plc_types.specs.declared.kind.BlockKind.{BlockKind}
use Rattle.plc_types.specs.declared.inputs.Inputs.{Inputs}
use Rattle.group_core.specs.Calls as group
use Rattle.motion_history.specs.Setup.{Setup}
use Rattle.motion_history.specs.declared.config.BlockDef.{BlockDef}
use Rattle.motion_kernel.specs.Machine.{Machine, axis_core_at, group_core_at}
use Rattle.motion_kernel.specs.calls.Asking.{wanted_of}
use Rattle.motion_kernel.specs.calls.Calls.{asked_of_axis, enters_path, leaves_path}
use Rattle.motion_kernel.specs.looks.GroupLooks.{group_look}
use Rattle.motion_kernel.specs.members.Members.{members_at}
use Rattle.motion_kernel.specs.calls.Requests.{Request, for_axis_command, for_group_command, for_nothing, for_power, machine_asked, request_of}

-- what is asked of an axis
pub data AxisCall : Type 0 where
  -- nothing
  rests : AxisCall
  -- to be led on its group's path, or from it
  led : Bool → AxisCall
  -- a command
  asked : Asked → AxisCall
  -- power, on or off
  power : Bool → AxisCall

-- a group leads its axes on its path where its command becomes active in the call, and from it
-- where a GroupDisable is admitted
abbrev pub led_by : BlockKind → Result Bool Refusal → AxisCall
led_by kind answer =
    if enters_path answer then led true else if leaves_path kind answer then led false else rests

-- so where a command is asked of the group, by what that answers
abbrev pub by_group_command : Setup → ℕ → BlockDef → Inputs → Machine → ℕ → AxisCall
by_group_command s k b i m n =
    if list_any (nat_eq n) (members_at s b.object)
    then led_by b.kind
    (group.answer_of (wanted_of k b.kind i) i.jerk (group_look s m b.object 0)
    (group_core_at m b.object))
    else rests

-- what a call asks for asks this of an axis of the machine
abbrev pub by_request : Setup → Request → ℕ → Inputs → Machine → ℕ → AxisCall
by_request s for_nothing k i m n = rests
by_request s (for_power o enable) k i m n = if nat_eq o n then power enable else rests
by_request s (for_axis_command b) k i m n =
    if nat_eq b.object n then asked (asked_of_axis s k n b.kind i m) else rests
by_request s (for_group_command b) k i m n = by_group_command s k b i m n

-- what a call says of an axis, in any words: what becomes of its active command, its events, or
-- others
abbrev pub by_call : {A : Type 0} → (AxisCall → Core → A) → Setup → Option BlockDef → ℕ → Inputs →
    Machine → ℕ → A
by_call word s o k i m n =
    let r = request_of o k i m in
    let x = machine_asked r k i m in
    word (by_request s r k i x n) (axis_core_at x n)
