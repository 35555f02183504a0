-- What a call asks of a group (PLCopen Motion Control Part 4).
use Rattle.std.specs.Prelude.{ℕ, ℤ, nat_eq, if◌then◌else◌, Option, Some, None}
use Rattle.command_pool.specs.declared.wanted.Wanted.{Wanted}
use Rattle.plc_types.specs.declared.inputs.Inputs.{Inputs}
use Rattle.group_core.specs.Cores.{Core}
use Rattle.group_core.specs.declared.look.GroupLook.{GroupLook}
use Rattle.motion_history.specs.Setup.{Setup}
use Rattle.motion_history.specs.declared.config.BlockDef.{BlockDef}
use Rattle.motion_kernel.specs.Machine.{Machine, group_core_at}
use Rattle.motion_kernel.specs.calls.Asking.{wanted_of}
use Rattle.motion_kernel.specs.declared.memberships.Membership.{Membership}
use Rattle.motion_kernel.specs.looks.GroupLooks.{group_look}
use Rattle.motion_kernel.specs.members.Members.{membership_of}
use Rattle.motion_kernel.specs.calls.Requests.{Request, for_axis_command, for_group_command, for_nothing, for_power, machine_asked, request_of}

-- what is asked of a group
pub data GroupCall : Type 0 where
  -- nothing
  rests : GroupCall
  -- a command, with its jerk, by what the group sees of its axes
  asked : Wanted → ℤ → GroupLook → GroupCall
  -- that the power of a member goes off
  power_off : GroupCall

-- a Power with Enable false on an axis stops the group of that
abbrev pub by_power_off : Option Membership → ℕ → GroupCall
by_power_off None j = rests
by_power_off (Some at) j = if nat_eq at.group j then power_off else rests

-- what a call asks for asks this of a group of the machine
abbrev pub by_request : Setup → Request → ℕ → Inputs → Machine → ℕ → GroupCall
by_request s for_nothing k i m j = rests
by_request s (for_power n enable) k i m j =
    if enable then rests else by_power_off (membership_of s n) j
by_request s (for_axis_command b) k i m j = rests
by_request s (for_group_command b) k i m j =
    if nat_eq b.object j then asked (wanted_of k b.kind i) i.jerk (group_look s m j 0) else rests

-- what a call says of a group, in any words: what becomes of its active command, its events, or
-- others
abbrev pub by_call : {A : Type 0} → (GroupCall → Core → A) → Setup → Option BlockDef → ℕ → Inputs →
    Machine → ℕ → A
by_call word s o k i m j =
    let r = request_of o k i m in
    let x = machine_asked r k i m in
    word (by_request s r k i x j) (group_core_at x j)
