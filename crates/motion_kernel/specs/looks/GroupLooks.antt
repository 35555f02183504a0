-- What a call and a cycle look at of the axes around an axis or a group.
use Rattle.std.specs.Prelude.{ℕ, zero, suc, Bool, pos, List, length, replicate, slice_set}
use Rattle.axis_core.specs.declared.axis.Axis.{Axis}
use Rattle.plc_types.specs.declared.axis_state.AxisState.TheVariants.{Disabled}
use Rattle.group_core.specs.declared.look.GroupLook.{GroupLook}
use Rattle.motion_history.specs.Setup.{Setup}
use Rattle.motion_kernel.specs.Machine.{Machine, axis_among, group_at}
use Rattle.motion_kernel.specs.members.Members.{member_at, members_at}
use Rattle.motion_kernel.specs.calls.Telling.{is_held}
use Rattle.linear_path.specs.Path.{no_limits}

-- a look with an axis at a place of it
abbrev pub with_member : ℕ → Axis → GroupLook → GroupLook
with_member place a look = record look {
  limits = slice_set look.limits place a.limits;
  setpoints = slice_set look.setpoints place a.setpoint;
  states = slice_set look.states place a.state;
}

-- a look with the first n of some axes in their places
unfoldable pub with_members : ℕ → List Axis → List ℕ → GroupLook → GroupLook
with_members zero axes members look = look
with_members (suc n) axes members look =
    with_member n (axis_among axes (member_at members n)) (with_members n axes members look)

-- a look without an axis
abbrev pub look_at_none : ℕ → ℕ → Bool → GroupLook
look_at_none count error held = record {
  count = count;
  limits = replicate 6 no_limits;
  setpoints = replicate 6 (pos 0);
  states = replicate 6 Disabled;
  error = error;
  stop_held = held;
}

-- what a group looks at: its axes as they are, the error that it gets from them, and whether its
-- GroupStop is still called with Execute true
unfoldable pub group_look : Setup → Machine → ℕ → ℕ → GroupLook
group_look s m j error =
    let members = members_at s j in
    with_members (length members) m.axes members
    (look_at_none (length members) error (is_held m.instances (group_at m j).group.hold))
