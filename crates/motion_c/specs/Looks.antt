-- What a look at a machine shows. This project's profile.
use Rattle.std.specs.Prelude.{◌≡◌, ◌≢◌, ◌↔◌, ◌≤◌, ◌<◌, ℕ, Option, None}
use Rattle.plc_types.specs.declared.axis.AxisRow.{AxisRow}
use Rattle.plc_types.specs.declared.axis_state.AxisState.{AxisState}
use Rattle.plc_types.specs.declared.axis_state.AxisState.TheVariants as axis
use Rattle.plc_types.specs.declared.group.GroupRow.{GroupRow}
use Rattle.plc_types.specs.declared.group.GroupState.{GroupState}
use Rattle.plc_types.specs.declared.group.GroupState.TheVariants as group
use Rattle.motion_c.specs.Calls.{bit}
use Rattle.motion_c.specs.declared.looking.MotionAxisRow.{MotionAxisRow}
use Rattle.motion_c.specs.declared.looking.MotionGroupRow.{MotionGroupRow}

-- the states of an axis, by their numbers. PLCopen Motion Control Part 1, the state diagram
abbrev pub axis_state_number : AxisState → ℕ
axis_state_number axis.Disabled = 0
axis_state_number axis.Standstill = 1
axis_state_number axis.Homing = 2
axis_state_number axis.Stopping = 3
axis_state_number axis.DiscreteMotion = 4
axis_state_number axis.ContinuousMotion = 5
axis_state_number axis.SynchronizedMotion = 6
axis_state_number axis.ErrorStop = 7

-- the states of a group, by their numbers. PLCopen Motion Control Part 4, the state diagram
abbrev pub group_state_number : GroupState → ℕ
group_state_number group.GroupDisabled = 0
group_state_number group.GroupStandby = 1
group_state_number group.GroupMoving = 2
group_state_number group.GroupHoming = 3
group_state_number group.GroupStopping = 4
group_state_number group.GroupErrorStop = 5

-- the row of an axis as C has it
abbrev pub axis_shown : AxisRow → MotionAxisRow
axis_shown r = record {
  setpoint = r.setpoint;
  offset = r.offset;
  state = axis_state_number r.state;
  error = r.error;
  driven = bit r.driven;
}

-- the row of a group as C has it
abbrev pub group_shown : GroupRow → MotionGroupRow
group_shown r = record { state = group_state_number r.state; error = r.error }

-- which code a look at one of this many items answers: 0 where its row is there, 5 where there is
-- no such item, and else 10
pub record TellsLook {X : Type 0} (items n : ℕ) (row : Option X) (code : ℕ) : Type 0 where
  pub ok : (code ≡ 0) ↔ ((n < items) × (row ≢ None))
  pub unknown : (code ≡ 5) ↔ (items ≤ n)
  pub no_cycle : (code ≡ 10) ↔ ((n < items) × (row ≡ None))
