-- What the rows of a cycle show (this project's profile).
use Rattle.std.specs.Prelude.{◌≡◌, ℕ, Some, List, slice_get}
use Rattle.axis_core.specs.declared.axis.Axis.{Axis}
use Rattle.plc_types.specs.declared.axis.AxisRow.{AxisRow}
use Rattle.group_core.specs.declared.group.Group.{Group}
use Rattle.plc_types.specs.declared.group.GroupRow.{GroupRow}
use Rattle.motion_history.specs.Entries.{Entry, call, cycle, end_of}
use Rattle.motion_kernel.specs.Machine.{Machine, axis_at, group_at}

-- a row shows an axis: its state and error, whether it is driven, its setpoint and its offset
pub record ShowsAxis (r : AxisRow) (a : Axis) : Type 0 where
  pub state : r.state ≡ a.state
  pub error : r.error ≡ a.error
  pub driven : r.driven ≡ a.driven
  pub setpoint : r.setpoint ≡ a.setpoint
  pub offset : r.offset ≡ a.offset

-- a row shows a group: its state and its error
pub record ShowsGroup (r : GroupRow) (g : Group) : Type 0 where
  pub state : r.state ≡ g.state
  pub error : r.error ≡ g.error

-- rows show a machine, each the axis or the group of its number
pub record ShowMachine (m : Machine) (rows : List AxisRow) (grows : List GroupRow) : Type 0 where
  pub axes : (n : ℕ) (r : AxisRow) → slice_get rows n ≡ Some r → ShowsAxis r (axis_at m n)
  pub groups : (j : ℕ) (r : GroupRow) → slice_get grows j ≡ Some r →
      ShowsGroup r (group_at m j).group

-- the rows of a cycle show the machine after it; other entries have none
abbrev pub RowsShow : Machine → Entry → Type 0
RowsShow m (call k i reply) = Unit {0}
RowsShow m (cycle n rows grows) = ShowMachine m rows grows
RowsShow m (end_of task) = Unit {0}
