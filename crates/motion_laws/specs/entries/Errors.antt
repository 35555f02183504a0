-- What the rows of a cycle show of errors (PLCopen Motion Control Part 1 and Part 4, the state
-- diagrams).
use Rattle.std.specs.Prelude.{◌≡◌, ℕ, true, false, Some, List, slice_get}
use Rattle.axis_core.specs.Shown.{IsAxisError}
use Rattle.axis_state.specs.States as axis
use Rattle.plc_types.specs.declared.axis.AxisRow.{AxisRow}
use Rattle.group_core.specs.Shown.{IsGroupError}
use Rattle.group_core.specs.States as group
use Rattle.plc_types.specs.declared.group.GroupRow.{GroupRow}
use Rattle.motion_history.specs.Entries.{Entry, call, cycle, end_of}

-- the row of an axis shows the number of an axis error exactly in ErrorStop, and else 0
pub record ShowsAxisError (r : AxisRow) : Type 0 where
  pub stopped : axis.is_error_stop r.state ≡ true → IsAxisError r.error
  pub clear : axis.is_error_stop r.state ≡ false → r.error ≡ 0

-- the row of a group shows the number of a group error exactly in GroupErrorStop, and else 0
pub record ShowsGroupError (r : GroupRow) : Type 0 where
  pub stopped : group.is_error_stop r.state ≡ true → IsGroupError r.error
  pub clear : group.is_error_stop r.state ≡ false → r.error ≡ 0

-- so does each row
pub record ShowErrors (rows : List AxisRow) (grows : List GroupRow) : Type 0 where
  pub axes : (n : ℕ) (r : AxisRow) → slice_get rows n ≡ Some r → ShowsAxisError r
  pub groups : (j : ℕ) (r : GroupRow) → slice_get grows j ≡ Some r → ShowsGroupError r

-- the rows of a cycle show errors exactly in the states of errors; other entries have none
abbrev pub ErrorsShow : Entry → Type 0
ErrorsShow (call k i reply) = Unit {0}
ErrorsShow (cycle n rows grows) = ShowErrors rows grows
ErrorsShow (end_of task) = Unit {0}
