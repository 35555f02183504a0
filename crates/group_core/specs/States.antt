-- In which state a group and its axes are (PLCopen Motion Control Part 4 and Part 1).
use Rattle.std.specs.Prelude.{Bool, true, false}
use Rattle.plc_types.specs.declared.axis_state.AxisState.{AxisState}
use Rattle.plc_types.specs.declared.axis_state.AxisState.TheVariants as axis
use Rattle.plc_types.specs.declared.group.GroupState.{GroupState}
use Rattle.plc_types.specs.declared.group.GroupState.TheVariants as state

-- whether a group is in GroupStopping
abbrev pub is_stopping : GroupState → Bool
is_stopping state.GroupStopping = true
is_stopping s = false

-- whether it is in GroupErrorStop
abbrev pub is_error_stop : GroupState → Bool
is_error_stop state.GroupErrorStop = true
is_error_stop s = false

-- whether an error of a member, or its Power with Enable false, stops the group
abbrev pub may_fail : GroupState → Bool
may_fail state.GroupStandby = true
may_fail state.GroupMoving = true
may_fail state.GroupStopping = true
may_fail s = false

-- whether an axis is not in Standstill
abbrev pub is_moved : AxisState → Bool
is_moved axis.Standstill = false
is_moved s = true
