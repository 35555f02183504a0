-- In which state an axis is (PLCopen Motion Control Part 1, the state diagram).
use Rattle.std.specs.Prelude.{Bool, true, false}
use Rattle.plc_types.specs.declared.axis_state.AxisState.{AxisState}
use Rattle.plc_types.specs.declared.axis_state.AxisState.TheVariants as state

-- whether it is Disabled
abbrev pub is_disabled : AxisState → Bool
is_disabled state.Disabled = true
is_disabled s = false

-- whether it is in ErrorStop
abbrev pub is_error_stop : AxisState → Bool
is_error_stop state.ErrorStop = true
is_error_stop s = false

-- whether it is in Stopping
abbrev pub is_stopping : AxisState → Bool
is_stopping state.Stopping = true
is_stopping s = false

-- whether it is in Homing
abbrev pub is_homing : AxisState → Bool
is_homing state.Homing = true
is_homing s = false

-- whether it is in SynchronizedMotion
abbrev pub is_synchronized : AxisState → Bool
is_synchronized state.SynchronizedMotion = true
is_synchronized s = false

-- whether it is in Standstill
abbrev pub is_standstill : AxisState → Bool
is_standstill state.Standstill = true
is_standstill s = false
