-- What the answer of a drive says (IEC 61800-7-201, objects 6041h, 6061h and 6064h).
use Rattle.std.specs.Prelude.{ℕ, Bool, true, false, ◌&&◌, ◌||◌, not, if◌then◌else◌, ℤ, Option, Some, None}
use Rattle.std.specs.Ordering.{int_eq}
use Rattle.plc_types.specs.Counts.{place_of}
use Rattle.cia402_machine.specs.Statusword.{state_of_word}
use Rattle.cia402_machine.specs.Transitions.{is_faulty}
use Rattle.plc_types.specs.declared.drive.TheConstants.{CYCLIC_SYNCHRONOUS_POSITION}
use Rattle.plc_types.specs.declared.drive.DriveIn.{DriveIn}
use Rattle.plc_types.specs.declared.drive.DriveState.{DriveState}
use Rattle.plc_types.specs.declared.drive.DriveState.TheVariants.{OperationEnabled}
use Rattle.motion_numbers.specs.Ranges.{is_outside}
use Rattle.axis_state.specs.States.{is_error_stop}
use Rattle.axis_core.specs.blocks.Power.{state_when_driven, is_powered}
use Rattle.axis_core.specs.declared.axis.Axis.{Axis}

-- whether a drive that reads so may take setpoints
abbrev pub is_enabled : Option DriveState → Bool
is_enabled (Some OperationEnabled) = true
is_enabled s = false

-- whether an answer is operational: Operation enabled, in cyclic synchronous position mode
abbrev pub is_operational : DriveIn → Bool
is_operational input =
    is_enabled (state_of_word input.statusword)
    && int_eq input.mode_display CYCLIC_SYNCHRONOUS_POSITION

-- whether a drive that reads so reacts to a fault or has one
abbrev pub reads_fault : Option DriveState → Bool
reads_fault None = false
reads_fault (Some s) = is_faulty s

-- whether an answer reports a fault
abbrev pub has_fault : DriveIn → Bool
has_fault input = reads_fault (state_of_word input.statusword)

-- where the drive stands
abbrev pub actual_of : Axis → DriveIn → ℤ
actual_of a input = place_of a.limits.lo input.actual a.offset a.inc

-- whether the drive stands within the limits. This project's profile
abbrev pub is_within : Axis → DriveIn → Bool
is_within a input = not (is_outside a.limits.lo (actual_of a input) a.limits.hi)

-- whether the axis is driven in a cycle: power is on, the answer is operational, and it was driven
-- before or stands within its limits. This project's profile
abbrev pub is_driven : Axis → DriveIn → Bool
is_driven a input = is_powered a && is_operational input && (a.driven || is_within a input)

-- the error that an answer brings: a fault (101); a lost drive (102), which was driven and is not
-- operational any more with power on; a drive that would be driven from outside the limits (105).
-- This project's profile
abbrev pub new_error_of : Axis → DriveIn → ℕ
new_error_of a input =
    if has_fault input then 101
    else if is_powered a && a.driven && not (is_operational input) then 102
    else if is_powered a && is_operational input && not a.driven && not (is_within a input) then 105
    else 0

-- an axis in ErrorStop gets no further error. This project's profile
unfoldable pub answer_error_of : Axis → DriveIn → ℕ
answer_error_of a input = if is_error_stop a.state then 0 else new_error_of a input

-- an axis that is not driven, or begins to be, stands where its drive does. This project's profile
abbrev pub axis_at_drive : Bool → DriveIn → Axis → Axis
axis_at_drive driven input a = record a {
  state = state_when_driven driven a.state;
  driven = driven;
  previous = actual_of a input;
  setpoint = actual_of a input;
}
