-- How the fields of a trace are spelled.
use Rattle.std.specs.Prelude.{ℕ, ◌+◌, ◌/◌, ◌%◌, Bool, nat_lt, if◌then◌else◌, List, [], ◌∷◌, ◌++◌, codes}
use Rattle.plc_types.specs.declared.axis_state.AxisState.{AxisState}
use Rattle.plc_types.specs.declared.axis_state.AxisState.TheVariants as axis
use Rattle.plc_types.specs.declared.drive.DriveState.{DriveState}
use Rattle.plc_types.specs.declared.drive.DriveState.TheVariants as drive
use Rattle.plc_types.specs.declared.outputs.Outputs.{Outputs}
use Rattle.plc_types.specs.declared.group.GroupState.{GroupState}
use Rattle.plc_types.specs.declared.group.GroupState.TheVariants as group

-- a truth value is 0 or 1. This project's profile
unfoldable pub flag_text : Bool → List ℕ
flag_text b = if b then 49 ∷ [] else 48 ∷ []

-- a hexadecimal digit, in small letters. This project's profile
abbrev pub hex_digit : ℕ → ℕ
hex_digit n = if nat_lt n 10 then 48 + n else 87 + n

-- a word is four hexadecimal digits. This project's profile
unfoldable pub hex_text : ℕ → List ℕ
hex_text w =
    hex_digit (w / 4096) ∷ hex_digit (w / 256 % 16) ∷ hex_digit (w / 16 % 16) ∷ hex_digit (w % 16) ∷
    []

-- a letter where the output is true
abbrev pub letter_where : Bool → ℕ → List ℕ
letter_where b letter = if b then letter ∷ [] else []

-- the outputs are the letters of those that are true: Busy, Active, Done, commandAborted, Error,
-- Reached. This project's profile
unfoldable pub outputs_text : Outputs → List ℕ
outputs_text o =
    letter_where o.busy 66 ++ letter_where o.active 65 ++ letter_where o.done 68 ++
    letter_where o.aborted 67 ++ letter_where o.error 69 ++ letter_where o.reached 82

-- the names of the axis states. PLCopen Motion Control Part 1, the state diagram
unfoldable pub axis_state_text : AxisState → List ℕ
axis_state_text axis.Disabled = codes "Disabled"
axis_state_text axis.Standstill = codes "Standstill"
axis_state_text axis.Homing = codes "Homing"
axis_state_text axis.Stopping = codes "Stopping"
axis_state_text axis.DiscreteMotion = codes "DiscreteMotion"
axis_state_text axis.ContinuousMotion = codes "ContinuousMotion"
axis_state_text axis.SynchronizedMotion = codes "SynchronizedMotion"
axis_state_text axis.ErrorStop = codes "ErrorStop"

-- the names of the group states. PLCopen Motion Control Part 4, the state diagram
unfoldable pub group_state_text : GroupState → List ℕ
group_state_text group.GroupDisabled = codes "GroupDisabled"
group_state_text group.GroupStandby = codes "GroupStandby"
group_state_text group.GroupMoving = codes "GroupMoving"
group_state_text group.GroupHoming = codes "GroupHoming"
group_state_text group.GroupStopping = codes "GroupStopping"
group_state_text group.GroupErrorStop = codes "GroupErrorStop"

-- the names of the drive states. IEC 61800-7-201, the finite state automaton
unfoldable pub drive_state_text : DriveState → List ℕ
drive_state_text drive.NotReady = codes "NotReady"
drive_state_text drive.SwitchOnDisabled = codes "SwitchOnDisabled"
drive_state_text drive.ReadyToSwitchOn = codes "ReadyToSwitchOn"
drive_state_text drive.SwitchedOn = codes "SwitchedOn"
drive_state_text drive.OperationEnabled = codes "OperationEnabled"
drive_state_text drive.QuickStopActive = codes "QuickStopActive"
drive_state_text drive.FaultReactionActive = codes "FaultReactionActive"
drive_state_text drive.Fault = codes "Fault"
