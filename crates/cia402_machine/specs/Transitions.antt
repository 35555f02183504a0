-- The transitions of a drive.
use Rattle.std.specs.Prelude.{◌≡◌, Bool, true, false, Option, None, Some}
use Rattle.plc_types.specs.declared.drive.DriveState.{DriveState}
use Rattle.plc_types.specs.declared.drive.DriveState.TheVariants.{NotReady, SwitchOnDisabled, ReadyToSwitchOn, SwitchedOn, OperationEnabled, QuickStopActive, FaultReactionActive, Fault}
use Rattle.cia402_machine.specs.declared.command.Command.{Command}
use Rattle.cia402_machine.specs.declared.command.Command.TheVariants.{Shutdown, SwitchOn, EnableOperation, DisableVoltage, QuickStop, FaultReset}

-- what causes a transition: a fault, the drive by itself, or a command. IEC 61800-7-201, the finite
-- state automaton
pub data Cause : Type 0 where
  AFault : Cause
  Itself : Cause
  Asked : Command → Cause

-- where a cause leads from a state, by the transitions 1 to 15; None where it leads nowhere. IEC
-- 61800-7-201, the finite state automaton; that enable operation leads from Ready to Switched on is
-- this project's profile
abbrev pub transition_of : DriveState → Cause → Option DriveState
transition_of NotReady Itself = Some SwitchOnDisabled  -- 1
transition_of SwitchOnDisabled (Asked Shutdown) = Some ReadyToSwitchOn  -- 2
transition_of ReadyToSwitchOn (Asked SwitchOn) = Some SwitchedOn  -- 3
transition_of ReadyToSwitchOn (Asked EnableOperation) = Some SwitchedOn  -- 3
transition_of SwitchedOn (Asked EnableOperation) = Some OperationEnabled  -- 4
transition_of OperationEnabled (Asked SwitchOn) = Some SwitchedOn  -- 5
transition_of SwitchedOn (Asked Shutdown) = Some ReadyToSwitchOn  -- 6
transition_of ReadyToSwitchOn (Asked QuickStop) = Some SwitchOnDisabled  -- 7
transition_of ReadyToSwitchOn (Asked DisableVoltage) = Some SwitchOnDisabled  -- 7
transition_of OperationEnabled (Asked Shutdown) = Some ReadyToSwitchOn  -- 8
transition_of OperationEnabled (Asked DisableVoltage) = Some SwitchOnDisabled  -- 9
transition_of SwitchedOn (Asked QuickStop) = Some SwitchOnDisabled  -- 10
transition_of SwitchedOn (Asked DisableVoltage) = Some SwitchOnDisabled  -- 10
transition_of OperationEnabled (Asked QuickStop) = Some QuickStopActive  -- 11
transition_of QuickStopActive (Asked DisableVoltage) = Some SwitchOnDisabled  -- 12
transition_of NotReady AFault = Some FaultReactionActive  -- 13
transition_of SwitchOnDisabled AFault = Some FaultReactionActive  -- 13
transition_of ReadyToSwitchOn AFault = Some FaultReactionActive  -- 13
transition_of SwitchedOn AFault = Some FaultReactionActive  -- 13
transition_of OperationEnabled AFault = Some FaultReactionActive  -- 13
transition_of QuickStopActive AFault = Some FaultReactionActive  -- 13
transition_of FaultReactionActive Itself = Some Fault  -- 14
transition_of Fault (Asked FaultReset) = Some SwitchOnDisabled  -- 15
transition_of state cause = None

-- a cause leads from a state to another. IEC 61800-7-201, the finite state automaton
abbrev pub IsTransition : DriveState → Cause → DriveState → Type 0
IsTransition state cause next = transition_of state cause ≡ Some next

-- a drive that reacts to a fault or has one. IEC 61800-7-201, the finite state automaton
abbrev pub is_faulty : DriveState → Bool
is_faulty FaultReactionActive = true
is_faulty Fault = true
is_faulty state = false
