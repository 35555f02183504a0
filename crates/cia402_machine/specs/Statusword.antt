-- The state of a drive in its statusword.
use Rattle.std.specs.Prelude.{ℕ, List, [], ◌∷◌, Option, None, Some, if◌then◌else◌, codes}
use Rattle.cia402_machine.specs.Words.{fits}
use Rattle.plc_types.specs.declared.drive.DriveState.{DriveState}
use Rattle.plc_types.specs.declared.drive.DriveState.TheVariants.{NotReady, SwitchOnDisabled, ReadyToSwitchOn, SwitchedOn, OperationEnabled, QuickStopActive, FaultReactionActive, Fault}

-- bits 6 to 0 of the statusword in a state, x being free. IEC 61800-7-201, object 6041h
abbrev pub pattern_of : DriveState → List ℕ
pattern_of NotReady = codes "0xx0000"
pattern_of SwitchOnDisabled = codes "1xx0000"
pattern_of ReadyToSwitchOn = codes "01x0001"
pattern_of SwitchedOn = codes "01x0011"
pattern_of OperationEnabled = codes "01x0111"
pattern_of QuickStopActive = codes "00x0111"
pattern_of FaultReactionActive = codes "0xx1111"
pattern_of Fault = codes "0xx1000"

-- the statusword of a drive that is in a state. IEC 61800-7-201, object 6041h; which of its free
-- bits are set is this project's profile
abbrev pub status_of_state : DriveState → ℕ
status_of_state NotReady = 0x0000
status_of_state SwitchOnDisabled = 0x0040
status_of_state ReadyToSwitchOn = 0x0031
status_of_state SwitchedOn = 0x0033
status_of_state OperationEnabled = 0x0037
status_of_state QuickStopActive = 0x0017
status_of_state FaultReactionActive = 0x001f
status_of_state Fault = 0x0008

-- the first of some states whose pattern a statusword fits. IEC 61800-7-201, object 6041h
abbrev pub first_fitting : ℕ → List DriveState → Option DriveState
first_fitting word [] = None
first_fitting word (state ∷ states) = if fits word (pattern_of state) then Some state else first_fitting word states

-- the state that a statusword gives, if it gives one. IEC 61800-7-201, object 6041h
unfoldable pub state_of_word : ℕ → Option DriveState
state_of_word word = first_fitting word (NotReady ∷ SwitchOnDisabled ∷ ReadyToSwitchOn ∷ SwitchedOn ∷
    OperationEnabled ∷ QuickStopActive ∷ FaultReactionActive ∷ Fault ∷ [])
