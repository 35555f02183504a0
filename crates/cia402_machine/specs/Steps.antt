-- The steps of a drive: at most one transition each.
use Rattle.std.specs.Prelude.{ℕ, Bool, true, false, List, [], ◌∷◌, Option, None, Some}
use Rattle.std.specs.Option.{unwrap_or}
use Rattle.cia402_machine.specs.Controlword.{command_of_words}
use Rattle.cia402_machine.specs.Transitions.{Cause, AFault, Itself, Asked, transition_of}
use Rattle.cia402_machine.specs.declared.command.Command.{Command}
use Rattle.plc_types.specs.declared.drive.DriveState.{DriveState}

-- what acts on a drive in a step, the stronger first: a fault, the drive by itself, a command. IEC
-- 61800-7-201, the finite state automaton; their order within a step is this project's profile
abbrev pub causes_of : Bool → Option Command → List Cause
causes_of true None = AFault ∷ Itself ∷ []
causes_of true (Some command) = AFault ∷ Itself ∷ Asked command ∷ []
causes_of false None = Itself ∷ []
causes_of false (Some command) = Itself ∷ Asked command ∷ []

-- the state after a step: the first cause that leads anywhere decides, and where none does the
-- state stays. This project's profile
abbrev pub stepped_by : DriveState → List Cause → DriveState
stepped_by state [] = state
stepped_by state (cause ∷ causes) = unwrap_or (transition_of state cause) (stepped_by state causes)

-- the state after a step in which a drive is given a controlword, by the last controlword and
-- whether there is a fault. IEC 61800-7-201, the finite state automaton
unfoldable pub drive_step_of : DriveState → ℕ → ℕ → Bool → DriveState
drive_step_of state last controlword fault = stepped_by state (causes_of fault (command_of_words last controlword))
