-- A drive that is given the kernel's controlwords.
use Rattle.std.specs.Prelude.{ℕ, Bool, true, false, List, [], ◌∷◌}
use Rattle.cia402_machine.specs.Statusword.{state_of_word, status_of_state}
use Rattle.cia402_machine.specs.Controlword.{next_controlword_of}
use Rattle.cia402_machine.specs.Steps.{drive_step_of}
use Rattle.plc_types.specs.declared.drive.DriveState.{DriveState}

-- a drive and the last controlword that it was given. This project's profile
pub record Commanded : Type 0 where
  pub state : DriveState
  pub last : ℕ

-- what a cycle may bring besides: power on, a pending Reset, a fault. This project's profile
pub record Wishes : Type 0 where
  pub power : Bool
  pub reset : Bool
  pub fault : Bool

-- the controlword that answers a drive's statusword. This project's profile
abbrev pub answered : Wishes → Commanded → ℕ
answered wishes drive = next_controlword_of (state_of_word (status_of_state drive.state)) wishes.power wishes.reset drive.last

-- the drive after a step by the controlword that answers its statusword. This project's profile
abbrev pub commanded : Wishes → Commanded → Commanded
commanded wishes drive = record {
  state = drive_step_of drive.state drive.last (answered wishes drive) wishes.fault;
  last = answered wishes drive;
}

-- the drive after steps with power on and no fault, and whether a Reset is pending in each. This
-- project's profile
abbrev pub commanded_on : List Bool → Commanded → Commanded
commanded_on [] drive = drive
commanded_on (reset ∷ resets) drive = commanded_on resets (commanded (record { power = true; reset = reset; fault = false }) drive)
