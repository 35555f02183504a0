-- The state of a simulated drive.
use Rattle.std.specs.Prelude.{ℕ, ℤ, List}
use Rattle.plc_types.specs.declared.drive.DriveState.{DriveState}

-- a simulated drive: its lag and its fault steps; how many steps it made; its state, last
-- controlword, mode display and actual count; and the last of the targets kept since it is in
-- Operation enabled, at most as many as the lag, the oldest first. This project's profile
pub record DriveSim : Type 0 where
  pub lag : ℕ
  pub faults : List ℕ
  pub steps : ℕ
  pub state : DriveState
  pub last : ℕ
  pub mode_display : ℤ
  pub actual : ℤ
  pub kept : List ℤ
