-- The drives of a machine. This project's profile.
use Rattle.std.specs.Prelude.{◌≤◌, ℕ, Bool, true, ◌&&◌, nat_lt, IsTrue, List, [], ◌∷◌, length}
use Rattle.motion_history.specs.declared.drives.DriveDef.{DriveDef}
use Rattle.motion_history.specs.declared.sizes.TheConstants.{MOST_FAULTS, MOST_LAG}

-- a drive without a lag and faults
abbrev pub plain_drive : DriveDef
plain_drive = record { lag = 0; faults = [] }

-- whether numbers rise, the first above this one
abbrev pub rise_above : ℕ → List ℕ → Bool
rise_above n [] = true
rise_above n (step ∷ steps) = nat_lt n step && rise_above step steps

-- a drive has a lag of at most 64 steps, and at most 1,000 faults, in rising steps from 1
pub record IsDrive (d : DriveDef) : Type 0 where
  pub lag : d.lag ≤ MOST_LAG
  pub few : length d.faults ≤ MOST_FAULTS
  pub rising : IsTrue (rise_above 0 d.faults)
