-- A drive of a machine can be opened: its fault steps rise.
-- for: drives_can_be_opened
use Rattle.std.specs.Prelude.{◌≡◌, ℕ, true, List, [], ◌∷◌, nat_lt}
use Rattle.std.proofs.lemmas.Bool.{and_parts, ltb-true}
use Rattle.drive_sim.specs.Faults.{RisesAbove}
use Rattle.machine_drives.specs.Drives.{CanOpen}
use Rattle.motion_history.specs.Drives.{IsDrive, rise_above}
use Rattle.motion_history.specs.declared.drives.DriveDef.{DriveDef}

-- what rises for a reader rises for a drive
rises : (n : ℕ) (steps : List ℕ) → rise_above n steps ≡ true → RisesAbove n steps
rises n [] h = tt
rises n (step ∷ steps) h =
    let parts = and_parts (nat_lt n step) (rise_above step steps) h in
    (ltb-true _ _ parts.0, rises step steps parts.1)

pub can_open : (d : DriveDef) → IsDrive d → CanOpen d
can_open d is = record { lag = is.lag; few = is.few; rising = rises 0 d.faults is.rising }
