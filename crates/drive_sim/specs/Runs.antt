-- A simulated drive over a list of outputs.
use Rattle.std.specs.Prelude.{◌≡◌, ℕ, ◌+◌, ◌-◌, nat_lt, ℤ, true, List, [], ◌∷◌, length, slice_index_or, if◌then◌else◌}
use Rattle.plc_types.specs.declared.drive.DriveIn.{DriveIn}
use Rattle.plc_types.specs.declared.drive.DriveOut.{DriveOut}
use Rattle.drive_sim.specs.Sim.{DriveSim}
use Rattle.drive_sim.specs.Steps.{answer_of, keeps_target, drive_stepped}

-- a drive after outputs, one step for each. This project's profile
abbrev pub drive_after : DriveSim → List DriveOut → DriveSim
drive_after sim [] = sim
drive_after sim (out ∷ outs) = drive_after (drive_stepped sim out) outs

-- what a drive answers over outputs: before the first, and after each. This project's profile
abbrev pub answers_of : DriveSim → List DriveOut → List DriveIn
answers_of sim [] = answer_of sim ∷ []
answers_of sim (out ∷ outs) = answer_of sim ∷ answers_of (drive_stepped sim out) outs

-- each step keeps its target. This project's profile
abbrev pub KeepsAll : DriveSim → List DriveOut → Type 0
KeepsAll sim [] = Unit {0}
KeepsAll sim (out ∷ outs) = (keeps_target sim out ≡ true) × KeepsAll (drive_stepped sim out) outs

-- the target that lies as many targets before the last as a lag says, or another count where there
-- are fewer. This project's profile
abbrev pub lagging : ℕ → List ℤ → ℤ → ℤ
lagging lag targets count =
    if nat_lt lag (length targets)
    then slice_index_or targets (length targets - (lag + 1)) count
    else count
