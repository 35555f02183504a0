-- The cycles of a plant: the drives' answers go in, no task is quiet, and a task lives. This
-- project's profile.
use Rattle.std.specs.Prelude.{◌≡◌, ℕ, ◌+◌, ◌<◌, List, [], ◌∷◌, ◌++◌, length, Some, slice_get}
use Rattle.plc_types.specs.declared.drive.DriveIn.{DriveIn}
use Rattle.drive_sim.specs.Runs.{drive_after}
use Rattle.drive_sim.specs.Sim.{DriveSim}
use Rattle.drive_sim.specs.Steps.{answer_of}
use Rattle.machine_drives.specs.Drives.{outputs_in}
use Rattle.motion_history.specs.Entries.{Entry, cycle, cycles_of}
use Rattle.motion_history.specs.Setup.{Setup}
use Rattle.motion_kernel.specs.Histories.{machine_after}
use Rattle.motion_kernel.specs.Tasks.{live_tasks, quiet_tasks}
use Rattle.motion_kernel.specs.cycles.Cycles as machine
use Rattle.motion_plant.specs.Makers.{Logged}

-- the machine's cycle after these entries, for these answers
abbrev pub cycle_with : Setup → List Entry → List DriveIn → Entry
cycle_with s before ins =
    cycle (cycles_of before + 1) (machine.cycled s (machine_after s before) ins).axes
    (machine.cycled s (machine_after s before) ins).groups

-- after this entry a task lives
abbrev pub IsAlive : Setup → Logged → Type 0
IsAlive s c = 0 < live_tasks s (c.before ++ c.entry ∷ [])

-- a cycle comes where no task is quiet, and takes the answers that the drives give after the cycles
-- before it
pub record IsDriven (s : Setup) (drives : List DriveSim) (c : Logged) : Type 0 where
  pub quiet : quiet_tasks s c.before ≡ 0
  pub ins : List DriveIn
  pub entry_is : c.entry ≡ cycle_with s c.before ins
  pub width : length ins ≡ length drives
  pub each : (i : ℕ) (d : DriveSim) → slice_get drives i ≡ Some d →
      slice_get ins i ≡ Some (answer_of (drive_after d (outputs_in i c.before)))
