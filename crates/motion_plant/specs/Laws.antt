-- What a plant's run says of each cycle of its history.
use Rattle.std.specs.Prelude.{◌≡◌, ℕ, ◌<◌, List, [], ◌∷◌, ◌++◌}
use Rattle.plc_types.specs.declared.axis.AxisRow.{AxisRow}
use Rattle.drive_sim.specs.Sim.{DriveSim}
use Rattle.plc_types.specs.declared.group.GroupRow.{GroupRow}
use Rattle.motion_history.specs.Entries.{Entry, cycle, cycles_of}
use Rattle.motion_history.specs.Setup.{Setup}
use Rattle.motion_kernel.specs.Tasks.{live_tasks}
use Rattle.motion_plant.specs.Driven.{IsDriven}

-- each cycle comes where no task is quiet, and takes the answers that the drives give after the
-- cycles before it
abbrev pub AreDriven : Setup → List DriveSim → List Entry → Type 0
AreDriven s drives h = (before more : List Entry) (n : ℕ) (rows : List AxisRow)
    (grows : List GroupRow) → h ≡ before ++ cycle n rows grows ∷ more →
    IsDriven s drives (record { before = before; entry = cycle n rows grows })

-- after each cycle but the last a task lives
abbrev pub AreInTime : Setup → List Entry → Type 0
AreInTime s h = (before more : List Entry) (n : ℕ) (rows : List AxisRow) (grows : List GroupRow) →
    h ≡ before ++ cycle n rows grows ∷ more → 0 < cycles_of more →
    0 < live_tasks s (before ++ cycle n rows grows ∷ [])
