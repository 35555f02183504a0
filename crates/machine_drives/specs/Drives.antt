-- The drives of a machine: a simulated one for each axis, in step with the kernel.
use Rattle.std.specs.Prelude.{◌≤◌, ℕ, suc, pos, List, [], ◌∷◌, length, map, slice_index_or}
use Rattle.plc_types.specs.Counts.{count_of}
use Rattle.plc_types.specs.declared.axis.AxisDef.{AxisDef}
use Rattle.plc_types.specs.declared.axis.AxisRow.{AxisRow}
use Rattle.plc_types.specs.declared.drive.DriveOut.{DriveOut}
use Rattle.drive_sim.specs.Faults.{RisesAbove}
use Rattle.drive_sim.specs.Runs.{drive_after}
use Rattle.drive_sim.specs.Sim.{DriveSim}
use Rattle.drive_sim.specs.Steps.{drive_stepped, opened}
use Rattle.motion_history.specs.Columns.{no_row, rows_in}
use Rattle.motion_history.specs.Entries.{Entry}
use Rattle.motion_history.specs.declared.drives.DriveDef.{DriveDef}
use Rattle.motion_history.specs.declared.sizes.TheConstants.{MOST_FAULTS, MOST_LAG}
use Rattle.trace_text.specs.declared.drive_end.DriveEndRow.{DriveEndRow}

-- a simulated drive can be opened: it has a lag of at most 64 steps, and at most 1,000 faults, in
-- rising steps from 1. This project's profile
pub record CanOpen (d : DriveDef) : Type 0 where
  pub lag : d.lag ≤ MOST_LAG
  pub few : length d.faults ≤ MOST_FAULTS
  pub rising : RisesAbove 0 d.faults

-- the drive of an axis at opening: it stands at the axis's start. IEC 61800-7-201, object 6064h
unfoldable pub drive_at_opening : AxisDef → DriveDef → DriveSim
drive_at_opening a d = opened d.lag d.faults (count_of a.start (pos 0) a.inc) a.ready

-- the drives of some axes at opening
abbrev pub drives_at_opening : List AxisDef → List DriveDef → List DriveSim
drives_at_opening (a ∷ as_) (d ∷ ds) = drive_at_opening a d ∷ drives_at_opening as_ ds
drives_at_opening as_ ds = []

-- drives after a step, the first that of the axis of this number: each with its axis's output
abbrev pub drives_stepped : ℕ → List DriveSim → List DriveOut → List DriveSim
drives_stepped n [] outs = []
drives_stepped n (d ∷ ds) outs =
    drive_stepped d (slice_index_or outs n no_row.output) ∷ drives_stepped (suc n) ds outs

-- the outputs that an axis gave its drive, one a cycle
abbrev pub outputs_in : ℕ → List Entry → List DriveOut
outputs_in n es = map (λ (r : AxisRow). r.output) (rows_in n es)

-- drives after a history, the first that of the axis of this number: each after the outputs of its
-- axis
abbrev pub drives_after : ℕ → List DriveSim → List Entry → List DriveSim
drives_after n [] es = []
drives_after n (d ∷ ds) es = drive_after d (outputs_in n es) ∷ drives_after (suc n) ds es

-- what a drive took by the end: an output in each of this many cycles; and where it is then. This
-- project's profile
abbrev pub drive_end : ℕ → DriveSim → DriveEndRow
drive_end cycles d = record { taken = cycles; state = d.state; actual = d.actual }
