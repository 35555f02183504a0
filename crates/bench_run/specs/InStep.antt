-- The drives of a bench in step with a history. This project's profile.
use Rattle.std.specs.Prelude.{◌≡◌, ℕ, List, ◌∷◌, ◌++◌, map}
use Rattle.plc_types.specs.declared.axis.AxisRow.{AxisRow}
use Rattle.bench_text.specs.BenchState.{BenchState}
use Rattle.drive_sim.specs.Sim.{DriveSim}
use Rattle.drive_sim.specs.Steps.{answer_of}
use Rattle.plc_types.specs.declared.group.GroupRow.{GroupRow}
use Rattle.machine_drives.specs.Drives.{drives_after, drives_at_opening}
use Rattle.motion_history.specs.Entries.{Entry, cycle}
use Rattle.motion_history.specs.Setup.{Setup}
use Rattle.motion_kernel.specs.cycles.Cycles.{cycled}
use Rattle.motion_kernel.specs.Histories.{machine_after}
use Rattle.bench_run.specs.Run.{Run, run_of}

-- ---- of any run

-- the axes' rows in a cycle after a history, with the answers of the drives that were these at
-- opening
abbrev pub axis_rows : Setup → List DriveSim → List Entry → List AxisRow
axis_rows s ds es =
    (cycled s (machine_after s es) (map answer_of (drives_after 0 ds es))).axes

-- the rows of each cycle are the machine's with the answers of the drives after the cycles before
-- it
abbrev pub Takes : Setup → List DriveSim → List Entry → Type 0
Takes s ds es = (before more : List Entry) (n : ℕ) (rows : List AxisRow) (grows : List GroupRow) →
    es ≡ before ++ cycle n rows grows ∷ more → rows ≡ axis_rows s ds before

-- the drives of a run are where its history leads them, and each of its cycles takes their answers
pub record AreInStep (s : Setup) (ds : List DriveSim) (r : Run) : Type 0 where
  pub drives : r.drives ≡ drives_after 0 ds r.history
  pub takes : Takes s ds r.history

-- ---- of the run of a bench

-- the simulated drives of a bench after a history, each by the outputs of its axis
abbrev pub drives_of : BenchState → List Entry → List DriveSim
drives_of b es = drives_after 0 (drives_at_opening b.config.axes b.drives) es

-- the rows of each cycle of a bench are the machine's with the answers of its drives
abbrev pub TakesAnswers : BenchState → List Entry → Type 0
TakesAnswers b es = Takes b.config (drives_at_opening b.config.axes b.drives) es

-- the drives of a bench's run are where its history leads them, and each of its cycles takes their
-- answers
pub record IsInStep (b : BenchState) : Type 0 where
  pub drives : (run_of b).drives ≡ drives_of b (run_of b).history
  pub answers : TakesAnswers b (run_of b).history
