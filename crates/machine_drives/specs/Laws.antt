-- How drives follow the outputs of a history.
use Rattle.std.specs.Prelude.{◌≡◌, ℕ, List, [], ◌∷◌, ◌++◌, map}
use Rattle.plc_types.specs.declared.axis.AxisRow.{AxisRow}
use Rattle.drive_sim.specs.Sim.{DriveSim}
use Rattle.plc_types.specs.declared.group.GroupRow.{GroupRow}
use Rattle.motion_history.specs.Columns.{rows_in}
use Rattle.motion_history.specs.Entries.{Entry, cycle}
use Rattle.machine_drives.specs.Drives.{drives_after, drives_stepped}

-- drives are as they opened before the first entry, a step further after a cycle, and the same
-- after an entry without rows
pub record FollowOutputs : Type 0 where
  pub first : (ds : List DriveSim) → drives_after 0 ds [] ≡ ds
  pub further : (ds : List DriveSim) (es : List Entry) (n : ℕ) (rows : List AxisRow)
      (grows : List GroupRow) →
      drives_after 0 ds (es ++ cycle n rows grows ∷ []) ≡
      drives_stepped 0 (drives_after 0 ds es) (map (λ (r : AxisRow). r.output) rows)
  pub same : (ds : List DriveSim) (es : List Entry) (e : Entry) →
      ((n : ℕ) → rows_in n (e ∷ []) ≡ []) →
      drives_after 0 ds (es ++ e ∷ []) ≡ drives_after 0 ds es
