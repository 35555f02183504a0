-- What each drive took, by its log, is what its outputs lead to.
-- for: run_files
use Rattle.std.specs.Prelude.{◌≡◌, refl, ℕ, suc, ◌+◌, Some, List, [], ◌∷◌, length, map, slice_get, Option}
use Rattle.std.specs.Option.{unwrap_or}
use Rattle.std.proofs.Common.{◌∙◌, ap, subst, arith}
use Rattle.cia402_machine.specs.Statusword.{state_of_word, status_of_state}
use Rattle.plc_types.specs.declared.drive.DriveIn.{DriveIn}
use Rattle.plc_types.specs.declared.drive.DriveState.{DriveState}
use Rattle.plc_types.specs.declared.drive.DriveState.TheVariants.{NotReady}
use Rattle.drive_sim.specs.Runs.{drive_after}
use Rattle.drive_sim.specs.Sim.{DriveSim}
use Rattle.drive_sim.specs.Steps.{answer_of}
use Rattle.machine_drives.specs.Drives.{drive_end, drives_after, outputs_in}
use Rattle.motion_history.specs.Entries.{Entry, cycles_of}
use Rattle.motion_plant.specs.Ran.{DriveMeets}
use Rattle.setpoint_ring.specs.declared.logs.DriveLog.{DriveLog}
use Rattle.trace_text.specs.declared.drive_end.DriveEndRow.{DriveEndRow}
use Rattle.run_job.specs.Plans.{end_row}

-- statuswords are read back
abbrev pub AreReadBack : Type 0
AreReadBack = (state : DriveState) → state_of_word (status_of_state state) ≡ Some state

-- a row by a number of outputs and the last answer
abbrev row_by : ℕ → DriveIn → DriveEndRow
row_by n a = record {
  taken = n;
  state = unwrap_or (state_of_word a.statusword) NotReady;
  actual = a.actual;
}

row-same : AreReadBack → (g : DriveLog) (d : DriveSim) (n : ℕ) → g.taken ≡ n →
    g.last ≡ answer_of d → end_row g ≡ drive_end n d
row-same back g d n taken last =
    let count : row_by g.taken g.last ≡ row_by n g.last = ap (λ k. row_by k g.last) taken in
    let answer : row_by n g.last ≡ row_by n (answer_of d) = ap (row_by n) last in
    let state : row_by n (answer_of d) ≡ drive_end n d =
    ap (λ (s : Option DriveState). record {
      taken = n;
      state = unwrap_or s NotReady;
      actual = d.actual;
    }) (back d.state) in
    count ∙ answer ∙ state

-- two lists with the same head and tail
cons-same : {A : Type 0} (x y : A) (xs ys : List A) → x ≡ y → xs ≡ ys → x ∷ xs ≡ y ∷ ys
cons-same x y xs ys e es = cc

-- the logs of drives that each took its column
pub rows-same : AreReadBack → (h : List Entry) (n : ℕ) (ds : List DriveSim) (gs : List DriveLog) →
    length gs ≡ length ds →
    ((i : ℕ) (d : DriveSim) (g : DriveLog) → slice_get ds i ≡ Some d → slice_get gs i ≡ Some g →
    DriveMeets d (n + i) h g) →
    map end_row gs ≡ map (drive_end (cycles_of h)) (drives_after n ds h)
rows-same back h n [] [] e meets = refl
rows-same back h n [] (g ∷ gs) e meets = absurd (cc)
rows-same back h n (d ∷ ds) [] e meets = absurd (cc)
rows-same back h n (d ∷ ds) (g ∷ gs) e meets =
    let more : length gs ≡ length ds = omega arith in
    let first : DriveMeets d n h g =
    let here : n + 0 ≡ n = omega arith in
    subst (λ k. DriveMeets d k h g) here (meets 0 d g refl refl) in
    let later : (i : ℕ) (x : DriveSim) (y : DriveLog) → slice_get ds i ≡ Some x →
    slice_get gs i ≡ Some y → DriveMeets x (suc n + i) h y =
    λ i x y a b. let there : n + suc i ≡ suc n + i = omega arith in
    subst (λ k. DriveMeets x k h y) there (meets (suc i) x y a b) in
    cons-same _ _ _ _
    (row-same back g (drive_after d (outputs_in n h)) (cycles_of h) first.taken first.last)
    (rows-same back h (suc n) ds gs more later)
