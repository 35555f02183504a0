-- The drives of a machine, a step after another.
-- for: drives_follow_their_outputs, open_drives, step_all
use Rattle.std.specs.Prelude.{◌≡◌, refl, ℕ, zero, suc, ◌+◌, ◌<◌, nat_lt, true, List, [], ◌∷◌, ◌++◌, length, map, take, drop, slice_index_or, slice_set}
use Rattle.std.proofs.Common.{◌∙◌, sym, ap, arith}
use Rattle.std.proofs.lemmas.List.{append_assoc, drop_more, get_or_at, length-take-le, set_at}
use Rattle.std.proofs.lemmas.Bool.{and_parts, ltb-true}
use Rattle.plc_types.specs.declared.axis.AxisDef.{AxisDef}
use Rattle.plc_types.specs.declared.axis.AxisRow.{AxisRow}
use Rattle.plc_types.specs.declared.drive.DriveOut.{DriveOut}
use Rattle.drive_sim.specs.Runs.{drive_after}
use Rattle.drive_sim.specs.Sim.{DriveSim}
use Rattle.drive_sim.specs.Steps.{drive_stepped}
use Rattle.plc_types.specs.declared.group.GroupRow.{GroupRow}
use Rattle.motion_history.specs.Columns.{no_row, rows_in}
use Rattle.motion_history.specs.Entries.{Entry, call, cycle, end_of}
use Rattle.motion_history.specs.declared.drives.DriveDef.{DriveDef}
use Rattle.machine_drives.specs.Laws.{FollowOutputs}
use Rattle.machine_drives.specs.Drives.{drive_at_opening, drives_after, drives_at_opening, drives_stepped, outputs_in}

-- the output of a row that may not be there
output-at : (rows : List AxisRow) (n : ℕ) →
    slice_index_or (map (λ (r : AxisRow). r.output) rows) n no_row.output ≡
    (slice_index_or rows n no_row).output
output-at [] n = refl
output-at (r ∷ rows) zero = refl
output-at (r ∷ rows) (suc n) = output-at rows n

-- a cycle more is an output more of each axis
outputs-more : (n : ℕ) (es : List Entry) (c : ℕ) (rows : List AxisRow) (grows : List GroupRow) →
    outputs_in n (es ++ cycle c rows grows ∷ []) ≡
    outputs_in n es ++ slice_index_or (map (λ (r : AxisRow). r.output) rows) n no_row.output ∷ []
outputs-more n [] c rows grows = ap (λ o. o ∷ []) (sym (output-at rows n))
outputs-more n (call k i o ∷ es) c rows grows = outputs-more n es c rows grows
outputs-more n (cycle m axes groups ∷ es) c rows grows =
    ap (λ os. (slice_index_or axes n no_row).output ∷ os) (outputs-more n es c rows grows)
outputs-more n (end_of t ∷ es) c rows grows = outputs-more n es c rows grows

drive_after-more : (d : DriveSim) (outs : List DriveOut) (o : DriveOut) →
    drive_after d (outs ++ o ∷ []) ≡ drive_stepped (drive_after d outs) o
drive_after-more d [] o = refl
drive_after-more d (x ∷ outs) o = drive_after-more (drive_stepped d x) outs o

-- after a cycle more each drive is a step further
drives-more : (n : ℕ) (ds : List DriveSim) (es : List Entry) (c : ℕ) (rows : List AxisRow)
    (grows : List GroupRow) →
    drives_after n ds (es ++ cycle c rows grows ∷ []) ≡
    drives_stepped n (drives_after n ds es) (map (λ (r : AxisRow). r.output) rows)
drives-more n [] es c rows grows = refl
drives-more n (d ∷ ds) es c rows grows =
    let head = ap (drive_after d) (outputs-more n es c rows grows) ∙
    drive_after-more d (outputs_in n es) _ in
    let tail = drives-more (suc n) ds es c rows grows in
    λ i. head i ∷ tail i

-- another entry changes no drive
outputs-same : (e : Entry) → ((n : ℕ) → rows_in n (e ∷ []) ≡ []) → (n : ℕ) (es : List Entry) →
    outputs_in n (es ++ e ∷ []) ≡ outputs_in n es
outputs-same e none n [] = ap (map (λ (r : AxisRow). r.output)) (none n)
outputs-same e none n (call k i o ∷ es) = outputs-same e none n es
outputs-same e none n (cycle m axes groups ∷ es) =
    ap (λ os. (slice_index_or axes n no_row).output ∷ os) (outputs-same e none n es)
outputs-same e none n (end_of t ∷ es) = outputs-same e none n es

drives-same : (e : Entry) → ((n : ℕ) → rows_in n (e ∷ []) ≡ []) → (n : ℕ) (ds : List DriveSim)
    (es : List Entry) → drives_after n ds (es ++ e ∷ []) ≡ drives_after n ds es
drives-same e none n [] es = refl
drives-same e none n (d ∷ ds) es =
    let head = ap (drive_after d) (outputs-same e none n es) in
    let tail = drives-same e none (suc n) ds es in
    λ i. head i ∷ tail i

-- before the first cycle each drive is as it opened
drives-first : (n : ℕ) (ds : List DriveSim) → drives_after n ds [] ≡ ds
drives-first n [] = refl
drives-first n (d ∷ ds) = ap (λ t. d ∷ t) (drives-first (suc n) ds)

-- one drive more makes its step
stepped-next : (n : ℕ) (ds : List DriveSim) (outs : List DriveOut) (i k : ℕ) (d : DriveSim) →
    i < length ds → k ≡ n + i →
    drives_stepped n (take (suc i) ds) outs ≡ drives_stepped n (take i ds) outs ++ drive_stepped
    (slice_index_or ds i d) (slice_index_or outs k no_row.output) ∷ []
stepped-next n [] outs i k d l e = absurd (omega arith)
stepped-next n (x ∷ ds) outs zero k d l e =
    let same : n ≡
    k = omega arith in ap (λ m. drive_stepped x (slice_index_or outs m no_row.output) ∷ []) same
stepped-next n (x ∷ ds) outs (suc i) k d l e =
    ap (λ t. drive_stepped x (slice_index_or outs n no_row.output) ∷ t)
    (stepped-next (suc n) ds outs i k d (omega arith) (omega arith))

-- one drive more is opened
opening-next : (xs : List AxisDef) (ds : List DriveDef) (i : ℕ) (a : AxisDef) (d : DriveDef) →
    i < length xs → i < length ds →
    drives_at_opening (take (suc i) xs) (take (suc i) ds) ≡ drives_at_opening (take i xs)
    (take i ds) ++ drive_at_opening (slice_index_or xs i a) (slice_index_or ds i d) ∷ []
opening-next [] ds i a d l m = absurd (omega arith)
opening-next (x ∷ xs) [] i a d l m = absurd (omega arith)
opening-next (x ∷ xs) (y ∷ ds) zero a d l m = refl
opening-next (x ∷ xs) (y ∷ ds) (suc i) a d l m =
    ap (λ t. drive_at_opening x y ∷ t) (opening-next xs ds i a d (omega arith) (omega arith))

-- as many drives as before
length-stepped : (n : ℕ) (ds : List DriveSim) (outs : List DriveOut) →
    length (drives_stepped n ds outs) ≡ length ds
length-stepped n [] outs = refl
length-stepped n (d ∷ ds) outs = ap suc (length-stepped (suc n) ds outs)

-- a loop in which each drive makes its step
pub stepped-over : (ds xs : List DriveSim) (outs : List DriveOut) (i : ℕ) (x : DriveSim) →
    i < length ds →
    xs ≡ drives_stepped 0 (take i ds) outs ++ drop i ds →
    slice_set xs i (drive_stepped (slice_index_or xs i x) (slice_index_or outs i no_row.output)) ≡
    drives_stepped 0 (take (i + 1) ds) outs ++ drop (i + 1) ds
stepped-over ds xs outs i x l e =
    let done = drives_stepped 0 (take i ds) outs in
    let rest = drop (i + 1) ds in
    let y = slice_index_or ds i x in
    let o = slice_index_or outs i no_row.output in
    let count : length done ≡ i = length-stepped 0 (take i ds) outs ∙
    length-take-le i ds (omega arith) in
    let whole : xs ≡ done ++ y ∷ rest = e ∙ ap (λ t. done ++ t) (drop_more ds i x l) in
    let here : slice_index_or xs i x ≡ y = ap (λ t. slice_index_or t i x) whole ∙
    get_or_at done y rest x i count in
    let next : suc i ≡ i + 1 = omega arith in
    (λ t. slice_set (whole t) i (drive_stepped (here t) o)) ∙
    set_at done y rest (drive_stepped y o) i count
    ∙ sym (append_assoc done (drive_stepped y o ∷ []) rest)
    ∙ ap (λ t. t ++ rest) (sym (stepped-next 0 ds outs i i x l (omega arith)) ∙ ap (λ k.
    drives_stepped 0 (take k ds) outs) next)

-- a loop in which each drive is opened
pub opened-over : (xs : List AxisDef) (ds : List DriveDef) (drives : List DriveSim) (i : ℕ)
    (a : AxisDef) (d : DriveDef) → i < length xs → i < length ds →
    drives ≡ drives_at_opening (take i xs) (take i ds) → a ≡ slice_index_or xs i a →
    d ≡ slice_index_or ds i d →
    drives ++ drive_at_opening a d ∷ [] ≡ drives_at_opening (take (i + 1) xs) (take (i + 1) ds)
opened-over xs ds drives i a d l m e ia id =
    let next : suc i ≡ i + 1 = omega arith in
    (λ t. e t ++ drive_at_opening (ia t) (id t) ∷ []) ∙ sym (opening-next xs ds i a d l m)
    ∙ ap (λ k. drives_at_opening (take k xs) (take k ds)) next

-- the law of drives over a history
pub follow-outputs : FollowOutputs
follow-outputs = record {
  first = drives-first 0;
  further = drives-more 0;
  same = λ ds es e none. drives-same e none 0 ds es;
}

-- each axis has a drive at opening
pub length-opening : (xs : List AxisDef) (ds : List DriveDef) → length ds ≡ length xs →
    length (drives_at_opening xs ds) ≡ length xs
length-opening [] ds e = refl
length-opening (x ∷ xs) [] e = absurd (omega arith)
length-opening (x ∷ xs) (d ∷ ds) e = ap suc (length-opening xs ds (omega arith))
