-- Cycle by cycle, the lines have the columns.
-- for: run_plant
use Rattle.std.proofs.Common.{◌≡◌, ℕ, zero, suc, ◌+◌, List, [], ◌∷◌, ◌++◌, length, map, Some, false, refl, sym, ap, ◌∙◌, subst, arith}
use Rattle.std.specs.Prelude.{slice_get, slice_index_or}
use Rattle.plc_types.specs.declared.axis.AxisRow.{AxisRow}
use Rattle.plc_types.specs.declared.drive.DriveIn.{DriveIn}
use Rattle.plc_types.specs.declared.drive.DriveOut.{DriveOut}
use Rattle.drive_jobs.specs.DriveLinkState.{DriveLinkState}
use Rattle.plc_types.specs.declared.group.GroupRow.{GroupRow}
use Rattle.machine_drives.specs.Drives.{outputs_in}
use Rattle.motion_plant.specs.Cycling.{IsCycle}
use Rattle.motion_plant.specs.Driven.{cycle_with}
use Rattle.motion_plant.specs.Lines.{IsInStep, entries_of, job_of, with_answer, with_output}
use Rattle.motion_plant.specs.Makers.{Logged}
use Rattle.motion_plant.specs.Places.{Each, zip_with}
use Rattle.motion_history.specs.Columns.{no_row, rows_in}
use Rattle.motion_history.specs.Entries.{Entry, call, cycle, end_of}
use Rattle.motion_history.specs.Setup.{Setup}
use Rattle.motion_kernel.specs.cycles.Cycles as machine
use Rattle.motion_kernel.specs.Histories.{machine_after}
use Rattle.motion_plant.proofs.Lists.{get_before, get_past, get_some, map_more, snoc_length}
use Rattle.motion_plant.proofs.Zips.{zip_get, zip_kept, zip_length}

rows_more : (i : ℕ) (es : List Entry) (n : ℕ) (rows : List AxisRow) (grows : List GroupRow) →
    rows_in i (es ++ cycle n rows grows ∷ []) ≡ rows_in i es ++ slice_index_or rows i no_row ∷ []
rows_more i [] n rows grows = refl
rows_more i (call k j o ∷ es) n rows grows = rows_more i es n rows grows
rows_more i (cycle m axes groups ∷ es) n rows grows = ap (λ rs. slice_index_or axes i no_row ∷ rs)
    (rows_more i es n rows grows)
rows_more i (end_of t ∷ es) n rows grows = rows_more i es n rows grows

output_at : (rows : List AxisRow) (i : ℕ) (y : DriveOut) →
    slice_get (map (λ (r : AxisRow). r.output) rows) i ≡ Some y →
    (slice_index_or rows i no_row).output ≡ y
output_at [] i y e = absurd (cc)
output_at (r ∷ rows) zero y e = cc
output_at (r ∷ rows) (suc i) y e = output_at rows i y e

pub outs_more : (s : Setup) (i : ℕ) (cs : List Logged) (before : List Entry) (ins : List DriveIn)
    (ys : List DriveOut) (y : DriveOut) → ys ≡ map (λ (r : AxisRow). r.output)
    (machine.cycled s (machine_after s before) ins).axes → slice_get ys i ≡ Some y →
    outputs_in i (entries_of (cs ++ record { before = before; entry = cycle_with s before ins } ∷
    [])) ≡ outputs_in i (entries_of cs) ++ y ∷ []
outs_more s i cs before ins ys y is at =
    let rows = (machine.cycled s (machine_after s before) ins).axes in
    ap (outputs_in i) (map_more (λ (c : Logged). c.entry) cs (record {
      before = before;
      entry =
          cycle_with s before ins;
    } ∷ []))
    ∙ ap (map (λ (r : AxisRow). r.output)) (rows_more i (entries_of cs) _ rows _)
    ∙ map_more (λ (r : AxisRow). r.output) (rows_in i (entries_of cs))
    (slice_index_or rows i no_row ∷ [])
    ∙ ap (λ o. outputs_in i (entries_of cs) ++ o ∷ [])
    (output_at rows i y (ap (λ zs. slice_get zs i) (sym is) ∙ at))

in_outs : (l : DriveLinkState) (x : DriveIn) → (with_answer l x).outs ≡ l.outs
unfolding with_answer
in_outs l x = refl

in_ins : (l : DriveLinkState) (x : DriveIn) → (with_answer l x).ins ≡ l.ins ++ x ∷ []
unfolding with_answer
in_ins l x = refl

in_ended : (l : DriveLinkState) (x : DriveIn) → (with_answer l x).ended ≡ l.ended
unfolding with_answer
in_ended l x = refl

in_job : (l : DriveLinkState) (x : DriveIn) → job_of (with_answer l x) ≡ job_of l
unfolding with_answer
in_job l x = refl

pub out_outs : (l : DriveLinkState) (x : DriveOut) → (with_output l x).outs ≡ l.outs ++ x ∷ []
unfolding with_output
out_outs l x = refl

pub out_ins : (l : DriveLinkState) (x : DriveOut) → (with_output l x).ins ≡ l.ins
unfolding with_output
out_ins l x = refl

pub out_ended : (l : DriveLinkState) (x : DriveOut) → (with_output l x).ended ≡ l.ended
unfolding with_output
out_ended l x = refl

out_job : (l : DriveLinkState) (x : DriveOut) → job_of (with_output l x) ≡ job_of l
unfolding with_output
out_job l x = refl

-- one answer more was taken from each line
pub record Taken (cs : List Logged) (xs : List DriveIn) (i : ℕ) (l : DriveLinkState) : Type 0 where
  pub outs : l.outs ≡ outputs_in i (entries_of cs)
  pub ins : length l.ins ≡ suc (length cs)
  pub here : slice_get l.ins (length cs) ≡ slice_get xs i
  pub goes_on : l.ended ≡ false

pub taken_each : (cs : List Logged) (xs : List DriveIn) (ls ls' : List DriveLinkState) →
    Each (IsInStep cs) ls → ls' ≡ zip_with with_answer ls xs → Each (Taken cs xs) ls'
taken_each cs xs ls ls' each is i z at =
    let r = zip_get with_answer ls xs i z (ap (λ l. slice_get l i) (sym is) ∙ at) in
    let s = each i r.0 r.2 in
    let n : length cs ≡ length r.0.ins + 0 = let k = s.ins in omega arith in
    subst (Taken cs xs i) r.4 (record {
      outs = in_outs r.0 r.1 ∙ s.outs;
      ins = ap length (in_ins r.0 r.1) ∙ snoc_length r.0.ins r.1 ∙ ap suc s.ins;
      here = (λ j. slice_get (in_ins r.0 r.1 j) (n j)) ∙ get_past r.0.ins (r.1 ∷ []) 0 ∙ sym r.3;
      goes_on = in_ended r.0 r.1 ∙ s.goes_on;
    })

pub outs_length : (s : Setup) (lines : List DriveLinkState) (i : ℕ) (cs : List Logged) →
    Each (IsCycle s lines) cs → length (outputs_in i (entries_of cs)) ≡ length cs
outs_length s lines i cs each = go cs (λ n c at. let e = each n c at in (e.ins, e.entry_is))
  where
    go : (cs : List Logged) → Each (λ n (c : Logged). (ins : List DriveIn) ×
        (c.entry ≡ cycle_with s c.before ins)) cs → length (outputs_in i (entries_of cs)) ≡
        length cs
    go [] each = refl
    go (c ∷ cs) each =
        let e = each 0 c refl in
        ap (λ (x : Entry). length (outputs_in i (x ∷ entries_of cs))) e.1 ∙
        ap suc (go cs (λ n d at. each (suc n) d at))

pub next_each : (s : Setup) (lines : List DriveLinkState) (cs : List Logged) (xs : List DriveIn)
    (ls : List DriveLinkState) (made : ℕ) → Each (IsCycle s lines) cs → Each (Taken cs xs) ls →
    made ≡ length cs → Each (λ i (x : DriveLinkState). (made + 1 ≡ length x.outs + 1) ×
    (x.ended ≡ false)) ls
next_each s lines cs xs ls made cycles each count i l at =
    let t = each i l at in
    let n : length l.outs ≡ length cs = ap length t.outs ∙ outs_length s lines i cs cycles in
    (omega arith, t.goes_on)

-- a cycle made before stays one as the lines grow
grown : (s : Setup) (ls ls' : List DriveLinkState) (n : ℕ) (c : Logged) → IsCycle s ls n c → length ls' ≡
    length ls → ((i : ℕ) (l' : DriveLinkState) → slice_get ls' i ≡ Some l' → (l : DriveLinkState) ×
    (slice_get ls i ≡ Some l) × (slice_get l'.ins n ≡ slice_get l.ins n)) → IsCycle s ls' n c
grown s ls ls' n c is width back = record {
  ins = is.ins;
  entry_is = is.entry_is;
  width = is.width ∙ sym width;
  quiet = is.quiet;
  taken = λ i l' at. let b = back i l' at in b.2 ∙ is.taken i b.0 b.1;
}

pub grown_in : (s : Setup) (cs : List Logged) (xs : List DriveIn) (ls ls' : List DriveLinkState) →
    Each (IsInStep cs) ls → Each (IsCycle s ls) cs → length xs ≡ length ls →
    ls' ≡ zip_with with_answer ls xs → Each (IsCycle s ls') cs
grown_in s cs xs ls ls' stand cycles width is n c at =
    grown s ls ls' n c (cycles n c at) (ap length is ∙ zip_length with_answer ls xs width)
    (λ i l' there.
    let r = zip_get with_answer ls xs i l' (ap (λ l. slice_get l i) (sym is) ∙ there) in
    let k = (stand i r.0 r.2).ins in
    let m = get_some cs n c at in (
      r.0,
      r.2,
      ap (λ (l : DriveLinkState). slice_get l.ins n) (sym r.4) ∙ ap (λ l. slice_get l n)
          (in_ins r.0 r.1) ∙ get_before r.0.ins (r.1 ∷ []) n (omega arith),
    ))

pub grown_out : (s : Setup) (cs : List Logged) (ys : List DriveOut) (ls ls' : List DriveLinkState) →
    Each (IsCycle s ls) cs → length ys ≡ length ls → ls' ≡ zip_with with_output ls ys →
    Each (IsCycle s ls') cs
grown_out s cs ys ls ls' cycles width is n c at =
    grown s ls ls' n c (cycles n c at) (ap length is ∙ zip_length with_output ls ys width)
    (λ i l' there.
    let r = zip_get with_output ls ys i l' (ap (λ l. slice_get l i) (sym is) ∙ there) in (
      r.0,
      r.2,
      ap (λ (l : DriveLinkState). slice_get l.ins n) (sym r.4) ∙ ap (λ l. slice_get l n)
          (out_ins r.0 r.1),
    ))

pub in_jobs : (ls ls' : List DriveLinkState) (xs : List DriveIn) → length xs ≡ length ls →
    ls' ≡ zip_with with_answer ls xs → map job_of ls' ≡ map job_of ls
in_jobs ls ls' xs len is = ap (map job_of) is ∙ zip_kept with_answer job_of ls xs len in_job

pub out_jobs : (ls ls' : List DriveLinkState) (xs : List DriveOut) → length xs ≡ length ls →
    ls' ≡ zip_with with_output ls xs → map job_of ls' ≡ map job_of ls
out_jobs ls ls' xs len is = ap (map job_of) is ∙ zip_kept with_output job_of ls xs len out_job
