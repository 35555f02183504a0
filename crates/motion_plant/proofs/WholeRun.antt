-- What a whole run comes to.
-- for: run_plant
use Rattle.std.proofs.Common.{◌≡◌, ℕ, zero, suc, ◌≤◌, List, [], ◌∷◌, ◌++◌, length, map, take, Bool, true, false, Some, refl, sym, ap, ◌∙◌, arith, append_assoc, append-nil}
use Rattle.std.specs.Prelude.{slice_get, slice_index_or, ◌||◌, ◌==◌, not, if◌then◌else◌}
use Rattle.std.specs.List.{list_any}
use mathlib.Core.List.{IsPrefix}
use Rattle.plc_types.specs.declared.axis.AxisRow.{AxisRow}
use Rattle.plc_types.specs.declared.drive.DriveIn.{DriveIn}
use Rattle.plc_types.specs.declared.drive.DriveOut.{DriveOut}
use Rattle.drive_sim.specs.Runs.{answers_of, drive_after}
use Rattle.drive_sim.specs.Sim.{DriveSim}
use Rattle.drive_sim.specs.Steps.{answer_of, drive_stepped}
use Rattle.machine_drives.specs.Drives.{outputs_in}
use Rattle.motion_plant.specs.Driven.{cycle_with}
use Rattle.motion_plant.specs.Lines.{entries_of}
use Rattle.motion_plant.specs.Makers.{Logged, entries_by, entries_where, maker_of, task_of, with_front}
use Rattle.motion_plant.specs.Places.{Each}
use Rattle.motion_history.specs.Columns.{no_row, rows_in}
use Rattle.motion_kernel.specs.cycles.Cycles as machine
use Rattle.motion_kernel.specs.Histories.{machine_after}
use Rattle.motion_history.specs.Entries.{Entry, call, cycle, end_of, cycles_of}
use Rattle.motion_history.specs.Setup.{Setup}
use Rattle.motion_kernel.specs.Tasks.{count_below, ends, live_tasks, lives}
use Rattle.motion_plant.proofs.JoinedEntries.{all_by_is}

-- no task lives again
any_more : (p : Entry → Bool) (xs ys : List Entry) → list_any p xs ≡ true → list_any p (xs ++ ys) ≡
    true
any_more p [] ys e = absurd (cc)
any_more p (x ∷ xs) ys e = go (any_more p xs ys) (p x) e
  where
    go : (list_any p xs ≡ true → list_any p (xs ++ ys) ≡ true) → (b : Bool) → (b || list_any p xs) ≡
        true → (b || list_any p (xs ++ ys)) ≡ true
    go rest true e = refl
    go rest false e = rest e

fewer : (a b : Bool) → (a ≡ true → b ≡ true) → (if not b then 1 else 0) ≤ (if not a then 1 else 0)
fewer true true f = omega arith
fewer true false f = absurd (off (f refl))
  where
    off : false ≡ true → ⊥
    off e = absurd (cc)
fewer false true f = omega arith
fewer false false f = omega arith

live_below : (n : ℕ) (xs ys : List Entry) → count_below (lives (xs ++ ys)) n ≤ count_below
    (lives xs) n
unfolding count_below
live_below zero xs ys = omega arith
live_below (suc n) xs ys =
    let r = live_below n xs ys in
    let l = fewer (list_any (ends n) xs) (list_any (ends n) (xs ++ ys)) (any_more (ends n) xs ys) in
    omega arith

pub live_none : (s : Setup) (xs h : List Entry) → IsPrefix xs h → live_tasks s xs ≡ 0 →
    live_tasks s h ≡ 0
live_none s xs h pre none =
    let l = live_below (length s.tasks) xs pre.0 in
    let e = ap (live_tasks s) pre.1 in
    omega arith

-- the cycles among all entries
front_none : (i : ℕ) (c : Bool) (x : Logged) (ls : List Logged) →
    ((es : List Entry) → rows_in i (x.entry ∷ es) ≡ rows_in i es) →
    rows_in i (entries_of (with_front c x ls)) ≡ rows_in i (entries_of ls)
front_none i true x ls none = none (entries_of ls)
front_none i false x ls none = refl

cycles_rows : (s : Setup) (i : ℕ) (b es : List Entry) →
    rows_in i (entries_of (entries_where (λ n e. maker_of s e == 0) b es)) ≡ rows_in i es
cycles_rows s i b [] = refl
cycles_rows s i b (cycle n rows grows ∷ es) = ap (λ rs. slice_index_or rows i no_row ∷ rs)
    (cycles_rows s i (b ++ cycle n rows grows ∷ []) es)
cycles_rows s i b (end_of t ∷ es) = front_none i (suc t == 0)
    (record { before = b; entry = end_of t }) _ (λ fs. refl) ∙
    cycles_rows s i (b ++ end_of t ∷ []) es
cycles_rows s i b (call k j r ∷ es) = front_none i (task_of (slice_get s.blocks k) == 0)
    (record { before = b; entry = call k j r }) _ (λ fs. refl) ∙
    cycles_rows s i (b ++ call k j r ∷ []) es

pub all_outputs : (s : Setup) (i : ℕ) (h : List Entry) →
    outputs_in i (entries_of (entries_by s 0 h)) ≡ outputs_in i h
all_outputs s i h = ap (λ cs. outputs_in i (entries_of cs)) (all_by_is s 0 h) ∙
    ap (map (λ (r : AxisRow). r.output)) (cycles_rows s i [] h)

pub outputs_count : (i : ℕ) (h : List Entry) → length (outputs_in i h) ≡ cycles_of h
outputs_count i [] = refl
outputs_count i (call k j r ∷ es) = let e = outputs_count i es in omega arith
outputs_count i (cycle n rows grows ∷ es) = let e = outputs_count i es in omega arith
outputs_count i (end_of t ∷ es) = let e = outputs_count i es in omega arith

-- one that passes, with those that passed before it
first_is : (y z : Logged) → Some y ≡ Some z → z.before ≡ y.before
first_is y z s = cc

where_get : (t : ℕ → Entry → Bool) (b es : List Entry) (n : ℕ) (c : Logged) →
    slice_get (entries_where t b es) n ≡ Some c → (front : List Entry) × (c.before ≡ b ++ front) ×
    (entries_where t b front ≡ take n (entries_where t b es))
where_get t b [] n c at = absurd (cc)
where_get t b (e ∷ es) n c at = go (where_get t (b ++ e ∷ []) es) (t (length b) e) n refl at
  where
    go : ((m : ℕ) (d : Logged) → slice_get (entries_where t (b ++ e ∷ []) es) m ≡ Some d →
        (front : List Entry) × (d.before ≡ (b ++ e ∷ []) ++ front) ×
        (entries_where t (b ++ e ∷ []) front ≡ take m (entries_where t (b ++ e ∷ []) es))) →
        (d : Bool) (n : ℕ) → t (length b) e ≡ d →
        slice_get (with_front d (record { before = b; entry = e })
        (entries_where t (b ++ e ∷ []) es)) n ≡ Some c → (front : List Entry) ×
        (c.before ≡ b ++ front) × (entries_where t b front ≡
        take n (with_front d (record { before = b; entry = e }) (entries_where t (b ++ e ∷ []) es)))
    go rest true zero is at = (
      [],
      first_is (record { before = b; entry = e }) c at ∙
          sym (append-nil b),
      refl,
    )
    go rest true (suc m) is at = let r = rest m c at in (
      e ∷ r.0,
      r.1 ∙ append_assoc b (e ∷ []) r.0,
      ap (λ d. with_front d (record { before = b; entry = e })
          (entries_where t (b ++ e ∷ []) r.0)) is ∙ ap (λ zs. record { before = b; entry = e } ∷ zs)
          r.2,
    )
    go rest false m is at = let r = rest m c at in (
      e ∷ r.0,
      r.1 ∙ append_assoc b (e ∷ []) r.0,
      ap (λ d. with_front d (record { before = b; entry = e })
          (entries_where t (b ++ e ∷ []) r.0)) is ∙ r.2,
    )

-- entries that are cycles have one output each
take_outputs : (s : Setup) (i n : ℕ) (cs : List Logged) →
    Each (λ m (c : Logged). (ins : List DriveIn) × (c.entry ≡ cycle_with s c.before ins)) cs →
    outputs_in i (entries_of (take n cs)) ≡ take n (outputs_in i (entries_of cs))
take_outputs s i zero cs each = refl
take_outputs s i (suc n) [] each = refl
take_outputs s i (suc n) (c ∷ cs) each =
    let e = each 0 c refl in
    let r = take_outputs s i n cs (λ m d at. each (suc m) d at) in
    ap (λ (x : Entry). outputs_in i (x ∷ entries_of (take n cs))) e.1
    ∙ ap (λ os. (slice_index_or (machine.cycled s (machine_after s c.before) e.0).axes i
    no_row).output ∷ os) r
    ∙ sym (ap (λ (x : Entry). take (suc n) (outputs_in i (x ∷ entries_of cs))) e.1)

pub outputs_before : (s : Setup) (i n : ℕ) (h : List Entry) (c : Logged) →
    Each (λ m (c : Logged). (ins : List DriveIn) × (c.entry ≡ cycle_with s c.before ins))
    (entries_by s 0 h) → slice_get (entries_by s 0 h) n ≡ Some c → outputs_in i c.before ≡
    take n (outputs_in i h)
outputs_before s i n h c each at =
    let r = where_get (λ n e. maker_of s e == 0) [] h n c (ap (λ cs. slice_get cs n)
    (sym (all_by_is s 0 h)) ∙ at) in
    ap (outputs_in i) r.1
    ∙ sym (all_outputs s i r.0)
    ∙ ap (λ cs. outputs_in i (entries_of cs)) (all_by_is s 0 r.0 ∙ r.2 ∙
    ap (take n) (sym (all_by_is s 0 h)))
    ∙ take_outputs s i n (entries_by s 0 h) each
    ∙ ap (take n) (all_outputs s i h)

-- the n-th answer of a drive is the one after n outputs
pub answer_at : (d : DriveSim) (os : List DriveOut) (n : ℕ) → n ≤ length os →
    slice_get (answers_of d os) n ≡ Some (answer_of (drive_after d (take n os)))
answer_at d [] zero le = refl
answer_at d [] (suc n) le = absurd (omega arith)
answer_at d (o ∷ os) zero le = refl
answer_at d (o ∷ os) (suc n) le = answer_at (drive_stepped d o) os n (omega arith)
