-- Each cycle of a history is one of the entries that the cycles made.
-- for: cycles_take_the_answers, cycles_end_with_the_tasks
use Rattle.std.proofs.Common.{◌≡◌, ℕ, suc, ◌+◌, ◌<◌, ◌≤◌, ◌++◌, ◌∷◌, [], List, length, Some, ap, ◌∙◌, arith, length-append}
use Rattle.std.specs.Prelude.{Bool, true, false, ◌==◌, slice_get}
use Rattle.plc_types.specs.declared.axis.AxisRow.{AxisRow}
use Rattle.drive_sim.specs.Sim.{DriveSim}
use Rattle.plc_types.specs.declared.group.GroupRow.{GroupRow}
use Rattle.motion_history.specs.Entries.{Entry, call, cycle, cycles_of, end_of}
use Rattle.motion_history.specs.Setup.{Setup}
use Rattle.motion_plant.specs.Driven.{IsAlive, IsDriven}
use Rattle.motion_plant.specs.Laws.{AreDriven, AreInTime}
use Rattle.motion_plant.specs.Makers.{Logged, entries_by, entries_where, maker_of, with_front}
use Rattle.motion_plant.specs.Places.{Each}
use Rattle.motion_plant.proofs.JoinedEntries.{all_by_is}
use Rattle.motion_plant.proofs.Lists.{get_past}
use Rattle.motion_plant.proofs.OwnEntries.{where_more}

-- an entry of the cycles
abbrev is_cycle : Setup → ℕ → Entry → Bool
is_cycle s n e = maker_of s e == 0

-- the entries that the cycles made, with a cycle after some and before others
with_cycle : (s : Setup) (h before more : List Entry) (n : ℕ) (rows : List AxisRow)
    (grows : List GroupRow) → h ≡ before ++ cycle n rows grows ∷ more →
    entries_by s 0 h ≡ entries_where (is_cycle s) [] before ++
    record { before = before; entry = cycle n rows grows } ∷
    entries_where (is_cycle s) (before ++ cycle n rows grows ∷ []) more
with_cycle s h before more n rows grows is =
    ap (entries_by s 0) is ∙ all_by_is s 0 (before ++ cycle n rows grows ∷ more) ∙
    where_more (is_cycle s) [] before (cycle n rows grows ∷ more)

-- the place of the cycle among them
at_cycle : (s : Setup) (h before more : List Entry) (n : ℕ) (rows : List AxisRow)
    (grows : List GroupRow) → h ≡ before ++ cycle n rows grows ∷ more →
    slice_get (entries_by s 0 h) (length (entries_where (is_cycle s) [] before) + 0) ≡
    Some (record { before = before; entry = cycle n rows grows })
at_cycle s h before more n rows grows is =
    ap (λ cs. slice_get cs (length (entries_where (is_cycle s) [] before) + 0))
    (with_cycle s h before more n rows grows is) ∙
    get_past (entries_where (is_cycle s) [] before) _ 0

pub driven_each : (s : Setup) (drives : List DriveSim) (h : List Entry) →
    Each (λ n. IsDriven s drives) (entries_by s 0 h) → AreDriven s drives h
driven_each s drives h each before more n rows grows is =
    each _ (record { before = before; entry = cycle n rows grows })
    (at_cycle s h before more n rows grows is)

-- no fewer, where one may stand in front
front_counted : (b : Bool) (x : Logged) (xs : List Logged) (n : ℕ) → n ≤ length xs →
    n ≤ length (with_front b x xs)
front_counted true x xs n le = omega arith
front_counted false x xs n le = le

-- each cycle is one of them
cycles_counted : (s : Setup) (before es : List Entry) →
    cycles_of es ≤ length (entries_where (is_cycle s) before es)
cycles_counted s before [] = omega arith
cycles_counted s before (cycle n rows grows ∷ es) =
    let r = cycles_counted s (before ++ cycle n rows grows ∷ []) es in omega arith
cycles_counted s before (call k i reply ∷ es) =
    let e : Entry = call k i reply in
    let r = front_counted (is_cycle s (length before) e) (record { before = before; entry = e }) _ _
    (cycles_counted s (before ++ e ∷ []) es) in
    omega arith
cycles_counted s before (end_of t ∷ es) =
    let e : Entry = end_of t in
    let r = front_counted (is_cycle s (length before) e) (record { before = before; entry = e }) _ _
    (cycles_counted s (before ++ e ∷ []) es) in
    omega arith

pub in_time_each : (s : Setup) (h : List Entry) →
    Each (λ n c. suc n < length (entries_by s 0 h) → IsAlive s c) (entries_by s 0 h) →
    AreInTime s h
in_time_each s h each before more n rows grows is later =
    let a = entries_where (is_cycle s) [] before in
    let c : Logged = record { before = before; entry = cycle n rows grows } in
    let b = entries_where (is_cycle s) (before ++ cycle n rows grows ∷ []) more in
    let whole = ap length (with_cycle s h before more n rows grows is) in
    let parts = length-append a (c ∷ b) in
    let counted = cycles_counted s (before ++ cycle n rows grows ∷ []) more in
    each (length a + 0) c (at_cycle s h before more n rows grows is) (omega arith)
