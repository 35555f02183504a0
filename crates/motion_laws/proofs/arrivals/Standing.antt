-- A move that is Done in time has a row that shows so.
-- for: rows_show_that_moves_arrive
use Rattle.std.specs.Prelude.{◌≡◌, refl, ℕ, ◌+◌, ◌<◌, ◌≤◌, ℤ, Bool, true, false, Option, Some, None, List, [], ◌∷◌, ◌++◌, length, slice_get, slice_index_or}
use Rattle.std.proofs.Common.{arith, ap, sym, subst, ◌∙◌}
use Rattle.std.proofs.lemmas.List.{append_assoc}
use Rattle.std.proofs.lemmas.Option.{same_Some}
use Rattle.axis_core.specs.Arrivals.{Course, IsAtEnd, IsTurn, Turn, blended, bound_of, ended, slowing, toward, turn_by, turn_of}
use Rattle.axis_core.specs.declared.axis.Axis.{Axis}
use Rattle.plc_types.specs.declared.axis.AxisRow.{AxisRow}
use Rattle.buffer_modes.specs.Fates.{Fate}
use Rattle.command_changes.specs.Fates.{AreAxisFates}
use Rattle.command_pool.specs.declared.ending.Finish.{Finish}
use Rattle.command_pool.specs.declared.ending.Finish.TheVariants as finish
use Rattle.plc_types.specs.declared.group.GroupRow.{GroupRow}
use Rattle.motion_history.specs.Columns.{no_row}
use Rattle.motion_history.specs.Entries.{Entry, call, cycle, cycle_count, cycles_of, end_of}
use Rattle.motion_history.specs.Setup.{Setup, IsSetup}
use Rattle.motion_kernel.proofs.Lists.{get_is}
use Rattle.motion_kernel.proofs.kept.Machine.{MachinesStayKept}
use Rattle.motion_kernel.specs.Histories.{IsPast, IsOf, after, machine_after, replay}
use Rattle.motion_kernel.specs.Machine.{Machine, axis_at, machine_at_opening}
use Rattle.motion_kernel.specs.kept.Machine.{AreWhole}
use Rattle.motion_laws.specs.arrivals.AxisFates.{axis_fate}
use Rattle.motion_laws.specs.arrivals.Moves.{IsTurnedWithin, MovesArrive, Turned, turned_by, turned_in}
use Rattle.motion_laws.specs.arrivals.Rows.{AreAtEnd, RowStands, RowsStand, StandsBy, StandsWithin}
use Rattle.motion_laws.specs.entries.Rows.{RowsShow}
use Rattle.motion_laws.proofs.Histories.{past_so_far}
use Rattle.motion_laws.proofs.arrivals.Moves.{behind}
use Rattle.motion_laws.proofs.results.Comes.{after_more}
use Rattle.motion_laws.proofs.results.Stays.{machine_kept}
use Rattle.motion_laws.proofs.results.outcomes.NotDone.{axis_not_done}

-- where the turn of an axis is
record Found (s : Setup) (n : ℕ) (m : Machine) (es : List Entry) (t : Turned) : Type 0 where
  before : List Entry
  entry : Entry
  rest : List Entry
  split : es ≡ before ++ entry ∷ rest
  cycles : cycles_of before + cycle_count entry ≡ t.cycles
  machine : t.machine ≡ after s (replay s m before) entry
  turn : turn_of (axis_fate s (replay s m before) entry n) ≡ Some t.turn

found_later : (s : Setup) (n : ℕ) (m : Machine) (e : Entry) (es : List Entry) (t u : Turned) → Found s n (after s m e) es u →
    (let x : Turned = record u { cycles = cycle_count e + u.cycles } in x) ≡ t → Found s n m (e ∷ es) t
found_later s n m e es t u f same = record {
  before = e ∷ f.before;
  entry = f.entry;
  rest = f.rest;
  split = ap (λ xs. e ∷ xs) f.split;
  cycles = let c = f.cycles in let d = ap (λ (x : Turned). x.cycles) same in omega arith;
  machine = sym (ap (λ (x : Turned). x.machine) same) ∙ f.machine;
  turn = f.turn ∙ ap (λ (x : Turned). Some x.turn) same;
}

found_here : (s : Setup) (n : ℕ) (m : Machine) (e : Entry) (es : List Entry) (t : Turned) (turn : Turn) → turn_of (axis_fate s m e n) ≡ Some turn →
    (let x : Turned = record { cycles = cycle_count e; turn = turn; machine = after s m e } in x) ≡ t → Found s n m (e ∷ es) t
found_here s n m e es t turn at same = record {
  before = [];
  entry = e;
  rest = es;
  split = refl;
  cycles = let d = ap (λ (x : Turned). x.cycles) same in omega arith;
  machine = sym (ap (λ (x : Turned). x.machine) same);
  turn = at ∙ ap (λ (x : Turned). Some x.turn) same;
}

found_by : (s : Setup) (n : ℕ) (m : Machine) (e : Entry) (es : List Entry) (t : Turned) (o : Option Turn) → turn_of (axis_fate s m e n) ≡ o →
    (r : Option Turned) → ((u : Turned) → r ≡ Some u → Found s n (after s m e) es u) → turned_by o (cycle_count e) (after s m e) r ≡ Some t →
    Found s n m (e ∷ es) t
found_by s n m e es t (Some u) at r rec is = found_here s n m e es t u at (same_Some _ t is)
found_by s n m e es t None at None rec is = absurd (cc)
found_by s n m e es t None at (Some u) rec is = found_later s n m e es t u (rec u refl) (same_Some _ t is)

found : (s : Setup) (n : ℕ) (m : Machine) (es : List Entry) (t : Turned) → turned_in s n m es ≡ Some t → Found s n m es t
found s n m [] t is = absurd (cc)
found s n m (e ∷ es) t is =
    found_by s n m e es t (turn_of (axis_fate s m e n)) refl (turned_in s n (after s m e) es) (λ u at. found s n (after s m e) es u at) is

-- a turn that is Done is one of a cycle
turn_done : (f : Fate) → turn_of f ≡ Some (ended finish.Done) → f.ends ≡ Some finish.Done
turn_done f e = by f.blends f.ends e
  where
    by : (b : Bool) (o : Option Finish) → turn_by b o ≡ Some (ended finish.Done) → o ≡ Some finish.Done
    by true o h = absurd (cc)
    by false None h = absurd (cc)
    by false (Some g) h = cc

-- the laws on which it rests
pub record StandLaws : Type 0 where
  pub machines : MachinesStayKept
  pub axes : AreAxisFates
  pub rows : (s : Setup) (made more : List Entry) (e : Entry) → IsSetup s → AreWhole s → IsPast s (made ++ e ∷ more) →
      RowsShow (after s (machine_after s made) e) e
  pub moves : (s : Setup) (es : List Entry) → IsSetup s → AreWhole s → IsPast s es → MovesArrive s es

entry_of : (s : Setup) (made more : List Entry) (e : Entry) → IsPast s (made ++ e ∷ more) → IsOf s (0 + cycles_of made) (machine_after s made) e
unfolding machine_after
entry_of s made more e past = (behind s 0 (machine_at_opening s) made (e ∷ more) past.follows).0

-- its row
cycle_stands : StandLaws → (s : Setup) (so_far rest : List Entry) (c : ℕ) (rows : List AxisRow) (grows : List GroupRow) (n : ℕ) → IsSetup s → AreWhole s →
    IsPast s (so_far ++ cycle c rows grows ∷ rest) → n < length s.axes →
    (slice_get rows n ≡ Some (slice_index_or rows n no_row))
    × ((slice_index_or rows n no_row).setpoint ≡ (axis_at (after s (machine_after s so_far) (cycle c rows grows)) n).setpoint)
cycle_stands laws s so_far rest c rows grows n setup whole past l =
    let is = (entry_of s so_far rest (cycle c rows grows) past).1 in
    let kept = machine_kept laws.machines s so_far setup whole (past_so_far s so_far (cycle c rows grows ∷ rest) past) in
    let sizes = kept.sized in
    let axes = sizes.axes in
    let answers = is.answers in
    let has = get_is rows n no_row (omega arith) in
    let shows = (laws.rows s so_far rest (cycle c rows grows) setup whole past).axes n (slice_index_or rows n no_row) has in
    (has, shows.setpoint)

at_end : (course : Course) (a : Axis) (setpoint : ℤ) → setpoint ≡ a.setpoint → IsAtEnd course a → AreAtEnd course a.previous setpoint
at_end (toward target rates) a setpoint same h = (same ∙ h.0, h.1)
at_end (slowing d) a setpoint same h = same ∙ h

stands_in : StandLaws → (s : Setup) (made more : List Entry) (e : Entry) (n : ℕ) (course : Course) (most : ℕ) (t : Turned) → IsSetup s → AreWhole s →
    IsPast s (made ++ e ∷ more) → n < length s.axes → Found s n (after s (machine_after s made) e) more t → t.turn ≡ ended finish.Done → t.cycles ≤ most →
    IsAtEnd course (axis_at t.machine n) → (x : Entry) → (before rest : List Entry) → more ≡ before ++ x ∷ rest →
    cycles_of before + cycle_count x ≡ t.cycles → t.machine ≡ after s (replay s (after s (machine_after s made) e) before) x →
    turn_of (axis_fate s (replay s (after s (machine_after s made) e) before) x n) ≡ Some (ended finish.Done) →
    RowStands s (after s (machine_after s made) e) n course most more
stands_in laws s made more e n course most t setup whole past l f done few at (call k i reply) before rest split cycles machine turn =
    absurd (axis_not_done laws.axes s (replay s (after s (machine_after s made) e) before) k i n
    (turn_done (axis_fate s (replay s (after s (machine_after s made) e) before) (call k i reply) n) turn))
stands_in laws s made more e n course most t setup whole past l f done few at (end_of task) before rest split cycles machine turn = absurd (cc)
stands_in laws s made more e n course most t setup whole past l f done few at (cycle c rows grows) before rest split cycles machine turn =
    let m = after s (machine_after s made) e in
    let so_far = made ++ e ∷ before in
    let all : made ++ e ∷ more ≡ so_far ++ cycle c rows grows ∷ rest =
    ap (λ xs. made ++ e ∷ xs) split ∙ sym (append_assoc made (e ∷ before) (cycle c rows grows ∷ rest)) in
    let same : machine_after s so_far ≡ replay s m before = after_more s made before e in
    let now : after s (machine_after s so_far) (cycle c rows grows) ≡ t.machine =
    ap (λ y. after s y (cycle c rows grows)) same ∙ sym machine in
    let shown = cycle_stands laws s so_far rest c rows grows n setup whole (subst (IsPast s) all past) l in
    let setpoint = shown.1 ∙ ap (λ y. (axis_at y n).setpoint) now in
    record {
      before = before;
      number = c;
      rows = rows;
      grows = grows;
      behind = rest;
      split = split;
      in_time = omega arith;
      row = slice_index_or rows n no_row;
      of_axis = shown.0;
      there = subst (λ z. AreAtEnd course z (slice_index_or rows n no_row).setpoint) (ap (λ y. (axis_at y n).previous) machine)
          (at_end course (axis_at t.machine n) (slice_index_or rows n no_row).setpoint setpoint at);
    }

turned_stands : StandLaws → (s : Setup) (made more : List Entry) (e : Entry) (n : ℕ) (course : Course) (most : ℕ) → IsSetup s → AreWhole s →
    IsPast s (made ++ e ∷ more) → n < length s.axes → (o : Option Turned) → turned_in s n (after s (machine_after s made) e) more ≡ o →
    IsTurnedWithin most course n o → StandsWithin s (after s (machine_after s made) e) n course most more o
turned_stands laws s made more e n course most setup whole past l None at h = h
turned_stands laws s made more e n course most setup whole past l (Some t) at h = by t.turn refl h.1
  where
    by : (u : Turn) → t.turn ≡ u → IsTurn u course (axis_at t.machine n) → StandsBy s (after s (machine_after s made) e) n course most more u
    by (ended finish.Done) is end =
        let f = found s n (after s (machine_after s made) e) more t at in
        stands_in laws s made more e n course most t setup whole past l f is h.0 end f.entry f.before f.rest f.split f.cycles f.machine
        (f.turn ∙ ap Some is)
    by (ended finish.Aborted) is end = tt
    by (ended (finish.Error error)) is end = tt
    by blended is end = tt

pub rows_stand : StandLaws → (s : Setup) (es : List Entry) → IsSetup s → AreWhole s → IsPast s es → RowsStand s es
rows_stand laws s es setup whole past made more e n w course is l begins leads few =
    let m = after s (machine_after s made) e in
    let most = bound_of course (axis_at m n) in
    let moves = laws.moves s es setup whole past made more e n is l in
    turned_stands laws s made more e n course most setup whole (subst (IsPast s) is past) l (turned_in s n m more) refl
    (moves.in_time w course begins leads few)
