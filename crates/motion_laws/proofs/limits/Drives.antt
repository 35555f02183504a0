-- Every row of a past says of its drive what it should: its target, its place and whether it is
-- driven.
-- for: spells_begin_at_drives, targets_follow_setpoints
use Rattle.std.specs.Prelude.{◌≡◌, refl, ℕ, zero, suc, ◌+◌, ◌<◌, Bool, true, false, ◌&&◌, if◌then◌else◌, ℤ, pos, ◌+ℤ◌, ◌-ℤ◌, negsuc, ◌*ℤ◌, ◌≤ℤ◌, ◌<ℤ◌, unsigned_abs, Some, None, is_some, List, [], ◌∷◌, ◌++◌, length, slice_get, slice_index_or}
use Rattle.std.specs.Int.{int_div_euclid}
use Rattle.std.proofs.Common.{arith, ap, sym, subst, ◌∙◌}
use Rattle.std.proofs.lemmas.Int.{ints}
use Rattle.std.proofs.lemmas.List.{get_or-map}
use Rattle.std.proofs.lemmas.List.Elements.{All-get_or}
use Rattle.std.proofs.lemmas.Option.{same_Some}
use Rattle.axis_core.specs.Along.{KeepsDefinition}
use Rattle.axis_core.specs.Cycles.{axis_at_opening, core_after_cycle, row_shown}
use Rattle.axis_core.specs.Drives.{is_driven}
use Rattle.axis_core.specs.Rows.{Stays}
use Rattle.axis_core.specs.declared.axis.Axis.{Axis}
use Rattle.axis_core.specs.declared.look.AxisLook.{AxisLook}
use Rattle.axis_state.specs.Spells.{Spell}
use Rattle.plc_types.specs.Counts.{count_of, place_of}
use Rattle.plc_types.specs.declared.axis.AxisDef.{AxisDef}
use Rattle.plc_types.specs.declared.axis.AxisRow.{AxisRow}
use Rattle.plc_types.specs.declared.group.GroupRow.{GroupRow}
use Rattle.plc_types.specs.declared.limits.Limits.{Limits}
use Rattle.motion_history.specs.AxisRanges.{AreAxisRanges}
use Rattle.motion_history.specs.Columns.{no_row, rows_in}
use Rattle.motion_history.specs.Configurations.{IsSound}
use Rattle.motion_history.specs.Entries.{Entry, call, cycle, cycle_count, end_of}
use Rattle.motion_history.specs.Setup.{Setup, IsSetup}
use Rattle.motion_kernel.specs.calls.Calls.{after_call}
use Rattle.motion_kernel.specs.cycles.Cycles.{after_cycle, look_of_axis}
use Rattle.motion_kernel.specs.Histories.{Follows, IsCycleOf, IsPast, after, inputs_of, machine_after, replay}
use Rattle.motion_kernel.specs.Machine.{Machine, axis_at, axis_core_at, machine_at_opening, no_axis}
use Rattle.motion_kernel.specs.kept.Machine.{AreWhole, IsMachineKept, no_def}
use Rattle.motion_kernel.proofs.Lists.{get_is}
use Rattle.motion_kernel.proofs.calls.AxesLeft.{call_left, calls_leave_definitions}
use Rattle.motion_kernel.proofs.cycles.OneAxis.{goes_through}
use Rattle.motion_kernel.proofs.kept.Laws.{AxesKeepDefinitions}
use Rattle.motion_kernel.proofs.kept.Machine.{MachinesStayKept, kept_by_cycle}
use Rattle.motion_laws.proofs.Histories.{past_kept, past_so_far}
use Rattle.motion_kernel.proofs.owners.commands.Events.{there_where}
use Rattle.motion_laws.proofs.limits.DriveRows.{ShowsDrive, row_of_drive}
use Rattle.motion_laws.proofs.limits.Places.{CallsMoveNoAxis, calls_leave_places}
use Rattle.motion_laws.proofs.limits.Rows.{is_there}
use Rattle.motion_laws.specs.limits.Drives.{FollowsSetpoint, RowsAreDriven, SpellsBeginAtDrives, StandAtDrive, TargetsFollow, TargetsFollowSetpoints, setpoint_way, target_way}

-- ---- targets

-- what is counted in whole increments is rounded down
record IsRounded (way count inc : ℤ) : Type 0 where
  below : (count *ℤ inc) ≤ℤ way
  near : way <ℤ ((count *ℤ inc) +ℤ inc)

rounded : (way inc : ℤ) → pos 1 ≤ℤ inc → IsRounded way (int_div_euclid way inc) inc
rounded (pos w) (pos k) one = let some : 0 < k = omega (arith, ints) in record { below = omega (arith, ints); near = omega (arith, ints) }
rounded (negsuc w) (pos k) one = let some : 0 < k = omega (arith, ints) in record { below = omega (arith, ints); near = omega (arith, ints) }
rounded w (negsuc k) one = absurd (omega (arith, ints))

follows : (inc : ℤ) (r : AxisRow) → pos 1 ≤ℤ inc → r.output.target ≡ count_of r.setpoint r.offset inc → FollowsSetpoint inc r
unfolding count_of
follows inc r one e =
    let f : IsRounded (setpoint_way r) r.output.target inc =
    subst (λ z. IsRounded (setpoint_way r) z inc) (sym e) (rounded (setpoint_way r) inc one) in
    record { count = e; below = f.below; near = f.near }

-- of two and of three ways and what is rounded of them
step_near : (f g x y inc : ℤ) → f ≤ℤ x → x <ℤ (f +ℤ inc) → g ≤ℤ y → y <ℤ (g +ℤ inc) →
    pos (unsigned_abs ((g -ℤ f) -ℤ (y -ℤ x))) <ℤ inc
step_near f g x y inc a b c d = omega (arith, ints, a, b, c, d)

change_near : (f g h x y z inc : ℤ) → f ≤ℤ x → x <ℤ (f +ℤ inc) → g ≤ℤ y → y <ℤ (g +ℤ inc) → h ≤ℤ z → z <ℤ (h +ℤ inc) →
    pos (unsigned_abs (((h -ℤ g) -ℤ (g -ℤ f)) -ℤ ((z -ℤ y) -ℤ (y -ℤ x)))) <ℤ (inc +ℤ inc)
change_near f g h x y z inc a b c d e i = omega (arith, ints, a, b, c, d, e, i)

-- where each row's target follows, so do the steps and their changes
targets_from : (inc : ℤ) (rows : List AxisRow) → ((k : ℕ) (r : AxisRow) → slice_get rows k ≡ Some r → FollowsSetpoint inc r) → TargetsFollow inc rows
targets_from inc rows each = record {
  each = each;
  steps = λ k a b at next.
      let f = each k a at in
      let g = each (k + 1) b next in
      step_near (target_way inc a) (target_way inc b) (setpoint_way a) (setpoint_way b) inc f.below f.near g.below g.near;
  changes = λ k a b c at next last.
      let f = each k a at in
      let g = each (k + 1) b next in
      let h = each (k + 2) c last in
      change_near (target_way inc a) (target_way inc b) (target_way inc c) (setpoint_way a) (setpoint_way b) (setpoint_way c) inc
      f.below f.near g.below g.near h.below h.near;
}

-- ---- a cycle

-- the laws on which it rests
pub record DriveLaws : Type 0 where
  pub machines : MachinesStayKept
  pub definitions : AxesKeepDefinitions

-- the row of an axis of a kept machine in a cycle
shows_drive : DriveLaws → (s : Setup) (m : Machine) (rows : List AxisRow) (grows : List GroupRow) (n : ℕ) → IsMachineKept s m →
    IsCycleOf s m rows grows → n < length m.axes → ShowsDrive (axis_at m n) (slice_index_or rows n no_row)
shows_drive laws s m rows grows n h is l =
    let ins = inputs_of rows in
    let look = look_of_axis s m ins n in
    let through = goes_through s m ins n h (laws.machines.may_go_on s m ins h) l in
    let row = ap (λ rs. slice_index_or rs n no_row) is.axes ∙ through.row in
    subst (ShowsDrive (axis_at m n)) (sym row) (row_of_drive laws.definitions.cycle look (axis_core_at m n))

-- it is driven as the axis then is
shows_driven : (look : AxisLook) (a : Axis) → (row_shown look.input a).driven ≡ a.driven
unfolding row_shown
shows_driven look a = refl

-- the axis after a cycle, beside its row
record IsAfter (before after : Axis) (r : AxisRow) : Type 0 where
  driven : after.driven ≡ r.driven
  inc : after.inc ≡ before.inc

goes_on : DriveLaws → (s : Setup) (m : Machine) (rows : List AxisRow) (grows : List GroupRow) (n : ℕ) → IsMachineKept s m →
    IsCycleOf s m rows grows → n < length m.axes →
    IsAfter (axis_at m n) (axis_at (after_cycle s m (inputs_of rows)) n) (slice_index_or rows n no_row)
goes_on laws s m rows grows n h is l =
    let ins = inputs_of rows in
    let look = look_of_axis s m ins n in
    let through = goes_through s m ins n h (laws.machines.may_go_on s m ins h) l in
    let row = ap (λ rs. slice_index_or rs n no_row) is.axes ∙ through.row in
    record {
      driven = ap (λ (a : Axis). a.driven) through.after ∙ sym (shows_driven look (core_after_cycle look (axis_core_at m n)).axis)
          ∙ sym (ap (λ (r : AxisRow). r.driven) row);
      inc = ap (λ (a : Axis). a.inc) through.after ∙ (laws.definitions.cycle look (axis_core_at m n)).inc;
    }

-- ---- the rows of an axis

-- an axis of the machine is the configured one
record IsOfDef (d : AxisDef) (a : Axis) : Type 0 where
  limits : a.limits ≡ d.limits
  inc : a.inc ≡ d.inc

of_def : (s : Setup) (m : Machine) (n : ℕ) (d : AxisDef) → slice_index_or s.axes n no_def ≡ d → IsMachineKept s m → n < length m.axes →
    (axis_at m n).inc ≡ d.inc → IsOfDef d (axis_at m n)
of_def s m n d is h l e = record { limits = (h.axes n l).limits ∙ ap (λ (x : AxisDef). x.limits) is; inc = e }

-- what rows say of drives, after an axis was driven or not
abbrev ShowDrives : AxisDef → Bool → List AxisRow → Type 0
ShowDrives d was rows =
    StandAtDrive d was rows × ((k : ℕ) (r : AxisRow) → slice_get rows k ≡ Some r → r.output.target ≡ count_of r.setpoint r.offset d.inc)

row_target : (d : AxisDef) (a : Axis) (r : AxisRow) → IsOfDef d a → ShowsDrive a r → r.output.target ≡ count_of r.setpoint r.offset d.inc
row_target d a r of shows = subst (λ z. r.output.target ≡ count_of r.setpoint r.offset z) of.inc shows.target

row_stands : (d : AxisDef) (a : Axis) (r : AxisRow) → IsOfDef d a → ShowsDrive a r → (a.driven && r.driven) ≡ false →
    r.setpoint ≡ place_of d.limits.lo r.input.actual r.offset d.inc
row_stands d a r of shows off =
    subst (λ z. r.setpoint ≡ place_of d.limits.lo r.input.actual r.offset z) of.inc
    (subst (λ (l : Limits). r.setpoint ≡ place_of l.lo r.input.actual r.offset a.inc) of.limits (shows.stands off))

one_more : (d : AxisDef) (a : Axis) (r : AxisRow) (more : List AxisRow) → IsOfDef d a → ShowsDrive a r → ShowDrives d r.driven more →
    ShowDrives d a.driven (r ∷ more)
one_more d a r more of shows rest = ((λ off. row_stands d a r of shows off, rest.0), each)
  where
    each : (k : ℕ) (x : AxisRow) → slice_get (r ∷ more) k ≡ Some x → x.output.target ≡ count_of x.setpoint x.offset d.inc
    each zero x at = subst (λ (y : AxisRow). y.output.target ≡ count_of y.setpoint y.offset d.inc) (same_Some r x at) (row_target d a r of shows)
    each (suc k) x at = rest.1 k x at

-- a call leaves an axis driven, or not
spell_there : (b : Bool) (t : Spell) → is_some (if b then Some t else None) ≡ b
spell_there true t = refl
spell_there false t = refl

stays_driven : (a b : Axis) → Stays a b → b.driven ≡ a.driven
stays_driven a b h =
    sym (spell_there b.driven (record { before = b.previous -ℤ b.offset; now = b.setpoint -ℤ b.offset }))
    ∙ ap is_some h.spell ∙ spell_there a.driven (record { before = a.previous -ℤ a.offset; now = a.setpoint -ℤ a.offset })

rows_show : DriveLaws → CallsMoveNoAxis → (s : Setup) (cycles : ℕ) (m : Machine) (es : List Entry) → AreWhole s → IsMachineKept s m → Follows s cycles m es →
    (n : ℕ) (d : AxisDef) → slice_index_or s.axes n no_def ≡ d → n < length s.axes → (axis_at m n).inc ≡ d.inc → ShowDrives d (axis_at m n).driven (rows_in n es)
rows_show laws calls s cycles m [] whole h f n d is l e = (tt, λ k r at. absurd (cc))
rows_show laws calls s cycles m (call k i reply ∷ es) whole h f n d is l e =
    let next = laws.machines.call s m k i whole f.0.0 h in
    let driven = stays_driven (axis_at m n) (axis_at (after_call s m k i) n) (call_left Stays (calls_leave_places calls) s m k i n) in
    let inc = (call_left KeepsDefinition (calls_leave_definitions laws.definitions) s m k i n).inc ∙ e in
    subst (λ b. ShowDrives d b (rows_in n es)) driven
    (rows_show laws calls s (cycles + cycle_count (call k i reply)) (after_call s m k i) es whole next f.1 n d is l inc)
rows_show laws calls s cycles m (cycle c rows grows ∷ es) whole h f n d is l e =
    let sizes = h.sized in
    let size = sizes.axes in
    let there : n < length m.axes = omega arith in
    let next = kept_by_cycle laws.machines s m rows grows h f.0.1 in
    let r = slice_index_or rows n no_row in
    let after = goes_on laws s m rows grows n h f.0.1 there in
    let rest = rows_show laws calls s (cycles + cycle_count (cycle c rows grows)) (after_cycle s m (inputs_of rows)) es whole next f.1 n d is l (after.inc ∙ e) in
    one_more d (axis_at m n) r (rows_in n es) (of_def s m n d is h there e) (shows_drive laws s m rows grows n h f.0.1 there)
    (subst (λ b. ShowDrives d b (rows_in n es)) after.driven rest)
rows_show laws calls s cycles m (end_of task ∷ es) whole h f n d is l e =
    rows_show laws calls s (cycles + cycle_count (end_of task)) m es whole h f.1 n d is l e

-- ---- from opening on

record IsOpened (d : AxisDef) (a : Axis) : Type 0 where
  driven : a.driven ≡ d.ready
  inc : a.inc ≡ d.inc

opened : (d : AxisDef) → IsOpened d (axis_at_opening d)
unfolding axis_at_opening
opened d = record { driven = refl; inc = refl }

past_shows : DriveLaws → CallsMoveNoAxis → (s : Setup) (es : List Entry) → IsSetup s → AreWhole s → IsPast s es → (n : ℕ) (d : AxisDef) →
    slice_get s.axes n ≡ Some d → ShowDrives d d.ready (rows_in n es)
past_shows laws calls s es setup whole past n d e =
    let m = machine_at_opening s in
    let at = is_there s.axes n d e in
    let same : axis_at m n ≡ axis_at_opening d = get_or-map axis_at_opening s.axes n no_def no_axis at.there ∙ ap axis_at_opening at.is in
    let start = subst (IsOpened d) (sym same) (opened d) in
    subst (λ b. ShowDrives d b (rows_in n es)) start.driven
    (rows_show laws calls s 0 m es whole (laws.machines.opened s setup whole) past.follows n d at.is at.there start.inc)

pub spells_begin : DriveLaws → CallsMoveNoAxis → (s : Setup) (es : List Entry) → IsSetup s → AreWhole s → IsPast s es → SpellsBeginAtDrives s es
unfolding SpellsBeginAtDrives
spells_begin laws calls s es setup whole past n d e = (past_shows laws calls s es setup whole past n d e).0

pub targets_follow : DriveLaws → CallsMoveNoAxis → ((s : Setup) → IsSetup s → IsSound s) → (s : Setup) (es : List Entry) → IsSetup s → AreWhole s → IsPast s es →
    TargetsFollowSetpoints s es
unfolding TargetsFollowSetpoints
targets_follow laws calls sound s es setup whole past n d e =
    let at = is_there s.axes n d e in
    let ranges : AreAxisRanges d = subst AreAxisRanges at.is (All-get_or AreAxisRanges s.axes n no_def at.there (sound s setup).axes) in
    let shown = past_shows laws calls s es setup whole past n d e in
    targets_from d.inc (rows_in n es) (λ k r there. follows d.inc r ranges.least (shown.1 k r there))

-- ---- whether a row is driven

-- a cycle of a history is the machine's
cycle_in : (s : Setup) (cycles : ℕ) (m : Machine) (made more : List Entry) (c : ℕ) (rows : List AxisRow) (grows : List GroupRow) →
    Follows s cycles m (made ++ cycle c rows grows ∷ more) → IsCycleOf s (replay s m made) rows grows
cycle_in s cycles m [] more c rows grows f = f.0.1
cycle_in s cycles m (e ∷ es) more c rows grows f = cycle_in s (cycles + cycle_count e) (after s m e) es more c rows grows f.1

-- a row of a list
found_row : (rows : List AxisRow) (n : ℕ) (r : AxisRow) → slice_get rows n ≡ Some r → slice_index_or rows n no_row ≡ r
found_row rows n r at = same_Some (slice_index_or rows n no_row) r (sym (get_is rows n no_row (there_where rows n r at)) ∙ at)

pub rows_driven : DriveLaws → (s : Setup) (es : List Entry) → IsSetup s → AreWhole s → IsPast s es → RowsAreDriven s es
unfolding RowsAreDriven machine_after
rows_driven laws s es setup whole past made more c n rows grows r e at =
    let whole_past = subst (IsPast s) e past in
    let m = replay s (machine_at_opening s) made in
    let kept = past_kept laws.machines s made setup whole (past_so_far s made (cycle c rows grows ∷ more) whole_past) in
    let one = cycle_in s 0 (machine_at_opening s) made more c rows grows whole_past.follows in
    let many = one.answers in
    let there = there_where rows n r at in
    let shows = shows_drive laws s m rows grows n kept one (omega arith) in
    subst (λ (x : AxisRow). x.driven ≡ is_driven (axis_at m n) x.input) (found_row rows n r at) shows.driven
