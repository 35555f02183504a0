-- The rows of a past are counted.
-- for: rows_are_counted
use Rattle.std.specs.Prelude.{◌≡◌, refl, ℕ, pos, zero, suc, ◌+◌, ◌*◌, ◌^◌, ◌<◌, ◌≤◌, ℤ, neg_ℤ, ◌-ℤ◌, ◌≤ℤ◌, unsigned_abs, List, [], ◌∷◌, ◌++◌, length, slice_index_or, FitsSigned}
use Rattle.std.specs.Int.{w64}
use Rattle.std.specs.List.{AllZip}
use Rattle.std.proofs.Common.{arith, ap, sym, subst, ◌∙◌}
use Rattle.std.proofs.lemmas.Int.{ints}
use Rattle.std.proofs.lemmas.List.{get_or-map, length-map}
use Rattle.std.proofs.lemmas.List.Elements.{All-get_or}
use Rattle.axis_core.specs.Along.{KeepsDefinition}
use Rattle.axis_core.specs.Cycles.{axis_at_opening, core_after_cycle, row_shown}
use Rattle.axis_core.specs.declared.axis.Axis.{Axis}
use Rattle.plc_types.specs.Counts.{HasCounts, IsCount, place_of}
use Rattle.plc_types.specs.declared.axis.AxisDef.{AxisDef}
use Rattle.plc_types.specs.declared.axis.AxisRow.{AxisRow}
use Rattle.plc_types.specs.declared.drive.DriveIn.{DriveIn}
use Rattle.plc_types.specs.declared.inputs.Inputs.{Inputs}
use Rattle.plc_types.specs.declared.group.GroupRow.{GroupRow}
use Rattle.plc_types.specs.declared.limits.Limits.{Limits}
use Rattle.motion_numbers.specs.declared.TheConstants.{MOST_INCREMENT, MOST_PLACE}
use Rattle.motion_history.specs.AxisRanges.{AreAxisRanges}
use Rattle.motion_history.specs.Columns.{no_row}
use Rattle.motion_history.specs.Configurations.{IsSound}
use Rattle.motion_history.specs.Entries.{Entry, call, cycle, cycle_count, end_of}
use Rattle.motion_history.specs.Setup.{Setup, IsSetup}
use Rattle.motion_kernel.specs.cycles.Cycles.{look_of_axis, after_cycle, cycled}
use Rattle.motion_kernel.specs.calls.Calls.{after_call}
use Rattle.motion_kernel.specs.Counted.{IsCounted, RowsAreCounted}
use Rattle.motion_kernel.specs.looks.DriveAnswers.{no_answer}
use Rattle.motion_kernel.specs.Histories.{Follows, IsCycleOf, IsPast, inputs_of}
use Rattle.motion_kernel.specs.Machine.{Machine, axis_at, axis_core_at, machine_at_opening, no_axis}
use Rattle.motion_kernel.specs.kept.Machine.{AreWhole, IsMachineKept, limits_of, no_def}
use Rattle.motion_kernel.proofs.kept.Laws.{AxesKeepDefinitions}
use Rattle.motion_kernel.proofs.calls.AxesLeft.{call_left, calls_leave_definitions}
use Rattle.motion_kernel.proofs.cycles.OneAxis.{goes_through}
use Rattle.motion_kernel.proofs.kept.Machine.{MachinesStayKept, kept_by_cycle}

-- the offset of an axis is small
abbrev OffsetsAreSmall : Type 0
OffsetsAreSmall = (limits : Limits) (offset inc : ℤ) → pos 1 ≤ℤ inc → inc ≤ℤ pos MOST_INCREMENT →
    neg_ℤ (pos MOST_PLACE) ≤ℤ limits.lo → limits.lo ≤ℤ limits.hi → limits.hi ≤ℤ pos MOST_PLACE →
    HasCounts limits offset inc → unsigned_abs offset ≤ MOST_PLACE + 2 ^ 31 * MOST_INCREMENT

-- the place of a count lies near the offset
abbrev PlacesAreNear : Type 0
PlacesAreNear = (lo count offset inc : ℤ) → pos 1 ≤ℤ inc → inc ≤ℤ pos MOST_INCREMENT →
    IsCount count →
    unsigned_abs (place_of lo count offset inc -ℤ offset) ≤ (2 ^ 31 + 1) * MOST_INCREMENT

-- the laws on which it rests
pub record CountLaws : Type 0 where
  pub machines : MachinesStayKept
  pub definitions : AxesKeepDefinitions
  pub sound : (s : Setup) → IsSetup s → IsSound s
  pub offsets : OffsetsAreSmall
  pub near : PlacesAreNear

-- ---- places

-- near a small offset a place has 64 bits
near_small : (place offset : ℤ) → unsigned_abs (place -ℤ offset) ≤ 2147483649000000000 →
    unsigned_abs offset ≤ 2148483648000000000 → FitsSigned w64 place
near_small place offset near small = omega (arith, ints, near, small)

-- so has the place that a drive reports
place_fits : CountLaws → (d : AxisDef) (r : AxisRow) → AreAxisRanges d →
    HasCounts d.limits r.offset d.inc → IsCount r.input.actual →
    FitsSigned w64 (place_of d.limits.lo r.input.actual r.offset d.inc)
place_fits laws d r ranges places reported =
    near_small (place_of d.limits.lo r.input.actual r.offset d.inc) r.offset
    (laws.near d.limits.lo r.input.actual r.offset d.inc ranges.least ranges.most reported)
    (laws.offsets d.limits r.offset d.inc ranges.least ranges.most
    (let l = ranges.limits.lo_in_range in omega (arith, ints, l)) ranges.limits.ordered ranges.top
    places)

-- ---- rows

-- the increment of each axis is its configured one
abbrev inc_of : Setup → ℕ → ℤ
inc_of s n = (slice_index_or s.axes n no_def).inc

abbrev AreConfigured : Setup → Machine → Type 0
AreConfigured s m = (n : ℕ) → n < length s.axes → (axis_at m n).inc ≡ inc_of s n

configured_at_opening : (s : Setup) → AreConfigured s (machine_at_opening s)
unfolding axis_at_opening
configured_at_opening s n l = ap (λ (a : Axis). a.inc) (get_or-map axis_at_opening s.axes n no_def no_axis l)

configured_by_call : CountLaws → (s : Setup) (m : Machine) (k : ℕ) (i : Inputs) → AreConfigured s m → AreConfigured s (after_call s m k i)
configured_by_call laws s m k i h n l =
    (call_left KeepsDefinition (calls_leave_definitions laws.definitions) s m k i n).inc ∙ h n l

configured_by_cycle : CountLaws → (s : Setup) (m : Machine) (ins : List DriveIn) → IsMachineKept s m → AreConfigured s m → AreConfigured s (after_cycle s m ins)
configured_by_cycle laws s m ins kept h n l =
    let sizes = kept.sized in
    let size = sizes.axes in
    let look = look_of_axis s m ins n in
    let through = goes_through s m ins n kept (laws.machines.may_go_on s m ins kept) (omega arith) in
    ap (λ (a : Axis). a.inc) through.after ∙ (laws.definitions.cycle look (axis_core_at m n)).inc ∙ h n l

-- a row shows the offset of its axis
shows_offset : (input : DriveIn) (a : Axis) → (row_shown input a).offset ≡ a.offset
unfolding row_shown
shows_offset input a = refl

-- and a mode
shows_mode : (input : DriveIn) (a : Axis) → (row_shown input a).output.mode ≡ pos 8
unfolding row_shown
shows_mode input a = refl

-- so it is counted
row_counted : CountLaws → (s : Setup) (m : Machine) (rows : List AxisRow) (grows : List GroupRow) → IsSetup s → IsMachineKept s m → AreConfigured s m →
    IsCycleOf s m rows grows → (n : ℕ) → n < length s.axes → IsCounted (slice_index_or s.axes n no_def) (slice_index_or rows n no_row)
row_counted laws s m rows grows setup kept h is n l =
    let ins = inputs_of rows in
    let sizes = kept.sized in
    let size = sizes.axes in
    let b : n < length m.axes = omega arith in
    let many = is.answers in
    let look = look_of_axis s m ins n in
    let through = goes_through s m ins n kept (laws.machines.may_go_on s m ins kept) b in
    let next = kept_by_cycle laws.machines s m rows grows kept is in
    let a = axis_at (after_cycle s m ins) n in
    let row : slice_index_or rows n no_row ≡ slice_index_or (cycled s m ins).axes n no_row = ap (λ rs. slice_index_or rs n no_row) is.axes in
    let offset : (slice_index_or rows n no_row).offset ≡ a.offset =
    ap (λ (r : AxisRow). r.offset) (row ∙ through.row) ∙ shows_offset look.input (core_after_cycle look (axis_core_at m n)).axis
    ∙ ap (λ (x : Axis). x.offset) (sym through.after) in
    let mode : (slice_index_or rows n no_row).output.mode ≡ pos 8 =
    ap (λ (r : AxisRow). r.output.mode) (row ∙ through.row) ∙ shows_mode look.input (core_after_cycle look (axis_core_at m n)).axis in
    let inc : a.inc ≡ inc_of s n = configured_by_cycle laws s m ins kept h n l in
    let next_sizes = next.sized in
    let next_size = next_sizes.axes in
    let here = next.axes n (omega arith) in
    let places : HasCounts (limits_of s n) (slice_index_or rows n no_row).offset (inc_of s n) =
    subst (λ z. HasCounts (limits_of s n) z (inc_of s n)) (sym offset)
    (subst (λ z. HasCounts (limits_of s n) a.offset z) inc
    (subst (λ (x : Limits). HasCounts x a.offset a.inc) here.limits here.core.axis.base.counts)) in
    let reported : IsCount (slice_index_or rows n no_row).input.actual =
    subst (λ (d : DriveIn). IsCount d.actual) (get_or-map (λ (r : AxisRow). r.input) rows n no_row no_answer (omega arith))
    (All-get_or (λ (d : DriveIn). IsCount d.actual) (inputs_of rows) n no_answer (let long = length-map rows (λ (r : AxisRow). r.input) in omega arith) is.counts) in
    record {
      places = places;
      reported = reported;
      place = place_fits laws (slice_index_or s.axes n no_def) (slice_index_or rows n no_row)
          (All-get_or AreAxisRanges s.axes n no_def l (laws.sound s setup).axes) places reported;
      mode = mode;
    }

-- what holds place by place holds of the lists
in_each_place : (P : AxisDef → AxisRow → Type 0) (ds : List AxisDef) (rs : List AxisRow) → length rs ≡ length ds →
    ((n : ℕ) → n < length ds → P (slice_index_or ds n no_def) (slice_index_or rs n no_row)) → AllZip P ds rs
in_each_place P [] [] e h = tt
in_each_place P [] (r ∷ rs) e h = absurd (cc)
in_each_place P (d ∷ ds) [] e h = absurd (cc)
in_each_place P (d ∷ ds) (r ∷ rs) e h = (h zero (omega arith), in_each_place P ds rs (omega arith) (λ n l. h (suc n) (omega arith)))

-- the rows of a cycle
rows_counted : CountLaws → (s : Setup) (m : Machine) (rows : List AxisRow) (grows : List GroupRow) → IsSetup s → IsMachineKept s m → AreConfigured s m →
    IsCycleOf s m rows grows → AllZip IsCounted s.axes rows
rows_counted laws s m rows grows setup kept h is =
    let sizes = kept.sized in
    in_each_place IsCounted s.axes rows (is.answers ∙ sizes.axes) (row_counted laws s m rows grows setup kept h is)

-- the machine and its increments over entries
counted_from : CountLaws → (s : Setup) (cycles : ℕ) (m : Machine) (made more : List Entry) (n : ℕ) (rows : List AxisRow) (grows : List GroupRow) →
    IsSetup s → AreWhole s → IsMachineKept s m → AreConfigured s m → Follows s cycles m (made ++ cycle n rows grows ∷ more) → AllZip IsCounted s.axes rows
counted_from laws s cycles m [] more n rows grows setup whole kept h f = rows_counted laws s m rows grows setup kept h f.0.1
counted_from laws s cycles m (call k i reply ∷ made) more n rows grows setup whole kept h f =
    counted_from laws s (cycles + cycle_count (call k i reply)) (after_call s m k i) made more n rows grows setup whole
    (laws.machines.call s m k i whole f.0.0 kept) (configured_by_call laws s m k i h) f.1
counted_from laws s cycles m (cycle c rs gs ∷ made) more n rows grows setup whole kept h f =
    counted_from laws s (cycles + cycle_count (cycle c rs gs)) (after_cycle s m (inputs_of rs)) made more n rows grows setup whole
    (kept_by_cycle laws.machines s m rs gs kept f.0.1) (configured_by_cycle laws s m (inputs_of rs) kept h) f.1
counted_from laws s cycles m (end_of task ∷ made) more n rows grows setup whole kept h f =
    counted_from laws s (cycles + cycle_count (end_of task)) m made more n rows grows setup whole kept h f.1

-- in a past each row is counted
pub all_counted : CountLaws → (s : Setup) (es : List Entry) → IsSetup s → AreWhole s → IsPast s es → RowsAreCounted s es
all_counted laws s es setup whole past made more n rows grows is =
    counted_from laws s 0 (machine_at_opening s) made more n rows grows setup whole (laws.machines.opened s setup whole) (configured_at_opening s)
    (subst (Follows s 0 (machine_at_opening s)) is past.follows)
