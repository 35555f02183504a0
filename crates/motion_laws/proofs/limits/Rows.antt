-- Every row of a past keeps its axis's limits.
-- for: rows_keep_limits, spells_begin_at_drives, targets_follow_setpoints
use Rattle.std.specs.Prelude.{◌≡◌, refl, ℕ, zero, suc, ◌+◌, ◌<◌, pos, ◌-ℤ◌, Option, Some, List, [], ◌∷◌, length, slice_get, slice_index_or}
use Rattle.std.proofs.Common.{arith, ap, sym, subst, ◌∙◌}
use Rattle.std.proofs.lemmas.Int.{ints}
use Rattle.std.proofs.lemmas.List.{get_or-map}
use Rattle.axis_core.specs.Cycles.{axis_at_opening}
use Rattle.axis_core.specs.Rows.{Stays, spell_of}
use Rattle.axis_core.specs.declared.axis.Axis.{Axis}
use Rattle.axis_state.specs.Spells.{KeepsLimits, KeepsRow, Spell, opening_spell}
use Rattle.plc_types.specs.declared.axis.AxisDef.{AxisDef}
use Rattle.plc_types.specs.declared.axis.AxisRow.{AxisRow}
use Rattle.plc_types.specs.declared.group.GroupRow.{GroupRow}
use Rattle.plc_types.specs.declared.limits.Limits.{Limits}
use Rattle.motion_history.specs.Columns.{no_row, rows_in}
use Rattle.motion_laws.specs.limits.Rows.{KeepTheirLimits}
use Rattle.motion_history.specs.Entries.{Entry, call, cycle, cycle_count, end_of}
use Rattle.motion_history.specs.Setup.{Setup, IsSetup}
use Rattle.motion_kernel.specs.calls.Calls.{after_call}
use Rattle.motion_kernel.specs.cycles.Cycles.{after_cycle, cycled}
use Rattle.motion_kernel.specs.Histories.{Follows, IsCycleOf, IsPast, inputs_of}
use Rattle.motion_kernel.specs.Machine.{Machine, axis_at, machine_at_opening, no_axis}
use Rattle.motion_kernel.specs.kept.Machine.{AreWhole, IsMachineKept, limits_of, no_def}
use Rattle.motion_kernel.proofs.calls.AxesLeft.{call_left}
use Rattle.motion_kernel.proofs.kept.Machine.{MachinesStayKept, kept_by_cycle}
use Rattle.motion_laws.proofs.limits.Places.{CallsMoveNoAxis, calls_leave_places}
use Rattle.motion_laws.proofs.limits.CycleRows.{RowsKeepSpells, cycle_keeps}

-- the laws on which it rests that rows keep limits
pub record LimitLaws : Type 0 where
  pub machines : MachinesStayKept
  pub calls : CallsMoveNoAxis
  pub rows : RowsKeepSpells

-- rows that an axis makes from where it is in a machine keep its limits
abbrev KeepFrom : Setup → ℕ → Axis → List AxisRow → Type 0
KeepFrom s n a rows = KeepsLimits (limits_of s n) (spell_of a) rows

-- one row more, of a cycle
rows_from : LimitLaws → (s : Setup) (m : Machine) (n : ℕ) (rows : List AxisRow) (grows : List GroupRow) (more : List AxisRow) → IsMachineKept s m →
    n < length m.axes → IsCycleOf s m rows grows → KeepFrom s n (axis_at (after_cycle s m (inputs_of rows)) n) more →
    KeepFrom s n (axis_at m n) (slice_index_or rows n no_row ∷ more)
rows_from laws s m n rows grows more h l is rest =
    let ins = inputs_of rows in
    let a = axis_at m n in
    let made = slice_index_or (cycled s m ins).axes n no_row in
    let row : slice_index_or rows n no_row ≡ made = ap (λ rs. slice_index_or rs n no_row) is.axes in
    let one = cycle_keeps laws.rows s m ins n h (laws.machines.may_go_on s m ins h) l in
    let P : Limits → Type 0 = λ ls. KeepsRow ls (spell_of a) made in
    let R : Option Spell → Type 0 = λ t. KeepsLimits (limits_of s n) t more in
    let Q : AxisRow → Type 0 = λ r. KeepFrom s n a (r ∷ more) in
    let all : KeepFrom s n a (made ∷ more) = (λ driven. subst P (h.axes n l).limits (one.keeps driven), subst R (sym one.leads) rest) in
    subst Q (sym row) all

-- the rows of an axis from a kept machine on
rows_keep : LimitLaws → (s : Setup) (cycles : ℕ) (m : Machine) (es : List Entry) → AreWhole s → IsMachineKept s m → Follows s cycles m es →
    (n : ℕ) → n < length s.axes → KeepFrom s n (axis_at m n) (rows_in n es)
rows_keep laws s cycles m [] whole h f n l = tt
rows_keep laws s cycles m (call k i reply ∷ es) whole h f n l =
    let next = laws.machines.call s m k i whole f.0.0 h in
    let more = rows_keep laws s (cycles + cycle_count (call k i reply)) (after_call s m k i) es whole next f.1 n l in
    let P : Option Spell → Type 0 = λ t. KeepsLimits (limits_of s n) t (rows_in n es) in
    subst P (call_left Stays (calls_leave_places laws.calls) s m k i n).spell more
rows_keep laws s cycles m (cycle c rows grows ∷ es) whole h f n l =
    let next = kept_by_cycle laws.machines s m rows grows h f.0.1 in
    let sizes = h.sized in
    let size = sizes.axes in
    rows_from laws s m n rows grows (rows_in n es) h (omega arith) f.0.1
    (rows_keep laws s (cycles + cycle_count (cycle c rows grows)) (after_cycle s m (inputs_of rows)) es whole next f.1 n l)
rows_keep laws s cycles m (end_of task ∷ es) whole h f n l = rows_keep laws s (cycles + cycle_count (end_of task)) m es whole h f.1 n l

-- an axis of a configuration
pub record IsThere (axes : List AxisDef) (n : ℕ) (d : AxisDef) : Type 0 where
  pub there : n < length axes
  pub is : slice_index_or axes n no_def ≡ d

pub is_there : (axes : List AxisDef) (n : ℕ) (d : AxisDef) → slice_get axes n ≡ Some d → IsThere axes n d
is_there [] n d e = absurd (cc)
is_there (a ∷ more) zero d e = record { there = omega arith; is = cc }
is_there (a ∷ more) (suc n) d e =
    let h = is_there more n d e in
    record { there = let l = h.there in omega arith; is = h.is }

-- at opening
opens_in : (d : AxisDef) → spell_of (axis_at_opening d) ≡ opening_spell d
unfolding axis_at_opening
opens_in d = let same : d.start -ℤ pos 0 ≡ d.start = omega (arith, ints) in rw same refl

-- every row of a past keeps its axis's limits
pub limits_kept : LimitLaws → (s : Setup) (es : List Entry) → IsSetup s → AreWhole s → IsPast s es → KeepTheirLimits s es
unfolding KeepTheirLimits
limits_kept laws s es setup whole past n d e =
    let m = machine_at_opening s in
    let at = is_there s.axes n d e in
    let rows = rows_keep laws s 0 m es whole (laws.machines.opened s setup whole) past.follows n at.there in
    let opened : axis_at m n ≡ axis_at_opening d = get_or-map axis_at_opening s.axes n no_def no_axis at.there ∙ ap axis_at_opening at.is in
    let P : Axis → Type 0 = λ a. KeepFrom s n a (rows_in n es) in
    let Q : Option Spell → Type 0 = λ t. KeepsLimits (limits_of s n) t (rows_in n es) in
    let R : AxisDef → Type 0 = λ x. KeepsLimits x.limits (opening_spell d) (rows_in n es) in
    subst R at.is (subst Q (opens_in d) (subst P opened rows))
