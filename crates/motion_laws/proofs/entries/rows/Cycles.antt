-- The rows of a cycle show the machine after it.
-- for: machines_can_stand, rows_show_the_machine, rows_show_errors and others
use Rattle.std.specs.Prelude.{◌≡◌, refl, ℕ, zero, suc, ◌<◌, ◌≤◌, Some, List, length, slice_get, slice_index_or, slice_set}
use Rattle.std.proofs.Common.{arith, ap, sym, subst, ◌∙◌, inl, inr}
use Rattle.std.proofs.lemmas.Bool.{cases_eq}
use Rattle.std.proofs.lemmas.List.{get_or-set_other, get_or-set_same, length_push}
use Rattle.std.proofs.lemmas.Option.{same_Some}
use Rattle.axis_core.specs.Cycles.{core_after_cycle, row_shown}
use Rattle.axis_core.specs.declared.axis.Axis.{Axis}
use Rattle.plc_types.specs.declared.axis.AxisRow.{AxisRow}
use Rattle.plc_types.specs.declared.drive.DriveIn.{DriveIn}
use Rattle.group_core.specs.Cycles.{row_of}
use Rattle.plc_types.specs.declared.group.GroupRow.{GroupRow}
use Rattle.motion_history.specs.Columns.{no_row}
use Rattle.motion_history.specs.Setup.{Setup}
use Rattle.motion_kernel.proofs.Lists.{get_is, index_before, index_last}
use Rattle.motion_kernel.proofs.cycles.OneAxis.{goes_through}
use Rattle.motion_kernel.proofs.kept.Machine.{MachinesStayKept}
use Rattle.motion_kernel.specs.Histories.{IsCycleOf, inputs_of}
use Rattle.motion_kernel.specs.Machine.{Machine, PlacedGroup, axis_at, axis_core_at, group_among, group_at, no_group}
use Rattle.motion_kernel.specs.cycles.Cycles.{after_cycle, cycled, look_of_axis}
use Rattle.motion_kernel.specs.cycles.GroupResets.{core_after_reset, groups_reset}
use Rattle.motion_kernel.specs.kept.Machine.{IsMachineKept}
use Rattle.motion_laws.specs.entries.GroupEvents.{moved_in}
use Rattle.motion_laws.proofs.entries.events.Cycles.{groups_moved, resets_count}
use Rattle.motion_kernel.proofs.owners.commands.Events.{there_where}
use Rattle.motion_laws.specs.entries.Rows.{ShowMachine, ShowsAxis, ShowsGroup}

-- what is found at a place of a list
found_at : {X : Type 0} (xs : List X) (n : ℕ) (x d : X) → slice_get xs n ≡ Some x →
    slice_index_or xs n d ≡ x
found_at xs n x d e =
    same_Some (slice_index_or xs n d) x (sym (get_is xs n d (there_where xs n x e)) ∙ e)

-- a row that an axis makes shows it
row_shows : (input : DriveIn) (a : Axis) → ShowsAxis (row_shown input a) a
unfolding row_shown
row_shows input a = record {
  state = refl;
  error = refl;
  driven = refl;
  setpoint = refl;
  offset = refl;
}

axis_row_shows : MachinesStayKept → (s : Setup) (m : Machine) (rows : List AxisRow)
    (grows : List GroupRow) (n : ℕ) (r : AxisRow) → IsMachineKept s m → IsCycleOf s m rows grows →
    slice_get rows n ≡ Some r → ShowsAxis r (axis_at (after_cycle s m (inputs_of rows)) n)
axis_row_shows laws s m rows grows n r h is at =
    let ins = inputs_of rows in
    let there = there_where rows n r at in
    let answers = is.answers in
    let through = goes_through s m ins n h (laws.may_go_on s m ins h) (omega arith) in
    let look = look_of_axis s m ins n in
    let made = (core_after_cycle look (axis_core_at m n)).axis in
    let row : row_shown look.input made ≡ r =
    sym through.row ∙ ap (λ rs. slice_index_or rs n no_row) (sym is.axes)
    ∙ found_at rows n r no_row at in
    let P : AxisRow → Type 0 = λ x. ShowsAxis x (axis_at (after_cycle s m ins) n) in
    let Q : Axis → Type 0 = λ a. ShowsAxis (row_shown look.input made) a in
    subst P row (subst Q (sym through.after) (row_shows look.input made))

-- a row before there is one
no_group_row : GroupRow
no_group_row = row_of no_group.group

-- the rows of the groups before n
record AreShown (n : ℕ) (x : Machine) (rows : List GroupRow) : Type 0 where
  many : length rows ≡ n
  shown : (k : ℕ) → k < n → slice_index_or rows k no_group_row ≡ row_of (group_at x k).group

groups_show : (s : Setup) (n : ℕ) (m : Machine) → n ≤ length m.groups →
    AreShown n (groups_reset s n m).machine (groups_reset s n m).rows
unfolding groups_reset
groups_show s zero m l = record { many = refl; shown = λ k b. absurd (omega arith) }
groups_show s (suc n) m l =
    let so_far = groups_show s n m (omega arith) in
    let x = (groups_reset s n m).machine in
    let rows = (groups_reset s n m).rows in
    let c = core_after_reset s n x in
    let g : PlacedGroup = record { group = c.group; path = c.path } in
    let many = so_far.many in
    let count = resets_count s n m in
    let written : group_among (slice_set x.groups n g) n ≡ g = get_or-set_same x.groups n g no_group
    (omega arith) in
    record {
      many = let pushed = length_push rows (row_of c.group) in omega arith;
      shown = λ k b. elim (cases_eq k n) [
        | inl e ↦ index_last rows (row_of c.group) k no_group_row (e ∙ sym many)
            ∙ ap (λ (y : PlacedGroup). row_of y.group) (sym written)
            ∙ ap (λ j. row_of (group_among (slice_set x.groups n g) j).group) (sym e)
        | inr d ↦ index_before rows (row_of c.group) k no_group_row (omega arith)
            ∙ so_far.shown k (omega arith)
            ∙ ap (λ (y : PlacedGroup). row_of y.group)
            (sym (get_or-set_other x.groups n k g no_group d))
      ];
    }

rows_reset : (s : Setup) (m : Machine) (ins : List DriveIn) → (cycled s m ins).groups ≡
    (groups_reset s (length (moved_in s m ins).groups) (moved_in s m ins)).rows
unfolding cycled
rows_reset s m ins = refl

row_shows_group : (r : GroupRow) (g : PlacedGroup) → row_of g.group ≡ r → ShowsGroup r g.group
row_shows_group r g e = record {
  state = ap (λ (x : GroupRow). x.state) (sym e);
  error = ap (λ (x : GroupRow). x.error) (sym e);
}

group_row_shows : (s : Setup) (m : Machine) (rows : List AxisRow) (grows : List GroupRow) (j : ℕ)
    (r : GroupRow) → IsCycleOf s m rows grows → slice_get grows j ≡ Some r →
    ShowsGroup r (group_at (after_cycle s m (inputs_of rows)) j).group
group_row_shows s m rows grows j r is at =
    let ins = inputs_of rows in
    let moved = moved_in s m ins in
    let all = groups_show s (length moved.groups) moved (omega arith) in
    let same : grows ≡ (groups_reset s (length moved.groups) moved).rows =
    is.groups ∙ rows_reset s m ins in
    let there = there_where grows j r at in
    let many = all.many in
    let long = ap length same in
    let shown = all.shown j (omega arith) in
    let after : group_at (after_cycle s m ins) j ≡
    group_at (groups_reset s (length moved.groups) moved).machine j =
    ap (λ gs. group_among gs j) (groups_moved s m ins) in
    row_shows_group r (group_at (after_cycle s m ins) j)
    (ap (λ (y : PlacedGroup). row_of y.group) after ∙ sym shown
    ∙ ap (λ gs. slice_index_or gs j no_group_row) (sym same) ∙ found_at grows j r no_group_row at)

pub cycle_shows : MachinesStayKept → (s : Setup) (m : Machine) (rows : List AxisRow)
    (grows : List GroupRow) → IsMachineKept s m → IsCycleOf s m rows grows →
    ShowMachine (after_cycle s m (inputs_of rows)) rows grows
cycle_shows laws s m rows grows h is = record {
  axes = λ n r at. axis_row_shows laws s m rows grows n r h is at;
  groups = λ j r at. group_row_shows s m rows grows j r is at;
}
