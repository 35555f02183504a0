-- Axes and groups have errors exactly in their states of errors after a cycle.
-- for: machines_can_stand, rows_show_errors, errors_have_causes
use Rattle.std.specs.Prelude.{◌≡◌, refl, ℕ, zero, suc, ◌<◌, ◌≤◌, Bool, true, false, nat_eq, if◌then◌else◌, is_some, List, [], ◌∷◌, length, slice_set}
use Rattle.std.proofs.Common.{arith, ap, sym, subst, inl, inr}
use Rattle.std.proofs.lemmas.Bool.{cases_eq}
use Rattle.std.proofs.lemmas.List.{get_or-set_other, get_or-set_same}
use Rattle.axis_core.specs.Drives.{answer_error_of, has_fault, new_error_of}
use Rattle.axis_core.specs.Shown as axis_shown
use Rattle.axis_core.specs.declared.axis.Axis.{Axis}
use Rattle.axis_state.specs.States.{is_error_stop}
use Rattle.plc_types.specs.declared.drive.DriveIn.{DriveIn}
use Rattle.group_core.specs.Cores.{Core}
use Rattle.group_core.specs.Shown as group_shown
use Rattle.motion_history.specs.Setup.{Setup}
use Rattle.motion_kernel.specs.Machine.{Machine, PlacedGroup, axis_at, axis_among, axis_core_at, group_among, group_at, group_core_at, no_group}
use Rattle.motion_kernel.specs.cycles.Cycles.{after_cycle, around_in, look_of_axis, stepped_in}
use Rattle.motion_kernel.specs.cycles.GroupResets.{core_after_reset, groups_reset}
use Rattle.motion_kernel.specs.kept.Machine.{IsMachineKept}
use Rattle.motion_kernel.specs.looks.DriveAnswers.{answer_at, first_error}
use Rattle.motion_kernel.specs.looks.GroupLooks.{group_look}
use Rattle.motion_kernel.specs.members.Members.{members_at}
use Rattle.motion_kernel.proofs.cycles.OneAxis.{goes_through}
use Rattle.motion_kernel.proofs.cycles.Rows.{axes_groups}
use Rattle.motion_kernel.proofs.kept.GroupSteps.{have_stepped}
use Rattle.motion_laws.specs.entries.GroupEvents.{moved_in}
use Rattle.motion_laws.specs.Standing.{AreAllShown, ShowsTruly}
use Rattle.motion_laws.proofs.entries.errors.Laws.{ErrorLaws, GroupErrors}
use Rattle.motion_laws.proofs.entries.events.Cycles.{groups_moved, resets_count}

-- an axis
axis_shown_after : ErrorLaws → (s : Setup) (m : Machine) (ins : List DriveIn) (n : ℕ) →
    IsMachineKept s m → n < length m.axes → axis_shown.IsShown (axis_at m n) →
    axis_shown.IsShown (axis_at (after_cycle s m ins) n)
axis_shown_after laws s m ins n h l shown =
    let goes = goes_through s m ins n h (laws.machines.may_go_on s m ins h) l in
    let by = laws.axes in
    subst (λ (a : Axis). axis_shown.IsShown a) (sym goes.after)
    (by.cycle (look_of_axis s m ins n) (axis_core_at m n) shown)

-- each group among these has an error exactly in GroupErrorStop
abbrev AreShown : List PlacedGroup → Type 0
AreShown gs = (k : ℕ) → k < length gs → ShowsTruly (group_among gs k).group

-- the groups after their GroupResets
resets_shown : GroupErrors → (s : Setup) (n : ℕ) (m : Machine) → n ≤ length m.groups →
    AreShown m.groups → AreShown (groups_reset s n m).machine.groups
unfolding groups_reset
resets_shown laws s zero m l h = h
resets_shown laws s (suc n) m l h = λ k b.
    let so_far = resets_shown laws s n m (omega arith) h in
    let x = (groups_reset s n m).machine in
    let c = core_after_reset s n x in
    let g : PlacedGroup = record { group = c.group; path = c.path } in
    let count = resets_count s n m in
    let more = resets_count s (suc n) m in
    let P : PlacedGroup → Type 0 = λ (y : PlacedGroup). ShowsTruly y.group in
    elim (cases_eq k n) [
      | inl e ↦ subst (λ j. P (group_among (slice_set x.groups n g) j)) (sym e)
          (subst P (sym (get_or-set_same x.groups n g no_group (omega arith)))
          (laws.reset (group_look s x n 0) (is_some (group_at x n).path) (group_at x n).group
          (so_far n (omega arith))))
      | inr d ↦ subst P (sym (get_or-set_other x.groups n k g no_group d))
          (so_far k (omega arith))
    ]

-- the error that a drive's answer brings
new_error : (fault lost outside : Bool) →
    group_shown.IsErrorOrNone (if fault then 101 else if lost then 102 else if outside then 105 else 0)
new_error true _ _ h = record { least = omega arith; most = omega arith }
new_error false true _ h = record { least = omega arith; most = omega arith }
new_error false false true h = record { least = omega arith; most = omega arith }
new_error false false false h = absurd (h refl)

answer_error : (a : Axis) (input : DriveIn) → group_shown.IsErrorOrNone (answer_error_of a input)
unfolding answer_error_of
answer_error a input =
    elim (is_error_stop a.state) as
    (λ b. group_shown.IsErrorOrNone (if b then 0 else new_error_of a input))
    [ true ↦ λ h. absurd (h refl) | false ↦ new_error (has_fault input) _ _ ]

-- the first one of a group's axes
axes_error : (axes : List Axis) (ins : List DriveIn) (ns : List ℕ) →
    group_shown.IsErrorOrNone (first_error axes ins ns)
axes_error axes ins [] = λ h. absurd (h refl)
axes_error axes ins (n ∷ ns) =
    let error = answer_error_of (axis_among axes n) (answer_at ins n) in
    elim (nat_eq error 0) as
    (λ b. group_shown.IsErrorOrNone (if b then first_error axes ins ns else error))
    [ true ↦ axes_error axes ins ns | false ↦ answer_error (axis_among axes n) (answer_at ins n) ]

-- a group
group_shown_after : ErrorLaws → (s : Setup) (m : Machine) (ins : List DriveIn) (j : ℕ) →
    IsMachineKept s m → AreShown m.groups → j < length m.groups →
    ShowsTruly (group_at (after_cycle s m ins) j).group
group_shown_after laws s m ins j h shown l =
    let stepped = (stepped_in s ins m).machine in
    let moved = moved_in s m ins in
    let steps = have_stepped s m ins (length m.groups) h (omega arith) in
    let by = laws.groups in
    let sizes = steps.size in
    let size = sizes.groups in
    let step : AreShown stepped.groups = λ k b.
    let one = steps.each k (omega arith) in
    subst (λ (c : Core). ShowsTruly c.group) (sym one.core)
    (by.cycle one.seen (group_core_at m k) one.looking.kept
    (subst group_shown.IsErrorOrNone (sym one.error) (axes_error m.axes ins (members_at s k)))
    (shown k (omega arith))) in
    let same : moved.groups ≡ stepped.groups =
    axes_groups s (length stepped.axes) (around_in s ins m) stepped in
    let count = ap length same in
    let reset = groups_reset s (length moved.groups) moved in
    let many = resets_count s (length moved.groups) moved in
    let all = resets_shown laws.groups s (length moved.groups) moved (omega arith)
    (subst AreShown (sym same) step) in
    subst (λ gs. ShowsTruly (group_among gs j).group) (sym (groups_moved s m ins))
    (all j (omega arith))

-- after a cycle
pub cycle_shown : ErrorLaws → (s : Setup) (m : Machine) (ins : List DriveIn) → IsMachineKept s m →
    AreAllShown s m → AreAllShown s (after_cycle s m ins)
cycle_shown laws s m ins h shown =
    let sizes = h.sized in
    let a = sizes.axes in
    let g = sizes.groups in
    record {
      axes = λ n l. axis_shown_after laws s m ins n h (omega arith) (shown.axes n l);
      groups = λ j l. group_shown_after laws s m ins j h
          (λ k b. shown.groups k (omega arith)) (omega arith);
    }
