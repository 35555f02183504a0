-- Each axis and each group changes its state by its events in a cycle.
-- for: machines_can_stand, states_change_by_their_events, rows_show_the_machine and others
use Rattle.std.specs.Prelude.{◌≡◌, refl, ℕ, zero, suc, ◌<◌, ◌≤◌, is_some, List, length, slice_set}
use Rattle.std.proofs.Common.{arith, ap, sym, subst, ◌∙◌, inl, inr}
use Rattle.std.proofs.lemmas.Bool.{cases_eq}
use Rattle.std.proofs.lemmas.List.{get_or-set_other, get_or-set_same, length-set}
use Rattle.axis_core.specs.declared.axis.Axis.{Axis}
use Rattle.plc_types.specs.declared.axis.AxisRow.{AxisRow}
use Rattle.plc_types.specs.declared.drive.DriveIn.{DriveIn}
use Rattle.group_core.specs.Cores.{Core}
use Rattle.group_core.specs.declared.group.Group.{Group}
use Rattle.group_core.specs.declared.look.GroupLook.{GroupLook}
use Rattle.plc_types.specs.declared.group.GroupRow.{GroupRow}
use Rattle.motion_history.specs.Entries.{cycle}
use Rattle.motion_history.specs.Setup.{Setup}
use Rattle.motion_kernel.specs.Histories.{inputs_of}
use Rattle.motion_kernel.specs.Machine.{Machine, PlacedGroup, axis_at, axis_core_at, group_among, group_at, group_core_at, no_group}
use Rattle.motion_kernel.specs.cycles.Cycles.{after_cycle, around_in, cycled, look_of_axis, look_of_group, stepped_in}
use Rattle.motion_kernel.specs.cycles.Showing.{with_found}
use Rattle.motion_kernel.specs.cycles.GroupResets.{core_after_reset, groups_reset}
use Rattle.motion_kernel.specs.kept.Machine.{IsMachineKept}
use Rattle.motion_kernel.specs.looks.GroupLooks.{group_look}
use Rattle.motion_kernel.proofs.cycles.OneAxis.{goes_through}
use Rattle.motion_kernel.proofs.cycles.Rows.{axes_groups}
use Rattle.motion_kernel.proofs.kept.GroupSteps.{have_stepped}
use Rattle.motion_laws.specs.entries.Events.{GoByEvents}
use Rattle.motion_laws.specs.entries.GroupEvents.{moved_in, events_in_cycle, look_of_reset, stepped_group}
use Rattle.motion_laws.proofs.entries.events.Laws.{EventLaws}
use Rattle.state_events.specs.Axis as axis
use Rattle.state_events.specs.Axis.{cycle_events}
use Rattle.state_events.specs.Group.{Lead, reset_events, step_events}
use Rattle.state_events.specs.Laws.{AreGroupEvents}
use Rattle.state_events.proofs.group.Events.{lead-on}

-- an axis
axis_goes : EventLaws → (s : Setup) (m : Machine) (ins : List DriveIn) (n : ℕ) → IsMachineKept s m → n < length m.axes →
    axis.Lead (axis_at m n).state (cycle_events (look_of_axis s m ins n) (axis_core_at m n))
    (axis_at (after_cycle s m ins) n).state
axis_goes laws s m ins n h l =
    let look = look_of_axis s m ins n in
    let goes = goes_through s m ins n h (laws.machines.may_go_on s m ins h) l in
    let P : Axis → Type 0 = λ a. axis.Lead (axis_at m n).state (cycle_events look (axis_core_at m n)) a.state in
    let cycles = laws.axes in
    subst P (sym goes.after) (cycles.cycle look (axis_core_at m n) goes.kept goes.fits)

-- GroupResets leave as many groups
pub resets_count : (s : Setup) (n : ℕ) (m : Machine) → length (groups_reset s n m).machine.groups
    ≡ length m.groups
unfolding groups_reset
resets_count s zero m = refl
resets_count s (suc n) m = length-set (groups_reset s n m).machine.groups n _ ∙ resets_count s n m

-- the groups before n had their GroupResets done
record HaveReset (s : Setup) (n : ℕ) (m x : Machine) : Type 0 where
  done : (k : ℕ) → k < n →
      Lead (group_at m k).group.state (reset_events (group_look s (groups_reset s k m).machine k 0) (is_some (group_at m k).path) (group_at m k).group)
      (group_at x k).group.state
  rest : (k : ℕ) → n ≤ k → group_at x k ≡ group_at m k

groups_go : AreGroupEvents → (s : Setup) (n : ℕ) (m : Machine) → n ≤ length m.groups → HaveReset s n m (groups_reset s n m).machine
unfolding groups_reset
groups_go laws s zero m l = record { done = λ k b. absurd (omega arith); rest = λ k b. refl }
groups_go laws s (suc n) m l =
    let so_far = groups_go laws s n m (omega arith) in
    let x = (groups_reset s n m).machine in
    let look = group_look s x n 0 in
    let c = core_after_reset s n x in
    let g : PlacedGroup = record { group = c.group; path = c.path } in
    let same = so_far.rest n (omega arith) in
    let count = resets_count s n m in
    let here = laws.reset look (is_some (group_at x n).path) (group_at x n).group in
    let written : group_among (slice_set x.groups n g) n ≡ g = get_or-set_same x.groups n g no_group (omega arith) in
    let To : PlacedGroup → PlacedGroup → Type 0 = λ y z. Lead y.group.state (reset_events look (is_some y.path) y.group) z.group.state in
    record {
      done = λ k b. elim (cases_eq k n) [
        | inl e ↦ subst (λ j. Lead (group_at m j).group.state
            (reset_events (group_look s (groups_reset s j m).machine j 0) (is_some (group_at m j).path) (group_at m j).group)
            (group_among (slice_set x.groups n g) j).group.state) (sym e)
            (subst (λ y. To y (group_among (slice_set x.groups n g) n)) same (subst (To (group_at x n)) (sym written) here))
        | inr d ↦ subst (λ (z : PlacedGroup). Lead (group_at m k).group.state
            (reset_events (group_look s (groups_reset s k m).machine k 0) (is_some (group_at m k).path) (group_at m k).group) z.group.state)
            (sym (get_or-set_other x.groups n k g no_group d)) (so_far.done k (omega arith))
      ];
      rest = λ k b. get_or-set_other x.groups n k g no_group (λ e. omega arith) ∙ so_far.rest k (omega arith);
    }

-- what the instances are given of a cycle's end leaves the groups
found_groups : (s : Setup) (m : Machine) → (with_found s m).groups ≡ m.groups
unfolding with_found
found_groups s m = refl

pub groups_moved : (s : Setup) (m : Machine) (ins : List DriveIn) →
    (after_cycle s m ins).groups ≡ (groups_reset s (length (moved_in s m ins).groups)
    (moved_in s m ins)).machine.groups
unfolding cycled
groups_moved s m ins = found_groups s (cycled s m ins).machine

-- a group
group_goes : EventLaws → (s : Setup) (m : Machine) (ins : List DriveIn) (j : ℕ) → IsMachineKept s m → j < length m.groups →
    Lead (group_at m j).group.state (events_in_cycle s m ins j)
    (group_at (after_cycle s m ins) j).group.state
group_goes laws s m ins j h l =
    let stepped = (stepped_in s ins m).machine in
    let moved = moved_in s m ins in
    let steps = have_stepped s m ins (length m.groups) h (omega arith) in
    let one = steps.each j l in
    let look = look_of_group s m ins j in
    let g = stepped_group s m ins j in
    let To : GroupLook → Core → Type 0 = λ y c. Lead (group_at m j).group.state (step_events y (group_core_at m j)) c.group.state in
    let by = laws.groups in
    let step : Lead (group_at m j).group.state (step_events look (group_core_at m j)) g.state =
    subst (λ y. To y (group_core_at stepped j)) one.is (subst (To one.seen) (sym one.core)
    (by.cycle one.seen (group_core_at m j) one.looking.kept)) in
    let same : moved.groups ≡ stepped.groups = axes_groups s (length stepped.axes) (around_in s ins m) stepped in
    let sizes = steps.size in
    let size = sizes.groups in
    let count = ap length same in
    let reset = groups_go laws.groups s (length moved.groups) moved (omega arith) in
    let after = (group_at (after_cycle s m ins) j).group in
    let on_path = is_some (group_at moved j).path in
    let To_end : Group → Group → Type 0 = λ y z. Lead y.state (reset_events (look_of_reset s m ins j) on_path y) z.state in
    let P : List PlacedGroup → Type 0 = λ gs. To_end (group_among gs j).group after in
    let Q : List PlacedGroup → Type 0 = λ gs. To_end (group_at moved j).group (group_among gs j).group in
    let behind : To_end g after = subst P same (subst Q (sym (groups_moved s m ins)) (reset.done j (omega arith))) in
    lead-on (group_at m j).group.state g.state after.state (step_events look (group_core_at m j))
    (reset_events (look_of_reset s m ins j) on_path g) step behind

pub cycle_goes : EventLaws → (s : Setup) (m : Machine) (n : ℕ) (rows : List AxisRow) (grows : List GroupRow) → IsMachineKept s m →
    GoByEvents s m (cycle n rows grows)
cycle_goes laws s m n rows grows h =
    let sizes = h.sized in
    let a = sizes.axes in
    let g = sizes.groups in
    record {
      axes = λ k l. axis_goes laws s m (inputs_of rows) k h (omega arith);
      groups = λ j l. group_goes laws s m (inputs_of rows) j h (omega arith);
    }
