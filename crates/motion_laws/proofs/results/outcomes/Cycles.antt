-- What a cycle makes of the command of an instance.
-- for: replies_show_commands, entries_make_outcomes, results_are_told and others
use Rattle.std.specs.Prelude.{◌≡◌, ◌≢◌, refl, ℕ, zero, suc, ◌<◌, ◌≤◌, true, false, nat_eq, List, [], length, slice_get}
use Rattle.std.proofs.Common.{arith, sym, subst, ◌∙◌, inl, inr}
use Rattle.std.proofs.lemmas.Bool.{cases_Bool, eqb-true}
use Rattle.axis_core.specs.Cycles.{core_after_cycle}
use Rattle.plc_types.specs.declared.drive.DriveIn.{DriveIn}
use Rattle.command_changes.specs.Axis as axis
use Rattle.command_changes.specs.Group as group
use Rattle.command_core.specs.Brought.{brought}
use Rattle.group_core.specs.Cycles as group_cycles
use Rattle.motion_history.specs.Setup.{Setup}
use Rattle.motion_kernel.specs.Machine.{Machine, axis_among, axis_core_at, group_core_at}
use Rattle.motion_kernel.specs.cycles.AxisCycles.{axes_cycled}
use Rattle.motion_kernel.specs.cycles.Cycles.{around_in, cycled, look_of_axis, look_of_group, stepped_in}
use Rattle.motion_kernel.specs.cycles.GroupResets.{core_after_reset, groups_reset}
use Rattle.motion_kernel.specs.cycles.GroupSteps.{groups_stepped, look_in_cycle}
use Rattle.motion_kernel.specs.kept.Machine.{IsMachineKept, IsSized}
use Rattle.motion_kernel.specs.looks.AxisLooks.{Surroundings, axis_look}
use Rattle.motion_kernel.specs.looks.GroupLooks.{group_look}
use Rattle.motion_kernel.proofs.cycles.OneAxis.{not_yet}
use Rattle.motion_kernel.proofs.kept.Events.{group_beside_group}
use Rattle.motion_kernel.proofs.kept.GroupSteps.{have_stepped}
use Rattle.motion_laws.specs.entries.GroupEvents.{moved_in}
use Rattle.motion_kernel.specs.owners.Objects.{a_group, an_axis, IsThere, Object, has_commands_on}
use Rattle.motion_laws.specs.results.Effects.{changes_in_cycle}
use Rattle.motion_laws.proofs.owners.Kept.{axes_good, resets_good, steps_good}
use Rattle.motion_kernel.proofs.owners.commands.Events.{IsGood, OwnerLaws, block_there}
use Rattle.motion_laws.proofs.results.outcomes.Leaves.{Folds, Leaves, fold_at, fold_beside, leaves_before, leaves_behind, leaves_more}
use Rattle.command_core.specs.Laws.{AreInOrder}
use Rattle.motion_kernel.proofs.walk.Events.{axis_event, group_event}

-- numbers that differ
pub apart : (i j : ℕ) → i ≢ j → nat_eq i j ≡ false
apart i j d = elim (cases_Bool (nat_eq i j)) [ inl e ↦ absurd (d (eqb-true i j e)) | inr e ↦ e ]

-- an object is there, and the instance
pub there_sized : (s : Setup) (m x : Machine) (o : Object) → IsSized s m → IsSized s x → IsThere m o → IsThere x o
there_sized s m x (an_axis n) h g l = let a = h.axes in let b = g.axes in omega arith
there_sized s m x (a_group j) h g l = let a = h.groups in let b = g.groups in omega arith

pub there_in : (s : Setup) (m x : Machine) (o : Object) → IsGood s m → IsGood s x → IsThere m o → IsThere x o
there_in s m x o h g l = there_sized s m x o h.sized g.sized l

pub place_sized : (s : Setup) (x : Machine) (k : ℕ) (o : Object) → IsSized s x → has_commands_on (slice_get s.blocks k) o ≡ true → k < length x.instances
place_sized s x k o g on = let block = block_there s.blocks k o on in let d = g.instances in omega arith

place_in : (s : Setup) (x : Machine) (k : ℕ) (o : Object) → IsGood s x → has_commands_on (slice_get s.blocks k) o ≡ true → k < length x.instances
place_in s x k o g on = place_sized s x k o g.sized on

module _ (laws : OwnerLaws) (s : Setup) (k : ℕ) (o : Object) (on : has_commands_on (slice_get s.blocks k) o ≡ true) where
  -- the steps of the groups

  steps_fold : (ins : List DriveIn) (m : Machine) → IsGood s m → IsThere m o →
      Folds laws s k o on (length m.groups) (λ i. (groups_stepped s i ins m).machine) a_group
      (λ i. group.cycle_changes (look_in_cycle s ins i (groups_stepped s i ins m).machine) (group_core_at (groups_stepped s i ins m).machine i))
  unfolding groups_stepped
  steps_fold ins m h l =
      let first = h.sized in
      let g = first.groups in
      let good : (i : ℕ) → i < length m.groups → IsGood s (groups_stepped s i ins m).machine = λ i b. steps_good laws s i ins m (omega arith) h in
      record {
        event = λ i b.
            let x = (groups_stepped s i ins m).machine in
            let so_far = good i b in
            let c = group_core_at x i in
            let look = look_in_cycle s ins i x in
            let sizes = so_far.sized in
            let e = sizes.groups in
            group_event s i x (group_cycles.cycled look c) (group.cycle_changes look c) so_far.sized (omega arith) (laws.walk.group.cycle look c);
        none = λ i b. laws.once.none k _ (laws.walk.group.cycle_brings _ _);
        shown = λ i b. (good i b).shown k;
        there = λ i b. there_in s m (groups_stepped s i ins m).machine o h (good i b) l;
        place = λ i b. place_in s (groups_stepped s i ins m).machine k o (good i b) on;
      }

  -- the cycles of the axes
  axes_fold : (around : Surroundings) (m : Machine) → IsGood s m → IsThere m o →
      Folds laws s k o on (length m.axes) (λ i. (axes_cycled s i around m).machine) an_axis
      (λ i. axis.cycle_changes (axis_look s around (axes_cycled s i around m).machine i) (axis_core_at (axes_cycled s i around m).machine i))
  unfolding axes_cycled
  axes_fold around m h l =
      let first = h.sized in
      let a = first.axes in
      let good : (i : ℕ) → i < length m.axes → IsGood s (axes_cycled s i around m).machine = λ i b. axes_good laws s i around m (omega arith) h in
      record {
        event = λ i b.
            let x = (axes_cycled s i around m).machine in
            let so_far = good i b in
            let c = axis_core_at x i in
            let look = axis_look s around x i in
            let sizes = so_far.sized in
            let e = sizes.axes in
            axis_event s i x (core_after_cycle look c) (axis.cycle_changes look c) so_far.sized (omega arith) (laws.walk.axis.cycle look c);
        none = λ i b. laws.once.none k _ (laws.walk.axis.cycle_brings _ _);
        shown = λ i b. (good i b).shown k;
        there = λ i b. there_in s m (axes_cycled s i around m).machine o h (good i b) l;
        place = λ i b. place_in s (axes_cycled s i around m).machine k o (good i b) on;
      }

  -- the GroupResets
  resets_fold : (m : Machine) → IsGood s m → IsThere m o →
      Folds laws s k o on (length m.groups) (λ i. (groups_reset s i m).machine) a_group (λ i. group.reset_changes (group_core_at (groups_reset s i m).machine i))
  unfolding groups_reset
  resets_fold m h l =
      let first = h.sized in
      let g = first.groups in
      let good : (i : ℕ) → i < length m.groups → IsGood s (groups_reset s i m).machine = λ i b. resets_good laws s i m (omega arith) h in
      record {
        event = λ i b.
            let x = (groups_reset s i m).machine in
            let so_far = good i b in
            let c = group_core_at x i in
            let look = group_look s x i 0 in
            let sizes = so_far.sized in
            let e = sizes.groups in
            group_event s i x (group_cycles.reset_cycled look c) (group.reset_changes c) so_far.sized (omega arith) (laws.walk.group.reset look c);
        none = λ i b. laws.once.none k _ (laws.walk.group.reset_brings _);
        shown = λ i b. (good i b).shown k;
        there = λ i b. there_in s m (groups_reset s i m).machine o h (good i b) l;
        place = λ i b. place_in s (groups_reset s i m).machine k o (good i b) on;
      }

-- a group is as it was until its own GroupReset
not_reset : (s : Setup) (n : ℕ) (m : Machine) (j : ℕ) → n ≤ j → group_core_at (groups_reset s n m).machine j ≡ group_core_at m j
unfolding groups_reset
not_reset s zero m j l = refl
not_reset s (suc n) m j l =
    let x = (groups_reset s n m).machine in
    group_beside_group x n j (core_after_reset s n x) (λ e. omega arith) ∙ not_reset s n m j (omega arith)

-- the machine in the course of a cycle
record IsGoing (s : Setup) (m : Machine) (ins : List DriveIn) : Type 0 where
  stepped : IsGood s (stepped_in s ins m).machine
  moved : IsGood s (moved_in s m ins)
  reset : IsGood s (groups_reset s (length (moved_in s m ins).groups) (moved_in s m ins)).machine

goes : OwnerLaws → (s : Setup) (m : Machine) (ins : List DriveIn) → IsGood s m → IsGoing s m ins
goes laws s m ins h =
    let first = h.sized in
    let g = first.groups in
    let stepped = (stepped_in s ins m).machine in
    let one = steps_good laws s (length m.groups) ins m (omega arith) h in
    let second = one.sized in
    let a = second.axes in
    let two = axes_good laws s (length stepped.axes) (around_in s ins m) stepped (omega arith) one in
    let third = two.sized in
    let b = third.groups in
    record {
      stepped = one;
      moved = two;
      reset = resets_good laws s (length (moved_in s m ins).groups) (moved_in s m ins) (omega arith) two;
    }

module _ (laws : OwnerLaws) (s : Setup) (k : ℕ) (m : Machine) (ins : List DriveIn) (kept : IsMachineKept s m) (h : IsGood s m) where
  going : IsGoing s m ins
  going = goes laws s m ins h

  -- an instance on an axis
  axis_leaves : (n : ℕ) → has_commands_on (slice_get s.blocks k) (an_axis n) ≡ true → n < length m.axes →
      Leaves k (an_axis n) (changes_in_cycle s m ins (an_axis n)) m (cycled s m ins).machine
  unfolding cycled groups_stepped axes_cycled groups_reset
  axis_leaves n on l =
      let o = an_axis n in
      let stepped = (stepped_in s ins m).machine in
      let around = around_in s ins m in
      let moved = moved_in s m ins in
      let look = look_of_axis s m ins n in
      let one = fold_beside laws s k o on (length m.groups) (length m.groups) (λ i. (groups_stepped s i ins m).machine) a_group _
      (steps_fold laws s k o on ins m h l) (omega arith) (λ i b. refl) (λ i b. refl) in
      let there : n < length stepped.axes = there_in s m stepped o h going.stepped l in
      let two = fold_at laws s k o on n (length stepped.axes) (length stepped.axes) (λ i. (axes_cycled s i around stepped).machine) an_axis _
      (axes_fold laws s k o on around stepped going.stepped there) (omega arith) there refl (λ i d. apart i n d) (λ i d. apart n i (λ e. d (sym e))) in
      let steps = have_stepped s m ins (length m.groups) kept (omega arith) in
      let axes = steps.axes in
      let queue = steps.queues n l in
      let here : axis_core_at stepped n ≡ axis_core_at m n =
      λ i. record { axis = axis_among (axes i) n; waiting = queue i; notes = [] } in
      let same : axis_core_at (axes_cycled s n around stepped).machine n ≡ axis_core_at m n = not_yet s n around stepped n (omega arith) ∙ here in
      let last = fold_beside laws s k o on (length moved.groups) (length moved.groups) (λ i. (groups_reset s i moved).machine) a_group _
      (resets_fold laws s k o on moved going.moved (there_in s m moved o h going.moved l)) (omega arith) (λ i b. refl) (λ i b. refl) in
      let made : Leaves k o (axis.cycle_changes look (axis_core_at m n)) stepped moved =
      subst (λ c. Leaves k o (axis.cycle_changes look c) stepped moved) same two in
      leaves_before k o _ m moved _ (leaves_behind k o _ m stepped moved one made) last

  -- and one on a group
  group_leaves : AreInOrder → (j : ℕ) → has_commands_on (slice_get s.blocks k) (a_group j) ≡ true → j < length m.groups →
      Leaves k (a_group j) (changes_in_cycle s m ins (a_group j)) m (cycled s m ins).machine
  unfolding cycled groups_stepped axes_cycled groups_reset
  group_leaves order j on l =
      let o = a_group j in
      let stepped = (stepped_in s ins m).machine in
      let around = around_in s ins m in
      let moved = moved_in s m ins in
      let look = look_of_group s m ins j in
      let one = fold_at laws s k o on j (length m.groups) (length m.groups) (λ i. (groups_stepped s i ins m).machine) a_group _
      (steps_fold laws s k o on ins m h l) (omega arith) l refl (λ i d. apart i j d) (λ i d. apart j i (λ e. d (sym e))) in
      let before = have_stepped s m ins j kept (omega arith) in
      let same : group_core_at (groups_stepped s j ins m).machine j ≡ group_core_at m j = before.later j (omega arith) in
      let two = fold_beside laws s k o on (length stepped.axes) (length stepped.axes) (λ i. (axes_cycled s i around stepped).machine) an_axis _
      (axes_fold laws s k o on around stepped going.stepped (there_in s m stepped o h going.stepped l)) (omega arith) (λ i b. refl) (λ i b. refl) in
      let there : j < length moved.groups = there_in s m moved o h going.moved l in
      let last = fold_at laws s k o on j (length moved.groups) (length moved.groups) (λ i. (groups_reset s i moved).machine) a_group _
      (resets_fold laws s k o on moved going.moved there) (omega arith) there refl (λ i d. apart i j d) (λ i d. apart j i (λ e. d (sym e))) in
      let made : Leaves k o (group.cycle_changes look (group_core_at m j)) m stepped =
      subst (λ c. Leaves k o (group.cycle_changes look c) m stepped) same one in
      let reset : Leaves k o (group.reset_changes (group_core_at moved j)) moved (groups_reset s (length moved.groups) moved).machine =
      subst (λ c. Leaves k o (group.reset_changes c) moved (groups_reset s (length moved.groups) moved).machine) (not_reset s j moved j (omega arith)) last in
      leaves_more k o order (group.cycle_changes look (group_core_at m j)) (group.reset_changes (group_core_at moved j)) m moved _
      (leaves_before k o _ m stepped moved made two) reset

  pub cycle_leaves : AreInOrder → (o : Object) → has_commands_on (slice_get s.blocks k) o ≡ true → IsThere m o →
      Leaves k o (changes_in_cycle s m ins o) m (cycled s m ins).machine
  cycle_leaves order (an_axis n) on l = axis_leaves n on l
  cycle_leaves order (a_group j) on l = group_leaves order j on l

  pub cycled_good : IsGood s (cycled s m ins).machine
  unfolding cycled
  cycled_good = going.reset

-- a cycle brings no command
pub cycle_brings : OwnerLaws → AreInOrder → (s : Setup) (m : Machine) (ins : List DriveIn) (k : ℕ) (o : Object) →
    brought k (changes_in_cycle s m ins o) ≡ 0
cycle_brings laws order s m ins k (an_axis n) = laws.once.none k _ (laws.walk.axis.cycle_brings (look_of_axis s m ins n) (axis_core_at m n))
cycle_brings laws order s m ins k (a_group j) =
    laws.once.none k _ (order.none _ _ (laws.walk.group.cycle_brings (look_of_group s m ins j) (group_core_at m j))
    (laws.walk.group.reset_brings (group_core_at (moved_in s m ins) j)))
