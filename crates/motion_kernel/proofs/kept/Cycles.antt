-- A machine stays kept by a cycle.
-- for: machines_stay_kept
use Rattle.std.specs.Prelude.{◌≡◌, refl, ℕ, zero, suc, ◌<◌, Bool, Option, Some, None, List, length, map, slice_get}
use Rattle.std.proofs.Common.{arith, subst, ◌∙◌}
use Rattle.std.proofs.lemmas.List.{length-set}
use Rattle.axis_core.specs.declared.axis.Axis.{Axis}
use Rattle.plc_types.specs.Counts.{IsCount}
use Rattle.plc_types.specs.declared.drive.DriveIn.{DriveIn}
use Rattle.fb_outputs.specs.InstanceState.{InstanceState}
use Rattle.motion_history.specs.Setup.{Setup}
use Rattle.motion_history.specs.declared.config.BlockDef.{BlockDef}
use Rattle.motion_kernel.specs.cycles.Cycles.{after_cycle, around_in, cycled, stepped_in}
use Rattle.motion_kernel.specs.looks.DriveAnswers.{answer_at}
use Rattle.motion_kernel.specs.cycles.AxisCycles.{axes_cycled}
use Rattle.buffer_modes.specs.Owners.{owner_by}
use Rattle.motion_kernel.specs.cycles.Showing.{axes_shown, found_by, groups_shown, instance_found, instances_found, with_found}
use Rattle.motion_kernel.specs.looks.AxisLooks.{pair_of}
use Rattle.motion_kernel.specs.Machine.{Machine, PlacedGroup, axis_among, group_among}
use Rattle.motion_kernel.specs.kept.Machine.{IsMachineKept}
use Rattle.motion_kernel.specs.kept.Ready.{MayGoOn}
use Rattle.motion_kernel.specs.calls.Telling.{shown_active}
use Rattle.motion_kernel.proofs.kept.AxisCycles.{CycleLaws, HaveCycled, have_cycled, may_go_on}
use Rattle.motion_kernel.proofs.kept.Events.{instances_kept}
use Rattle.motion_kernel.proofs.kept.GroupsAndAxes.{moved_machine_kept}
use Rattle.motion_kernel.proofs.kept.GroupResets.{resets_kept}
use Rattle.motion_kernel.proofs.kept.GroupSteps.{have_stepped}
use Rattle.motion_kernel.proofs.Sizes.{told_found_length}

-- the drives answer each axis with a count of 32 bits
abbrev pub AreCounts : List DriveIn → Machine → Type 0
AreCounts ins m = (n : ℕ) → n < length m.axes → IsCount (answer_at ins n).actual

-- as many instances as before are reported
shown_length : (o : Option ℕ) (reached : Bool) (is : List InstanceState) → length (shown_active o reached is) ≡ length is
shown_length None reached is = refl
shown_length (Some k) reached is = length-set is k _

axes_length : (n : ℕ) (axes : List Axis) (is : List InstanceState) → length (axes_shown n axes is) ≡ length is
unfolding axes_shown
axes_length zero axes is = refl
axes_length (suc n) axes is =
    shown_length (owner_by (axis_among axes n).active) (axis_among axes n).reached (axes_shown n axes is) ∙ axes_length n axes is

groups_length : (n : ℕ) (groups : List PlacedGroup) (is : List InstanceState) → length (groups_shown n groups is) ≡ length is
unfolding groups_shown
groups_length zero groups is = refl
groups_length (suc n) groups is = shown_length (owner_by (group_among groups n).group.active) _ (groups_shown n groups is) ∙ groups_length n groups is

found_length : (o : Option BlockDef) (axes : List Axis) (groups : List PlacedGroup) (k : ℕ) (is : List InstanceState) →
    length (instance_found o axes groups k is) ≡ length is
found_length None axes groups k is = refl
found_length (Some b) axes groups k is = told_found_length (found_by b.kind axes groups k b.object) k is

instances_length : (n : ℕ) (blocks : List BlockDef) (axes : List Axis) (groups : List PlacedGroup) (is : List InstanceState) →
    length (instances_found n blocks axes groups is) ≡ length is
unfolding instances_found
instances_length zero blocks axes groups is = refl
instances_length (suc n) blocks axes groups is =
    found_length (slice_get blocks n) axes groups n (instances_found n blocks axes groups is) ∙ instances_length n blocks axes groups is

pub found_kept : (s : Setup) (m : Machine) → IsMachineKept s m → IsMachineKept s (with_found s m)
unfolding with_found
found_kept s m h = instances_kept s m _ h
    (instances_length (length s.blocks) s.blocks m.axes m.groups _ ∙ groups_length (length m.groups) m.groups _ ∙ axes_length (length m.axes) m.axes m.instances)

-- the axes may go through the cycle after the groups' steps
pub may_cycle : CycleLaws → (s : Setup) (m : Machine) (ins : List DriveIn) → IsMachineKept s m → MayGoOn s (around_in s ins m) (stepped_in s ins m).machine
may_cycle laws s m ins h =
    may_go_on laws.cams laws.members s m ins (stepped_in s ins m) (map pair_of m.axes) h (have_stepped s m ins (length m.groups) h (omega arith))

-- a machine is kept by a cycle, before its instances are given what it found and after that
pub cycled_kept : CycleLaws → (s : Setup) (m : Machine) (ins : List DriveIn) → IsMachineKept s m → AreCounts ins m → IsMachineKept s (cycled s m ins).machine
unfolding cycled
cycled_kept laws s m ins h counts =
    let g = stepped_in s ins m in
    let stepped = have_stepped s m ins (length m.groups) h (omega arith) in
    let size = stepped.size in
    let axes = size.axes in
    let moved = (axes_cycled s (length g.machine.axes) (around_in s ins m) g.machine).machine in
    let some = have_cycled laws.cams s m ins g (map pair_of m.axes) (length g.machine.axes) h (omega arith) stepped in
    let all = subst (λ n. HaveCycled s m ins g n moved) axes some in
    let kept = moved_machine_kept laws s m moved ins g h stepped all counts in
    let groups = kept.sized.groups in
    resets_kept laws s moved (length moved.groups) kept (omega arith)

pub cycle_kept : CycleLaws → (s : Setup) (m : Machine) (ins : List DriveIn) → IsMachineKept s m → AreCounts ins m → IsMachineKept s (after_cycle s m ins)
cycle_kept laws s m ins h counts = found_kept s (cycled s m ins).machine (cycled_kept laws s m ins h counts)
