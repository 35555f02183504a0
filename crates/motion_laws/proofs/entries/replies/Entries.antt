-- Nothing else has happened to an instance of a past than what its block allows.
-- for: replies_tell_one_result, replies_show_commands, results_are_told and others
use Rattle.std.specs.Prelude.{◌≡◌, refl, ℕ, zero, suc, Bool, true, false, Option, Some, None, List, [], ◌∷◌, ◌++◌, length, map, slice_get, slice_set}
use Rattle.std.specs.List.{AllByRecursion}
use Rattle.std.proofs.Common.{ap, sym, subst, ◌∙◌}
use Rattle.axis_core.specs.Cycles.{core_after_cycle}
use Rattle.axis_core.specs.declared.axis.Axis.{Axis}
use Rattle.plc_types.specs.declared.axis.AxisDef.{AxisDef}
use Rattle.plc_types.specs.declared.drive.DriveIn.{DriveIn}
use Rattle.plc_types.specs.declared.kind.BlockKind.{BlockKind}
use Rattle.fb_outputs.specs.InstanceState.{InstanceState}
use Rattle.fb_outputs.specs.Replies as replies
use Rattle.fb_outputs.specs.Replies.{Happening, IsNumbered, after_all, happened}
use Rattle.fb_outputs.specs.Steps.{opened, started, with_reached}
use Rattle.plc_types.specs.declared.inputs.Inputs.{Inputs}
use Rattle.group_core.specs.Cycles as group_cycles
use Rattle.motion_history.specs.Setup.{Setup}
use Rattle.motion_history.specs.declared.config.BlockDef.{BlockDef}
use Rattle.motion_kernel.specs.calls.Calls.{after_call, called}
use Rattle.motion_kernel.specs.looks.AxisLooks.{Surroundings, axis_look}
use Rattle.motion_kernel.specs.cycles.Cycles.{after_cycle, around_in, cycled, stepped_in}
use Rattle.motion_kernel.specs.cycles.AxisCycles.{axes_cycled}
use Rattle.buffer_modes.specs.Owners.{owner_by}
use Rattle.motion_kernel.specs.cycles.Showing.{axes_shown, found_by, groups_shown, instance_found, instances_found, told_found, with_found}
use Rattle.motion_kernel.specs.cycles.GroupResets.{core_after_reset, groups_reset}
use Rattle.motion_kernel.specs.cycles.GroupSteps.{error_of_group, groups_stepped, look_in_cycle}
use Rattle.motion_kernel.specs.looks.GroupLooks.{group_look}
use Rattle.motion_kernel.specs.Machine.{Machine, PlacedGroup, axis_among, axis_core_at, group_among, group_core_at, instance_at, instance_at_opening_of, machine_at_opening}
use Rattle.motion_kernel.specs.members.Members.{members_at}
use Rattle.motion_kernel.specs.calls.Telling.{shown_active}
use Rattle.motion_kernel.proofs.looks.Shown.{told_error}
use Rattle.motion_laws.specs.entries.Replies.{AreOfBlocks, HasHappened}
use Rattle.motion_laws.proofs.entries.replies.AxisNumbers.{IsNumberOrNone, cycle_told}
use Rattle.motion_laws.proofs.entries.replies.GroupNumbers.{first_numbered, group_cycle_told, group_reset_told}
use Rattle.motion_laws.proofs.entries.replies.Commands.{Stays, call_stays, notes_stay}

-- one happening more
after_more : (i : InstanceState) (hs : List Happening) (h : Happening) → after_all i
    (hs ++ h ∷ []) ≡ happened (after_all i hs) h
after_more i [] h = refl
after_more i (x ∷ xs) h = after_more (happened i x) xs h

numbered_more : (hs : List Happening) (h : Happening) → AllByRecursion IsNumbered hs →
    IsNumbered h → AllByRecursion IsNumbered (hs ++ h ∷ [])
numbered_more [] h a n = (n, tt)
numbered_more (x ∷ xs) h a n = (a.0, numbered_more xs h a.1 n)

has_more : (kind : BlockKind) (i : InstanceState) (h : Happening) → IsNumbered h →
    HasHappened kind i → HasHappened kind (happened i h)
has_more kind i h n a = record {
  happenings = a.happenings ++ h ∷ [];
  numbered = numbered_more a.happenings h a.numbered n;
  is = ap (λ x. happened x h) a.is ∙ sym (after_more (opened kind) a.happenings h);
}

-- where one instance changes so that it stays one of its kind, all do
one_changed : (change : InstanceState → InstanceState) →
    ((kind : BlockKind) (i : InstanceState) → HasHappened kind i → HasHappened kind (change i)) →
    (kind : BlockKind) (is : List InstanceState) (j k : ℕ) → HasHappened kind (instance_at is k) →
    HasHappened kind (instance_at (slice_set is j (change (instance_at is j))) k)
one_changed change c kind [] j k h = h
one_changed change c kind (i ∷ is) zero zero h = c kind i h
one_changed change c kind (i ∷ is) zero (suc k) h = h
one_changed change c kind (i ∷ is) (suc j) zero h = h
one_changed change c kind (i ∷ is) (suc j) (suc k) h = one_changed change c kind is j k h

one_happened : (s : Setup) (is : List InstanceState) (j : ℕ) (h : Happening) → IsNumbered h →
    AreOfBlocks s is → AreOfBlocks s (slice_set is j (happened (instance_at is j) h))
one_happened s is j h n all k b at =
    one_changed (λ i. happened i h) (λ kind i a. has_more kind i h n a) b.kind is j k (all k b at)

blocks_stay : (s : Setup) → Stays (AreOfBlocks s)
blocks_stay s = record {
  ends = λ is k f n h. one_happened s is k (replies.ending f) n h;
  starts = λ is k active h. one_happened s is k (replies.start active) tt h;
}

-- at opening
map_at : (f : BlockDef → InstanceState) (blocks : List BlockDef) (k : ℕ) (b : BlockDef) →
    slice_get blocks k ≡ Some b → instance_at (map f blocks) k ≡ f b
map_at f [] k b e = absurd (cc)
map_at f (x ∷ xs) zero b e = let same : x ≡ b = cc in ap f same
map_at f (x ∷ xs) (suc k) b e = map_at f xs k b e

opens_so : (axes : List AxisDef) (b : BlockDef) → HasHappened b.kind (instance_at_opening_of axes b)
unfolding instance_at_opening_of
opens_so axes b = record { happenings = replies.cycle _ ∷ []; numbered = (tt, tt); is = refl }

pub opening_of_blocks : (s : Setup) → AreOfBlocks s (machine_at_opening s).instances
opening_of_blocks s k b at =
    subst (HasHappened b.kind) (sym (map_at (instance_at_opening_of s.axes) s.blocks k b at))
    (opens_so s.axes b)

-- after a call
pub called_of_blocks : (s : Setup) (m : Machine) (k : ℕ) (i : Inputs) → AreOfBlocks s m.instances →
    AreOfBlocks s (called s k i m).instances
called_of_blocks s m k i h =
    call_stays (AreOfBlocks s) (blocks_stay s) s k i m (λ none. h)
    (one_happened s m.instances k (replies.call i.execute) tt h)

pub call_of_blocks : (s : Setup) (m : Machine) (k : ℕ) (i : Inputs) → AreOfBlocks s m.instances →
    AreOfBlocks s (after_call s m k i).instances
call_of_blocks s m k i h = one_happened s (called s k i m).instances k replies.reply tt
    (called_of_blocks s m k i h)

-- after a cycle
steps_of_blocks : (s : Setup) (n : ℕ) (ins : List DriveIn) (m : Machine) →
    AreOfBlocks s m.instances → AreOfBlocks s (groups_stepped s n ins m).machine.instances
unfolding groups_stepped
steps_of_blocks s zero ins m h = h
steps_of_blocks s (suc n) ins m h =
    let x = (groups_stepped s n ins m).machine in
    let core = group_core_at x n in
    let look = look_in_cycle s ins n x in
    let error : IsNumberOrNone look.error =
    subst IsNumberOrNone (sym (told_error s x n (error_of_group s x ins n)))
    (first_numbered x.axes ins (members_at s n)) in
    notes_stay (AreOfBlocks s) (blocks_stay s) (group_cycles.cycled look core).notes x.instances
    (group_cycle_told look core error tt)
    (steps_of_blocks s n ins m h)

axes_of_blocks : (s : Setup) (n : ℕ) (around : Surroundings) (m : Machine) →
    AreOfBlocks s m.instances → AreOfBlocks s (axes_cycled s n around m).machine.instances
unfolding axes_cycled
axes_of_blocks s zero around m h = h
axes_of_blocks s (suc n) around m h =
    let x = (axes_cycled s n around m).machine in
    let core = axis_core_at x n in
    let look = axis_look s around x n in
    notes_stay (AreOfBlocks s) (blocks_stay s) (core_after_cycle look core).notes x.instances
    (cycle_told look core tt) (axes_of_blocks s n around m h)

resets_of_blocks : (s : Setup) (n : ℕ) (m : Machine) → AreOfBlocks s m.instances → AreOfBlocks s
    (groups_reset s n m).machine.instances
unfolding groups_reset
resets_of_blocks s zero m h = h
resets_of_blocks s (suc n) m h =
    let x = (groups_reset s n m).machine in
    let core = group_core_at x n in
    notes_stay (AreOfBlocks s) (blocks_stay s) (core_after_reset s n x).notes x.instances
    (group_reset_told (group_look s x n 0) core tt)
    (resets_of_blocks s n m h)

-- what the instances are given at its end
shown_so : (s : Setup) (o : Option ℕ) (reached : Bool) (is : List InstanceState) →
    AreOfBlocks s is → AreOfBlocks s (shown_active o reached is)
shown_so s None reached is h = h
shown_so s (Some j) reached is h = λ k b at.
    one_changed (λ i. with_reached (started i true) reached)
    (λ kind i a. has_more kind (started i true) (replies.cycle reached) tt
    (has_more kind i (replies.start true) tt a))
    b.kind is j k (h k b at)

axes_shown_so : (s : Setup) (n : ℕ) (axes : List Axis) (is : List InstanceState) →
    AreOfBlocks s is → AreOfBlocks s (axes_shown n axes is)
unfolding axes_shown
axes_shown_so s zero axes is h = h
axes_shown_so s (suc n) axes is h =
    let a = axis_among axes n in
    shown_so s (owner_by a.active) a.reached (axes_shown n axes is) (axes_shown_so s n axes is h)

groups_shown_so : (s : Setup) (n : ℕ) (groups : List PlacedGroup) (is : List InstanceState) →
    AreOfBlocks s is → AreOfBlocks s (groups_shown n groups is)
unfolding groups_shown
groups_shown_so s zero groups is h = h
groups_shown_so s (suc n) groups is h =
    shown_so s (owner_by (group_among groups n).group.active) false (groups_shown n groups is)
    (groups_shown_so s n groups is h)

told_so : (s : Setup) (o : Option Bool) (k : ℕ) (is : List InstanceState) → AreOfBlocks s is →
    AreOfBlocks s (told_found o k is)
told_so s None k is h = h
told_so s (Some found) k is h = one_happened s is k (replies.cycle found) tt h

one_found_so : (s : Setup) (o : Option BlockDef) (axes : List Axis) (groups : List PlacedGroup)
    (k : ℕ) (is : List InstanceState) → AreOfBlocks s is →
    AreOfBlocks s (instance_found o axes groups k is)
one_found_so s None axes groups k is h = h
one_found_so s (Some b) axes groups k is h = told_so s
    (found_by b.kind axes groups k b.object) k is h

found_so : (s : Setup) (n : ℕ) (axes : List Axis) (groups : List PlacedGroup)
    (is : List InstanceState) → AreOfBlocks s is →
    AreOfBlocks s (instances_found n s.blocks axes groups is)
unfolding instances_found
found_so s zero axes groups is h = h
found_so s (suc n) axes groups is h = one_found_so s (slice_get s.blocks n) axes groups n _
    (found_so s n axes groups is h)

with_found_so : (s : Setup) (m : Machine) → AreOfBlocks s m.instances → AreOfBlocks s
    (with_found s m).instances
unfolding with_found
with_found_so s m h =
    found_so s (length s.blocks) m.axes m.groups _
    (groups_shown_so s (length m.groups) m.groups _
    (axes_shown_so s (length m.axes) m.axes m.instances h))

cycled_of_blocks : (s : Setup) (m : Machine) (ins : List DriveIn) → AreOfBlocks s m.instances →
    AreOfBlocks s (cycled s m ins).machine.instances
unfolding cycled
cycled_of_blocks s m ins h =
    let stepped = (stepped_in s ins m).machine in
    let moved = (axes_cycled s (length stepped.axes) (around_in s ins m) stepped).machine in
    resets_of_blocks s (length moved.groups) moved
    (axes_of_blocks s (length stepped.axes) (around_in s ins m) stepped
    (steps_of_blocks s (length m.groups) ins m h))

pub cycle_of_blocks : (s : Setup) (m : Machine) (ins : List DriveIn) → AreOfBlocks s m.instances →
    AreOfBlocks s (after_cycle s m ins).instances
cycle_of_blocks s m ins h = with_found_so s (cycled s m ins).machine (cycled_of_blocks s m ins h)
