-- What a call makes of the command of another instance.
-- for: replies_show_commands, entries_make_outcomes, results_are_told and others
use Rattle.std.specs.Prelude.{◌≡◌, refl, ℕ, ◌<◌, Bool, true, false, nat_eq, if◌then◌else◌, Option, Some, None, List, [], length, slice_get, slice_set}
use Rattle.std.specs.List.{list_any}
use Rattle.std.proofs.Common.{arith, ap, sym, subst, ◌∙◌}
use Rattle.axis_core.specs.Calls.{core_after_command, core_after_power}
use Rattle.axis_core.specs.Cores as axes
use Rattle.axis_core.specs.Refusals.{refusal_of}
use Rattle.command_changes.specs.Axis as axis
use Rattle.command_changes.specs.Group as group
use Rattle.command_core.specs.Brought.{brought}
use Rattle.command_core.specs.Changes.{Change, all_changed}
use Rattle.command_core.specs.CommandState.{active_of, owns}
use Rattle.plc_types.specs.Kinds.{acts_on_group}
use Rattle.plc_types.specs.declared.kind.BlockKind.TheVariants as kind
use Rattle.fb_outputs.specs.InstanceState.{InstanceState}
use Rattle.fb_outputs.specs.Steps as instance
use Rattle.plc_types.specs.declared.inputs.Inputs.{Inputs}
use Rattle.plc_types.specs.declared.outputs.Outputs.{Outputs}
use Rattle.group_core.specs.Calls as group_calls
use Rattle.group_core.specs.Calls.{commanded, powered_off}
use Rattle.group_core.specs.Refusals as group_refusals
use Rattle.motion_history.specs.Calls.{IsCall}
use Rattle.motion_history.specs.Entries.{call}
use Rattle.motion_history.specs.Setup.{Setup}
use Rattle.motion_history.specs.declared.config.BlockDef.{BlockDef}
use Rattle.motion_kernel.specs.Machine.{Machine, axis_core_at, group_core_at, instance_at}
use Rattle.motion_kernel.specs.calls.Asking.{wanted_of}
use Rattle.motion_kernel.specs.calls.Calls.{after_axis_command, after_call, after_group_command, after_power, asked_of_axis, called, enters_path, group_without_power, leaves_path, members_led, with_axis_core, with_execute, with_group_core, with_instance, without_owner}
use Rattle.motion_kernel.specs.declared.memberships.Membership.{Membership}
use Rattle.motion_kernel.specs.kept.Machine.{AreWhole, IsMachineKept, IsSized}
use Rattle.motion_kernel.specs.looks.GroupLooks.{group_look}
use Rattle.motion_kernel.specs.members.Members.{members_at, membership_of}
use Rattle.motion_kernel.proofs.Sizes.{by_if, sized_axis, sized_instance, sized_without}
use Rattle.motion_kernel.proofs.kept.Events.{group_beside_axis}
use Rattle.motion_kernel.proofs.members.Places.{membership_is}
use Rattle.motion_laws.specs.calls.Axis as on_axis
use Rattle.motion_laws.specs.calls.Axis.{AxisCall, by_group_command, led_by}
use Rattle.motion_laws.specs.calls.Group as on_group
use Rattle.motion_laws.specs.calls.Group.{by_power_off}
use Rattle.motion_kernel.specs.calls.Requests.{for_axis_command, for_group_command, for_nothing, for_power, request_of}
use Rattle.motion_kernel.specs.owners.Objects.{a_group, an_axis, IsThere, Object, has_commands_on}
use Rattle.motion_laws.specs.owners.Shown.{AreWhereShown}
use Rattle.motion_laws.specs.results.Effects.{axis_changes, changes_by_request, effect_by_request, group_changes}
use Rattle.motion_laws.specs.results.Outcomes.{progress_at, progress_beside}
use Rattle.motion_laws.proofs.owners.Events.{event_changes, free_same, free_shown}
use Rattle.motion_kernel.proofs.owners.Blocks.{untold}
use Rattle.motion_laws.proofs.owners.Shown.{call_all_shown}
use Rattle.motion_kernel.proofs.owners.commands.Asked.{other_brings, other_brings_group}
use Rattle.motion_kernel.proofs.owners.commands.Events.{IsGood, OwnerLaws, ShownOf, event_shown}
use Rattle.motion_kernel.proofs.owners.commands.Freed.{beside_own}
use Rattle.motion_laws.proofs.results.Events.{beside, progress_in}
use Rattle.motion_laws.proofs.results.outcomes.Cycles.{place_sized, there_sized}
use Rattle.motion_laws.proofs.results.outcomes.Final.{OutcomeLaws, outcome}
use Rattle.motion_laws.proofs.results.outcomes.Leaves.{IsWhere, Leaves, Spares, axis_where, elsewhere, event_where, group_where, leaves_before, leaves_behind, leaves_none, spares_more, spares_none, spares_of, where_brings}
use Rattle.motion_laws.proofs.results.outcomes.Notes.{progress_told}
use Rattle.motion_laws.proofs.results.outcomes.Shown.{Affects, shown_by}
use Rattle.motion_kernel.proofs.walk.Events.{axis_event, command_state_same, freed_at, group_event, members_alike, members_instances}
use Rattle.motion_kernel.proofs.walk.Keeps.{Event, command_state_at}
use Rattle.motion_kernel.proofs.walk.Requests.{by_request}

-- another instance is set
set_spares : (k j : ℕ) (o : Object) (m : Machine) (i : InstanceState) → nat_eq j k ≡ false → Spares k o m (with_instance m j i)
set_spares k j o m i d = record {
  command_state = command_state_same m (slice_set m.instances j i) o;
  progress = ap (λ (x : InstanceState). x.progress) (beside m j k i d);
}

-- what a Power asks of its axis, and what it asks of the group of that where it is off
abbrev axis_part : ℕ → Bool → Machine → Object → List Change
axis_part n enable m (an_axis p) =
    axis_changes (if nat_eq n p then on_axis.power enable else on_axis.rests) (axis_core_at m p)
axis_part n enable m (a_group g) = []

abbrev group_part : Option Membership → Machine → Object → List Change
group_part at m (an_axis p) = []
group_part at m (a_group g) = group_changes (by_power_off at g) (group_core_at m g)

power_where : (n : ℕ) (enable : Bool) (m : Machine) (o : Object) →
    IsWhere (an_axis n) o (axis.power_changes enable (axis_core_at m n)) (axis_part n enable m o)
power_where n enable m (an_axis p) = axis_where n p (λ z. axis.power_changes enable (axis_core_at m z))
    (λ b. axis_changes (if b then on_axis.power enable else on_axis.rests) (axis_core_at m p)) refl refl
power_where n enable m (a_group g) = elsewhere _ _ _ _ refl refl

off_where : (at : Membership) (m : Machine) (o : Object) →
    IsWhere (a_group at.group) o (group.power_off_changes (group_core_at m at.group)) (group_part (Some at) m o)
off_where at m (an_axis p) = elsewhere _ _ _ _ refl refl
off_where at m (a_group g) = group_where at.group g (λ z. group.power_off_changes (group_core_at m z))
    (λ b. group_changes (if b then on_group.power_off else on_group.rests) (group_core_at m g)) refl refl

-- a command that is asked of an axis
asked_where : (s : Setup) (j : ℕ) (b : BlockDef) (i : Inputs) (m : Machine) (o : Object) →
    IsWhere (an_axis b.object) o (axis.command_changes (asked_of_axis s j b.object b.kind i m) (axis_core_at m b.object))
    (changes_by_request s (for_axis_command b) j i m o)
asked_where s j b i m (an_axis p) =
    axis_where b.object p (λ z. axis.command_changes (asked_of_axis s j z b.kind i m) (axis_core_at m z))
    (λ y. axis_changes (if y then on_axis.asked (asked_of_axis s j p b.kind i m) else on_axis.rests) (axis_core_at m p)) refl refl
asked_where s j b i m (a_group g) = elsewhere _ _ _ _ refl refl

-- and one of a group, whose axes keep their commands
led_none : (s : Setup) (k : ℕ) (b : BlockDef) (i : Inputs) (m : Machine) (n : ℕ) (c : axes.Core) →
    axis_changes (by_group_command s k b i m n) c ≡ []
led_none s k b i m n c =
    let answer = group_calls.answer_of (wanted_of k b.kind i) i.jerk (group_look s m b.object 0) (group_core_at m b.object) in
    let None_by : AxisCall → Type 0 = λ x. axis_changes x c ≡ [] in
    by_if None_by (list_any (nat_eq n) (members_at s b.object)) (led_by b.kind answer) on_axis.rests
    (by_if None_by (enters_path answer) (on_axis.led true) _ refl
    (by_if None_by (leaves_path b.kind answer) (on_axis.led false) on_axis.rests refl refl)) refl

group_asked_where : (s : Setup) (j : ℕ) (b : BlockDef) (i : Inputs) (m : Machine) (o : Object) →
    IsWhere (a_group b.object) o (group.command_changes (wanted_of j b.kind i) i.jerk (group_look s m b.object 0) (group_core_at m b.object))
    (changes_by_request s (for_group_command b) j i m o)
group_asked_where s j b i m (an_axis p) = elsewhere _ _ _ _ refl (led_none s j b i m p (axis_core_at m p))
group_asked_where s j b i m (a_group g) =
    group_where b.object g (λ z. group.command_changes (wanted_of j b.kind i) i.jerk (group_look s m z 0) (group_core_at m z))
    (λ y. group_changes (if y then on_group.asked (wanted_of j b.kind i) i.jerk (group_look s m g 0) else on_group.rests) (group_core_at m g)) refl refl

-- nothing is asked for
nothing_changes : (s : Setup) (j : ℕ) (i : Inputs) (m : Machine) (o : Object) → changes_by_request s for_nothing j i m o ≡ []
nothing_changes s j i m (an_axis n) = refl
nothing_changes s j i m (a_group g) = refl

module _ (laws : OwnerLaws) (s : Setup) (k j : ℕ) (d : nat_eq j k ≡ false) where
  -- what is found where the instance has its commands as before
  affects_in : (o : Object) (xs : List Change) (m found after : Machine) → Leaves k o xs found after →
      progress_in found.instances k ≡ progress_in m.instances k →
      brought k xs ≡ 0 → owns k (command_state_at found o) ≡ owns k (command_state_at m o) → active_of k (command_state_at found o) ≡ active_of k (command_state_at m o) →
      Affects k o (record { commands = command_state_at found o; changes = xs }) m after
  affects_in o xs m found after a same none owned active = record {
    command_state = a.command_state;
    progress = a.progress ∙ ap (progress_told k (all_changed xs (command_state_at found o)).notes) same;
    notes = untold found o;
    none = none;
    owns = owned;
    active = active;
  }

  nothing_affects : (o : Object) (i : Inputs) (m after : Machine) → Spares k o (with_execute j i m) after →
      Affects k o (effect_by_request s for_nothing j i m o) m after
  nothing_affects o i m after a =
      let y = with_execute j i m in
      let spared = set_spares k j o m _ d in
      let none = nothing_changes s j i y o in
      affects_in o (changes_by_request s for_nothing j i y o) m y after
      (subst (λ xs. Leaves k o xs y after) (sym none) (leaves_none k o y after a))
      spared.progress (ap (brought k) none) (ap (owns k) spared.command_state) (ap (active_of k) spared.command_state)

  -- a Power
  power_event : (n : ℕ) (enable : Bool) (m : Machine) → IsSized s m → n < length m.axes →
      Event m (with_axis_core m n (core_after_power enable (axis_core_at m n))) (an_axis n) (axis.power_changes enable (axis_core_at m n))
  power_event n enable m sized l =
      let c = axis_core_at m n in
      axis_event s n m (core_after_power enable c) (axis.power_changes enable c) sized l (laws.walk.axis.power enable c)

  power_none : (n : ℕ) (enable : Bool) (m : Machine) → brought k (axis.power_changes enable (axis_core_at m n)) ≡ 0
  power_none n enable m = laws.once.none k _ (laws.walk.axis.power_brings enable (axis_core_at m n))

  power_shown : (n : ℕ) (enable : Bool) (m : Machine) → IsSized s m → n < length m.axes → ShownOf s k m →
      ShownOf s k (with_axis_core m n (core_after_power enable (axis_core_at m n)))
  power_shown n enable m sized l shown =
      let x = with_axis_core m n (core_after_power enable (axis_core_at m n)) in
      event_shown s k m x (an_axis n) _ (event_changes laws k m x (an_axis n) _ (power_event n enable m sized l) (power_none n enable m)) shown

  axis_leaves : (o : Object) → has_commands_on (slice_get s.blocks k) o ≡ true → (n : ℕ) (enable : Bool) (m : Machine) → IsSized s m →
      n < length m.axes → IsThere m o → ShownOf s k m →
      Leaves k o (axis_part n enable m o) m (with_axis_core m n (core_after_power enable (axis_core_at m n)))
  axis_leaves o on n enable m sized l there shown =
      event_where laws s k o on (an_axis n) (axis.power_changes enable (axis_core_at m n)) (axis_part n enable m o) m
      (with_axis_core m n (core_after_power enable (axis_core_at m n))) (power_event n enable m sized l) (power_where n enable m o) there
      (power_none n enable m) shown (place_sized s m k o sized on)

  -- with Enable false, the group of its axis
  off_none : (g : ℕ) (m : Machine) → brought k (group.power_off_changes (group_core_at m g)) ≡ 0
  off_none g m = laws.once.none k _ (laws.walk.group.power_brings (group_core_at m g))

  off_event : (g : ℕ) (x : Machine) → IsSized s x → g < length x.groups →
      Event x (with_group_core x g (powered_off (group_core_at x g))) (a_group g) (group.power_off_changes (group_core_at x g))
  off_event g x sized l =
      let c = group_core_at x g in
      group_event s g x (powered_off c) (group.power_off_changes c) sized l (laws.walk.group.power_off c)

  off_leaves : (o : Object) → has_commands_on (slice_get s.blocks k) o ≡ true → (at : Option Membership) (m x : Machine) → IsSized s x → IsThere x o →
      ShownOf s k x → ((a : Membership) → at ≡ Some a → a.group < length x.groups) → ((g : ℕ) → group_core_at x g ≡ group_core_at m g) →
      Leaves k o (group_part at m o) x (group_without_power at x)
  off_leaves (an_axis p) on None m x sized there shown within same = leaves_none k (an_axis p) x x (spares_none k (an_axis p) x)
  off_leaves (a_group g) on None m x sized there shown within same = leaves_none k (a_group g) x x (spares_none k (a_group g) x)
  off_leaves o on (Some at) m x sized there shown within same =
      let ys = group.power_off_changes (group_core_at x at.group) in
      let places = subst (λ c. IsWhere (a_group at.group) o (group.power_off_changes c) (group_part (Some at) m o)) (sym (same at.group))
      (off_where at m o) in
      event_where laws s k o on (a_group at.group) ys (group_part (Some at) m o) x (group_without_power (Some at) x)
      (off_event at.group x sized (within at refl)) places there (off_none at.group x) shown (place_sized s x k o sized on)

  -- both
  powered_off_leaves : (o : Object) → has_commands_on (slice_get s.blocks k) o ≡ true → (n : ℕ) (m : Machine) → IsSized s m → n < length m.axes → IsThere m o →
      ShownOf s k m →
      let x = with_axis_core m n (core_after_power false (axis_core_at m n)) in
      Leaves k o (group_part (membership_of s n) m o) x (group_without_power (membership_of s n) x)
  powered_off_leaves o on n m sized l there shown =
      let c = core_after_power false (axis_core_at m n) in
      let x = with_axis_core m n c in
      let size = sized_axis s m n c sized in
      let within : (a : Membership) → membership_of s n ≡ Some a → a.group < length x.groups =
      λ a e. let f = membership_is s n a e in let b = f.group in let more = size.groups in omega arith in
      off_leaves o on (membership_of s n) m x size (there_sized s m x o sized size there) (power_shown n false m sized l shown) within
      (λ g. group_beside_axis m n g c l)

  power_leaves : (o : Object) → has_commands_on (slice_get s.blocks k) o ≡ true → (n : ℕ) (enable : Bool) (i : Inputs) (m : Machine) → IsSized s m →
      n < length m.axes → IsThere m o → ShownOf s k m → Leaves k o (changes_by_request s (for_power n enable) j i m o) m (after_power s n enable m)
  unfolding after_power
  power_leaves (an_axis p) on n true i m sized l there shown = axis_leaves (an_axis p) on n true m sized l there shown
  power_leaves (a_group g) on n true i m sized l there shown = axis_leaves (a_group g) on n true m sized l there shown
  power_leaves (an_axis p) on n false i m sized l there shown =
      let o = an_axis p in
      let x = with_axis_core m n (core_after_power false (axis_core_at m n)) in
      leaves_before k o (axis_part n false m o) m x (group_without_power (membership_of s n) x) (axis_leaves o on n false m sized l there shown)
      (spares_of k o x (group_without_power (membership_of s n) x) (powered_off_leaves o on n m sized l there shown))
  power_leaves (a_group g) on n false i m sized l there shown =
      let o = a_group g in
      let x = with_axis_core m n (core_after_power false (axis_core_at m n)) in
      leaves_behind k o (group_part (membership_of s n) m o) m x (group_without_power (membership_of s n) x)
      (spares_of k o m x (axis_leaves o on n false m sized l there shown)) (powered_off_leaves o on n m sized l there shown)

  power_brings : (o : Object) (n : ℕ) (enable : Bool) (i : Inputs) (m : Machine) → brought k (changes_by_request s (for_power n enable) j i m o) ≡ 0
  power_brings (an_axis p) n enable i m =
      where_brings k (an_axis n) (an_axis p) _ (axis_part n enable m (an_axis p)) (power_where n enable m (an_axis p)) (power_none n enable m)
  power_brings (a_group g) n true i m = refl
  power_brings (a_group g) n false i m = off (membership_of s n)
    where
      off : (at : Option Membership) → brought k (group_part at m (a_group g)) ≡ 0
      off None = refl
      off (Some at) =
          where_brings k (a_group at.group) (a_group g) _ (group_part (Some at) m (a_group g)) (off_where at m (a_group g)) (off_none at.group m)

  power_affects : (o : Object) → has_commands_on (slice_get s.blocks k) o ≡ true → (n : ℕ) (i : Inputs) (m : Machine) → IsGood s m → n < length m.axes →
      IsThere m o → Affects k o (effect_by_request s (for_power n i.execute) j i m o) m (after_power s n i.execute (with_execute j i m))
  power_affects o on n i m h l there =
      let v = instance.called (instance_at m.instances j) i.execute in
      let y = with_execute j i m in
      let spared = set_spares k j o m v d in
      let sized = sized_instance s m j v h.sized in
      affects_in o _ m y _ (power_leaves o on n i.execute i y sized l (there_sized s m y o h.sized sized there) (beside_own s k j m v d (h.shown k)))
      spared.progress (power_brings o n i.execute i y) (ap (owns k) spared.command_state) (ap (active_of k) spared.command_state)

  -- a rising edge, where the calling instance's earlier command is its own no longer
  record IsFree (o : Object) (free : Machine) : Type 0 where
    sized : IsSized s free
    there : IsThere free o
    shown : ShownOf s k free

  free_of : (o : Object) (i : Inputs) (m : Machine) → IsGood s m → IsThere m o → IsFree o (without_owner j (with_execute j i m))
  free_of o i m h there =
      let v = instance.called (instance_at m.instances j) i.execute in
      let size = sized_without s j (with_execute j i m) (sized_instance s m j v h.sized) in
      record {
        sized = size;
        there = there_sized s m (without_owner j (with_execute j i m)) o h.sized size there;
        shown = free_shown laws s j k v m d (h.shown k);
      }

  asking_affects : (o : Object) (i : Inputs) (m after : Machine) (ys zs : List Change) (p : Object) → IsThere m o →
      Leaves k o zs (without_owner j (with_execute j i m)) after → IsWhere p o ys zs → brought k ys ≡ 0 →
      Affects k o (record { commands = command_state_at (without_owner j (with_execute j i m)) o; changes = zs }) m after
  asking_affects o i m after ys zs p there leaves places none =
      let v = instance.called (instance_at m.instances j) i.execute in
      affects_in o zs m (without_owner j (with_execute j i m)) after leaves (ap (λ (x : InstanceState). x.progress) (free_same j k v m d))
      (where_brings k p o ys zs places none)
      (ap (owns k) (freed_at laws.walk j v m o there) ∙ laws.once.left k j (command_state_at m o) d)
      (ap (active_of k) (freed_at laws.walk j v m o there) ∙ laws.more.left k j (command_state_at m o) d)

  -- of a block on an axis
  axis_affects : (o : Object) → has_commands_on (slice_get s.blocks k) o ≡ true → (b : BlockDef) (i : Inputs) (m : Machine) → IsGood s m →
      b.object < length s.axes → IsThere m o → Affects k o (effect_by_request s (for_axis_command b) j i m o) m
      (after_axis_command s j b.object b.kind i (without_owner j (with_execute j i m)))
  unfolding after_axis_command
  axis_affects o on b i m h within there =
      let n = b.object in
      let free = without_owner j (with_execute j i m) in
      let now = free_of o i m h there in
      let size = now.sized in
      let count = size.axes in
      let c = axis_core_at free n in
      let q = asked_of_axis s j n b.kind i free in
      let e = core_after_command q c in
      let ys = axis.command_changes q c in
      let zs = changes_by_request s (for_axis_command b) j i free o in
      let made = with_axis_core free n e in
      let places = asked_where s j b i free o in
      let none : brought k ys ≡ 0 = laws.walk.axis.command_brings k q c ∙ other_brings k j (refusal_of q) q.wanted d refl in
      asking_affects o i m _ ys zs (an_axis n) there
      (leaves_before k o zs free made _
      (event_where laws s k o on (an_axis n) ys zs free made (axis_event s n free e ys size (omega arith) (laws.walk.axis.command q c))
      places now.there none now.shown (place_sized s free k o size on))
      (set_spares k j o made _ d)) places none

  -- and of one on a group
  group_affects : (o : Object) → has_commands_on (slice_get s.blocks k) o ≡ true → (b : BlockDef) (i : Inputs) (m : Machine) → IsGood s m →
      b.object < length s.groups → IsThere m o → Affects k o (effect_by_request s (for_group_command b) j i m o) m
      (after_group_command s j b.object b.kind i (without_owner j (with_execute j i m)))
  unfolding after_group_command
  group_affects o on b i m h within there =
      let n = b.object in
      let free = without_owner j (with_execute j i m) in
      let now = free_of o i m h there in
      let size = now.sized in
      let count = size.groups in
      let c = group_core_at free n in
      let w = wanted_of j b.kind i in
      let members = group_look s free n 0 in
      let e = commanded w i.jerk members c in
      let ys = group.command_changes w i.jerk members c in
      let zs = changes_by_request s (for_group_command b) j i free o in
      let made = with_group_core free n e in
      let answer = group_calls.answer_of w i.jerk members c in
      let led = members_led s n b.kind answer made in
      let alike = members_alike laws.walk s n b.kind answer made in
      let places = group_asked_where s j b i free o in
      let none : brought k ys ≡ 0 = laws.walk.group.command_brings k w i.jerk members c
      ∙ other_brings_group k j (group_refusals.refusal_of (group_calls.asked_in c w i.jerk members)) w d refl in
      asking_affects o i m _ ys zs (a_group n) there
      (leaves_before k o zs free made _
      (event_where laws s k o on (a_group n) ys zs free made (group_event s n free e ys size (omega arith) (laws.walk.group.command w i.jerk members c))
      places now.there none now.shown (place_sized s free k o size on))
      (spares_more k o made led _
      (record { command_state = alike.same o; progress = ap (λ is. progress_in is k) (members_instances s n b.kind answer made) })
      (set_spares k j o led _ d))) places none

-- a call of another instance
pub call_affects : OutcomeLaws → (s : Setup) (m : Machine) (j k : ℕ) (i : Inputs) (o : Object) → AreWhole s → IsCall s j i →
    IsMachineKept s m → AreWhereShown s m → IsThere m o → has_commands_on (slice_get s.blocks k) o ≡ true → nat_eq j k ≡ false →
    Affects k o (effect_by_request s (request_of (slice_get s.blocks j) j i m) j i m o) m (called s j i m)
call_affects laws s m j k i o whole made kept h there on d =
    let owners = laws.owners in
    let good : IsGood s m = record { sized = kept.sized; shown = h.commands } in
    let sizes = kept.sized in
    let axes_there = sizes.axes in
    let spared = set_spares k j o m (instance.called (instance_at m.instances j) i.execute) d in
    let There : BlockDef → Bool → Type 0 = λ b x. b.object < (if x then length s.groups else length s.axes) in
    let within : (b : BlockDef) → slice_get s.blocks j ≡ Some b → There b (acts_on_group b.kind) =
    λ b at. (owners.walk.may_call s j b i m whole at made kept).object in
    let of_axis : (b : BlockDef) → slice_get s.blocks j ≡ Some b → b.kind ≡ kind.Power → b.object < length m.axes =
    λ b at is. let inside : b.object < length s.axes = subst (λ y. There b (acts_on_group y)) is (within b at) in omega arith in
    by_request s j i m (λ r y. Affects k o (effect_by_request s r j i m o) m y) (record {
      absent = λ none. nothing_affects owners s k j d o i m m (record { command_state = sym spared.command_state; progress = sym spared.progress });
      quiet = λ b at other e. nothing_affects owners s k j d o i m (with_execute j i m) (spares_none k o (with_execute j i m));
      power = λ b at is. power_affects owners s k j d o on b.object i m good (of_axis b at is) there;
      axis_command = λ b at other e off. axis_affects owners s k j d o on b i m good (subst (There b) off (within b at)) there;
      group_command = λ b at other e is. group_affects owners s k j d o on b i m good (subst (There b) is (within b at)) there;
    })

pub call_outcome : OutcomeLaws → (s : Setup) (m : Machine) (j k : ℕ) (i : Inputs) (reply : Outputs) (o : Object) → AreWhole s → IsCall s j i →
    IsMachineKept s m → AreWhereShown s m → IsThere m o → has_commands_on (slice_get s.blocks k) o ≡ true → nat_eq j k ≡ false →
    progress_at (after_call s m j i) k ≡ progress_beside s m (call j i reply) k o
call_outcome laws s m j k i reply o whole made kept h there on d =
    let x = called s j i m in
    let after = after_call s m j i in
    let effect = effect_by_request s (request_of (slice_get s.blocks j) j i m) j i m o in
    let last = set_spares k j o x (instance.shown (instance_at x.instances j)) d in
    let now = laws.owners.walk.machines.call s m j i whole made kept in
    outcome laws k effect.commands effect.changes _ _ _
    (shown_by s k o effect m x after on there (there_sized s m after o kept.sized now.sized there) h (call_all_shown laws.owners s m j i whole made kept h)
    (call_affects laws s m j k i o whole made kept h there on d) last.command_state (λ none. last.progress))
