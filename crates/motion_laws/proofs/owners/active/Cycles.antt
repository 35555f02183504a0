-- Active commands are where they are shown after a cycle, and at opening.
-- for: machines_can_stand, replies_show_commands, commands_are_where_their_instances_show and others
use Rattle.std.specs.Prelude.{◌≡◌, refl, ℕ, zero, suc, ◌<◌, Bool, true, false, if◌then◌else◌, Option, Some, None, List, length, slice_get}
use Rattle.std.proofs.Common.{arith, ap, sym, subst, ◌∙◌, inl, inr}
use Rattle.std.proofs.lemmas.Bool.{cases_Bool, cases_eq}
use Rattle.axis_core.specs.declared.axis.Axis.{Axis}
use Rattle.buffer_modes.specs.Owners.{owner_count, owner_by}
use Rattle.command_pool.specs.declared.wanted.Wanted.{Wanted}
use Rattle.fb_outputs.specs.InstanceState.{InstanceState}
use Rattle.fb_outputs.specs.Steps as instance
use Rattle.motion_history.specs.Setup.{Setup}
use Rattle.motion_history.specs.declared.config.BlockDef.{BlockDef}
use Rattle.motion_kernel.specs.cycles.Showing.{axes_shown, found_by, groups_shown, instance_found, instances_found, told_found, with_found}
use Rattle.motion_kernel.specs.Machine.{Machine, PlacedGroup, axis_at, group_at, instance_at, machine_at_opening}
use Rattle.motion_kernel.specs.owners.Commands.{ActiveAreShown, CommandsAreShown, active_at, commands_at}
use Rattle.motion_kernel.specs.owners.Objects.{IsThere, Object, has_commands_on, is_same, a_group, an_axis}
use Rattle.buffer_modes.proofs.Owners.{nobody}
use Rattle.motion_kernel.proofs.owners.Counts.{found_in, shown_by}
use Rattle.motion_laws.proofs.owners.commands.Cycles.{axes_told}
use Rattle.motion_kernel.proofs.owners.commands.Events.{beside_none, most_one, none_beside, none_if, same_object, shown_if, shown_where}
use Rattle.motion_laws.proofs.owners.commands.Opening.{opening_shown, shows_none}
use Rattle.motion_laws.proofs.owners.active.Calls.{one_active}
use Rattle.motion_laws.proofs.owners.active.Events.{active_same, AreTrulyShown, active_by, all_are, no_more_than_shown, none_is_active}
use Rattle.motion_laws.proofs.owners.active.Told.{IsTold, most_active, axes_are_told, groups_are_told, groups_grow, axes_done, groups_done}
use Rattle.motion_laws.proofs.owners.active.Waiting.{WaitsOf, at_most}
use Rattle.motion_kernel.proofs.walk.Events.{there_same}

owner_found : (k : ℕ) (active : Option Wanted) → 0 < owner_count k (owner_by active) →
    owner_by active ≡ Some k
owner_found k None l = let n = nobody k in absurd (omega arith)
owner_found k (Some w) l = found_in k w.owner l

-- what an instance found leaves its command
found_active : (o : Option Bool) (j : ℕ) (is : List InstanceState) (k : ℕ) → active_by
    (told_found o j is) k ≡ active_by is k
found_active None j is k = refl
found_active (Some found) j is k = one_active is j k
    (instance.with_reached (instance_at is j) found) refl

where_found : (o : Option BlockDef) (axes : List Axis) (groups : List PlacedGroup) (j : ℕ)
    (is : List InstanceState) (k : ℕ) →
    active_by (instance_found o axes groups j is) k ≡ active_by is k
where_found None axes groups j is k = refl
where_found (Some b) axes groups j is k = found_active
    (found_by b.kind axes groups j b.object) j is k

all_found_active : (n : ℕ) (blocks : List BlockDef) (axes : List Axis) (groups : List PlacedGroup)
    (is : List InstanceState) (k : ℕ) →
    active_by (instances_found n blocks axes groups is) k ≡ active_by is k
unfolding instances_found
all_found_active zero blocks axes groups is k = refl
all_found_active (suc n) blocks axes groups is k =
    where_found (slice_get blocks n) axes groups n (instances_found n blocks axes groups is) k
    ∙ all_found_active n blocks axes groups is k

-- so at a cycle's end each shows Active exactly where its command is the active one
abbrev told_in : Machine → List InstanceState
told_in m = groups_shown (length m.groups) m.groups (axes_shown (length m.axes) m.axes m.instances)

done_at : (s : Setup) (m : Machine) (k : ℕ) (o : Object) → CommandsAreShown s m → IsThere m o →
    0 < active_at m k o → active_by (told_in m) k ≡ 1
done_at s m k (an_axis n) h there l =
    let axes = axes_shown (length m.axes) m.axes m.instances in
    let one = axes_done s m (length m.axes) m.instances h (omega arith) (λ j. refl) n k there
    (owner_found k (axis_at m n).active l) in
    let more = groups_grow (length m.groups) m.groups axes k in
    let most = most_active (instance_at (told_in m) k).progress in
    omega arith
done_at s m k (a_group j) h there l =
    groups_done s m (length m.groups) (axes_shown (length m.axes) m.axes m.instances) h
    (omega arith)
    (axes_told s m (length m.axes) m.instances h (omega arith) (λ i. refl)) j k there
    (owner_found k (group_at m j).group.active l)

both_on : (b : Option BlockDef) (o p : Object) → has_commands_on b o ≡ true →
    has_commands_on b p ≡ true → o ≡ p
both_on b o p e f = elim (cases_Bool (is_same o p)) [
  | inl same ↦ same_object o p same
  | inr d ↦ absurd (let off = beside_none b o p e d in cc)
]

eq_if : (b : Bool) (a f : ℕ) → b ≡ true → a ≡ f → a ≡ (if b then f else 0)
eq_if true a f e h = h
eq_if false a f e h = absurd (cc)

-- who has no active command there shows none
shows_no_active : (s : Setup) (m : Machine) (k : ℕ) (o : Object) → CommandsAreShown s m →
    WaitsOf s k m → IsThere m o →
    has_commands_on (slice_get s.blocks k) o ≡ true → active_at m k o ≡ 0 → 0 < active_by
    (told_in m) k → ⊥
shows_no_active s m k o h waits there on none some = elim (cases_eq (active_by m.instances k) 0) [
  | inl e ↦
      let start : IsTold m m.instances = record {
        same = λ j. refl;
        only = λ j x y. absurd
            (omega arith);
      } in
      let axes = axes_are_told s m (length m.axes) m.instances h (omega arith) start in
      let all = groups_are_told s m (length m.groups)
      (axes_shown (length m.axes) m.axes m.instances) h (omega arith) axes in
      let has = all.only k e some in
      let one = has.active in
      let owns = all_are m k has.object in
      let there_on = shown_where (has_commands_on (slice_get s.blocks k) has.object)
      (shown_by m.instances k)
      (let x = h k has.object has.there in omega arith) in
      let same = both_on (slice_get s.blocks k) has.object o there_on on in
      let here : active_at m k o ≡ 1 = subst (λ x. active_at m k x ≡ 1) same one in
      omega arith
  | inr d ↦
      let less = no_more_than_shown (instance_at m.instances k).progress in
      let owns = shown_if (has_commands_on (slice_get s.blocks k) o) (shown_by m.instances k)
      (commands_at m k o) on (h k o there) in
      let all = all_are m k o in
      let most = waits o there in
      omega arith
]

told_truly : (s : Setup) (m : Machine) (k : ℕ) (o : Object) → CommandsAreShown s m → WaitsOf s k m →
    IsThere m o →
    active_at m k o ≡ (if has_commands_on (slice_get s.blocks k) o then active_by
    (told_in m) k else 0)
told_truly s m k o h waits there =
    let b = has_commands_on (slice_get s.blocks k) o in
    let all = all_are m k o in
    elim (cases_eq (active_at m k o) 0) [
      | inl e ↦ elim (cases_Bool b) [
        | inl on ↦ elim (cases_eq (active_by (told_in m) k) 0) [
          | inl z ↦ none_if b (active_by (told_in m) k) (active_at m k o) z e
          | inr some ↦ absurd (shows_no_active s m k o h waits there on e (omega arith))
        ]
        | inr off ↦ none_beside b (active_by (told_in m) k) (active_at m k o) off e
      ]
      | inr d ↦
          let on = shown_where b (shown_by m.instances k) (let x = h k o there in omega arith) in
          let most = at_most b (commands_at m k o) (shown_by m.instances k) (h k o there)
          (most_one (instance_at m.instances k).progress) in
          let told = done_at s m k o h there (omega arith) in
          eq_if b (active_at m k o) (active_by (told_in m) k) on (omega arith)
    ]

pub found_truly : (s : Setup) (m : Machine) → CommandsAreShown s m → ((k : ℕ) → WaitsOf s k m) →
    ActiveAreShown s (with_found s m)
unfolding with_found
found_truly s m h waits k o l =
    let found = instances_found (length s.blocks) s.blocks m.axes m.groups (told_in m) in
    let there = there_same m found o l in
    active_same m found k o ∙ told_truly s m k o h (waits k) there
    ∙ ap (λ x. if has_commands_on (slice_get s.blocks k) o then x else 0)
    (sym (all_found_active (length s.blocks) s.blocks m.axes m.groups (told_in m) k))

-- at opening
pub opening_truly_shown : (s : Setup) → AreTrulyShown s (machine_at_opening s)
opening_truly_shown s = record {
  commands = opening_shown s;
  active = λ k. none_is_active s k (machine_at_opening s) (opening_shown s k)
      (shows_none s.axes s.blocks k);
}
