-- The events of axes and groups, by the changes of their commands.
-- for: owners_have_blocks
use Rattle.std.specs.Prelude.{◌≡◌, refl, ℕ, zero, suc, ◌+◌, ◌<◌, Bool, true, false, is_some, Result, List, [], ◌∷◌, length, slice_set}
use Rattle.std.proofs.Common.{arith, ap, sym, ◌∙◌}
use Rattle.std.proofs.lemmas.Bool.{eqb-false}
use Rattle.std.proofs.lemmas.List.{length-set}
use Rattle.axis_core.specs.Cores as cores
use Rattle.axis_core.specs.blocks.Path.{axis_on_path, is_on_path}
use Rattle.axis_core.specs.declared.axis.Axis.{Axis}
use Rattle.command_changes.specs.Axis as axis
use Rattle.command_changes.specs.Group as group
use Rattle.command_core.specs.Changes.{Change, all_changed}
use Rattle.command_core.specs.CommandState.{CommandState, disowned}
use Rattle.command_pool.specs.Waiting.{queue_of}
use Rattle.command_pool.specs.declared.ending.Refusal.{Refusal}
use Rattle.plc_types.specs.declared.kind.BlockKind.{BlockKind}
use Rattle.command_pool.specs.declared.wanted.Wanted.{Wanted}
use Rattle.fb_outputs.specs.InstanceState.{InstanceState}
use Rattle.plc_types.specs.declared.inputs.Inputs.{Inputs}
use Rattle.group_core.specs.Cores as groups
use Rattle.motion_history.specs.Setup.{Setup}
use Rattle.motion_kernel.specs.Machine.{Machine, axis_among, axis_at, axis_core_at, group_at, group_core_at}
use Rattle.motion_kernel.specs.calls.Calls.{after_reply, axes_led, axis_led, enters_path, leaves_path, members_led, with_axis_core, with_execute, with_group_core, with_instance}
use Rattle.motion_kernel.specs.calls.Telling.{told_notes}
use Rattle.motion_kernel.specs.cycles.Showing.{with_found}
use Rattle.motion_kernel.specs.kept.Machine.{IsSized}
use Rattle.motion_kernel.specs.members.Members.{members_at}
use Rattle.motion_kernel.proofs.Sizes.{by_if}
use Rattle.motion_kernel.proofs.calls.Leading.{one_led}
use Rattle.motion_kernel.proofs.kept.Events.{axis_beside_axis, axis_beside_group, axis_written, group_beside_axis, group_beside_group, group_written}
use Rattle.motion_kernel.specs.owners.Objects.{a_group, an_axis, IsThere, Object, is_same}
use Rattle.motion_kernel.proofs.owners.commands.Events.{axis_as_many, group_as_many, group_list, lists_there}
use Rattle.motion_kernel.proofs.owners.commands.Freed.{as_many_without, axis_disowned, group_disowned}
use Rattle.motion_kernel.proofs.walk.Keeps.{Alike, Event, WalkLaws, command_state_at, freed}

-- an event of an axis
pub axis_event : (s : Setup) (n : ℕ) (m : Machine) (c : cores.Core) (xs : List Change) → IsSized s m → n < length m.axes →
    axis.command_state_of c ≡ all_changed xs (axis.command_state_of (axis_core_at m n)) → Event m (with_axis_core m n c) (an_axis n) xs
axis_event s n m c xs h l makes = record {
  there = l;
  as_many = axis_as_many m n c;
  here = ap axis.command_state_of (axis_written m n c l (lists_there s m n h l)) ∙ ap (λ (d : CommandState). record d { notes = [] }) makes;
  beside = beside;
  told = ap (λ (d : CommandState). told_notes d.notes m.instances) makes;
}
  where
    beside : (p : Object) → IsThere m p → is_same (an_axis n) p ≡ false → command_state_at (with_axis_core m n c) p ≡ command_state_at m p
    beside (an_axis j) there d = ap axis.command_state_of (axis_beside_axis m n j c (λ e. eqb-false n j d (sym e)))
    beside (a_group j) there d = ap group.command_state_of (group_beside_axis m n j c l)

-- an event of a group
pub group_event : (s : Setup) (j : ℕ) (m : Machine) (c : groups.Core) (xs : List Change) → IsSized s m → j < length m.groups →
    group.command_state_of c ≡ all_changed xs (group.command_state_of (group_core_at m j)) → Event m (with_group_core m j c) (a_group j) xs
group_event s j m c xs h l makes = record {
  there = l;
  as_many = group_as_many m j c;
  here = ap group.command_state_of (group_written m j c l (group_list s m j h l)) ∙ ap (λ (d : CommandState). record d { notes = [] }) makes;
  beside = beside;
  told = ap (λ (d : CommandState). told_notes d.notes m.instances) makes;
}
  where
    beside : (p : Object) → IsThere m p → is_same (a_group j) p ≡ false → command_state_at (with_group_core m j c) p ≡ command_state_at m p
    beside (an_axis n) there d = ap axis.command_state_of (axis_beside_group m j n c there)
    beside (a_group i) there d = ap group.command_state_of (group_beside_group m j i c (λ e. eqb-false j i d (sym e)))

-- instances are no part of the commands
pub command_state_same : (m : Machine) (is : List InstanceState) (p : Object) → command_state_at (record m { instances = is }) p ≡ command_state_at m p
command_state_same m is (an_axis n) = refl
command_state_same m is (a_group j) = refl

pub there_same : (m : Machine) (is : List InstanceState) (p : Object) → IsThere (record m { instances = is }) p → IsThere m p
there_same m is (an_axis n) l = l
there_same m is (a_group j) l = l

there_still : (m : Machine) (is : List InstanceState) (p : Object) → IsThere m p → IsThere (record m { instances = is }) p
there_still m is (an_axis n) l = l
there_still m is (a_group j) l = l

pub instances_alike : (m : Machine) (is : List InstanceState) → Alike m (record m { instances = is })
instances_alike m is = record { as_many = there_same m is; there = there_still m is; same = command_state_same m is }

-- so where a call takes Execute, a reply is shown and a cycle's end is reported
pub executed_alike : (k : ℕ) (i : Inputs) (m : Machine) → Alike m (with_execute k i m)
executed_alike k i m = instances_alike m (with_execute k i m).instances

pub replied_alike : (k : ℕ) (m : Machine) → Alike m (after_reply k m)
replied_alike k m = instances_alike m (after_reply k m).instances

pub found_alike : (s : Setup) (m : Machine) → Alike m (with_found s m)
unfolding with_found
found_alike s m = instances_alike m (with_found s m).instances

pub then_alike : (m x y : Machine) → Alike m x → Alike x y → Alike m y
then_alike m x y a b = record {
  as_many = λ p l. a.as_many p (b.as_many p l);
  there = λ p l. b.there p (a.there p l);
  same = λ p. b.same p ∙ a.same p;
}

pub freed_there : (k : ℕ) (i : InstanceState) (m : Machine) (p : Object) → IsThere (freed k i m) p → IsThere m p
freed_there k i m p l = there_same m (slice_set m.instances k i) p (as_many_without k (with_instance m k i) p l)

module _ (laws : WalkLaws) where
  -- an instance whose commands are taken away
  pub freed_at : (k : ℕ) (i : InstanceState) (m : Machine) (p : Object) → IsThere m p → command_state_at (freed k i m) p ≡ disowned k (command_state_at m p)
  freed_at k i m (an_axis n) l =
      ap axis.command_state_of (axis_disowned k n (with_instance m k i) l) ∙ laws.axis.detach k (axis_core_at m n)
  freed_at k i m (a_group j) l =
      ap group.command_state_of (group_disowned k j (with_instance m k i) l) ∙ laws.group.detach k (group_core_at m j)

  -- axes that are led
  led_same : (on : Bool) (a : Axis) (ws : List Wanted) →
      axis.command_state_of (record { axis = axis_led on a; waiting = ws; notes = [] }) ≡ axis.command_state_of (record { axis = a; waiting = ws; notes = [] })
  led_same true a ws =
      let c : cores.Core = record { axis = a; waiting = ws; notes = [] } in
      by_if (λ (x : Axis). axis.command_state_of (record c { axis = x }) ≡ axis.command_state_of c) (is_some a.active) a (axis_on_path true a) refl (laws.axis.path true c)
  led_same false a ws =
      let c : cores.Core = record { axis = a; waiting = ws; notes = [] } in
      by_if (λ (x : Axis). axis.command_state_of (record c { axis = x }) ≡ axis.command_state_of c) (is_on_path a) (axis_on_path false a) a (laws.axis.path false c) refl

  one_same : (on : Bool) (axes : List Axis) (i n : ℕ) (ws : List Wanted) →
      axis.command_state_of (record { axis = axis_among (slice_set axes i (axis_led on (axis_among axes i))) n; waiting = ws; notes = [] })
      ≡ axis.command_state_of (record { axis = axis_among axes n; waiting = ws; notes = [] })
  one_same on [] i n ws = refl
  one_same on (a ∷ more) zero zero ws = led_same on a ws
  one_same on (a ∷ more) zero (suc n) ws = refl
  one_same on (a ∷ more) (suc i) zero ws = refl
  one_same on (a ∷ more) (suc i) (suc n) ws = one_same on more i n ws

  one_alike : (on : Bool) (n : ℕ) (m : Machine) → Alike m (one_led on n m)
  one_alike on n m = record { as_many = as_many; there = there; same = same }
    where
      size : length (slice_set m.axes n (axis_led on (axis_at m n))) ≡ length m.axes
      size = length-set m.axes n (axis_led on (axis_at m n))

      as_many : (p : Object) → IsThere (one_led on n m) p → IsThere m p
      as_many (an_axis i) l = omega (arith, size, l)
      as_many (a_group j) l = l

      there : (p : Object) → IsThere m p → IsThere (one_led on n m) p
      there (an_axis i) l = omega (arith, size, l)
      there (a_group j) l = l

      same : (p : Object) → command_state_at (one_led on n m) p ≡ command_state_at m p
      same (an_axis i) = one_same on m.axes n i (queue_of m.queues i)
      same (a_group j) =
          ap (λ count. group.command_state_of (groups.core_in (group_at m j).group (group_at m j).path m.queues (count + j) [])) size

  led_alike : (on : Bool) (ns : List ℕ) (m : Machine) → Alike m (axes_led on ns m)
  led_alike on [] m = record { as_many = λ p l. l; there = λ p l. l; same = λ p. refl }
  led_alike on (n ∷ ns) m = then_alike m (one_led on n m) (axes_led on ns (one_led on n m)) (one_alike on n m) (led_alike on ns (one_led on n m))

  pub members_alike : (s : Setup) (j : ℕ) (x : BlockKind) (answer : Result Bool Refusal) (m : Machine) → Alike m (members_led s j x answer m)
  members_alike s j x answer m =
      by_if (Alike m) (enters_path answer) _ _ (led_alike true (members_at s j) m)
      (by_if (Alike m) (leaves_path x answer) _ _ (led_alike false (members_at s j) m) (led_alike true [] m))

-- and the instances stay
led_instances : (on : Bool) (ns : List ℕ) (m : Machine) → (axes_led on ns m).instances ≡ m.instances
led_instances on [] m = refl
led_instances on (n ∷ ns) m = led_instances on ns (one_led on n m)

pub members_instances : (s : Setup) (j : ℕ) (x : BlockKind) (answer : Result Bool Refusal) (m : Machine) →
    (members_led s j x answer m).instances ≡ m.instances
members_instances s j x answer m =
    by_if (λ (y : Machine). y.instances ≡ m.instances) (enters_path answer) _ _ (led_instances true (members_at s j) m)
    (by_if (λ (y : Machine). y.instances ≡ m.instances) (leaves_path x answer) _ _ (led_instances false (members_at s j) m) refl)
