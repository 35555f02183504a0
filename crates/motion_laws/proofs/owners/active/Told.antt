-- Whose command is active is given so at a cycle's end, and nobody else.
-- for: machines_can_stand, replies_show_commands, commands_are_where_their_instances_show and others
use Rattle.std.specs.Prelude.{◌≡◌, refl, ℕ, zero, suc, ◌<◌, ◌≤◌, Bool, true, false, Option, Some, None, List, [], ◌∷◌, length, slice_set}
use Rattle.std.proofs.Common.{arith, sym, subst, ◌∙◌, inl, inr}
use Rattle.std.proofs.lemmas.Bool.{cases_eq}
use Rattle.std.proofs.lemmas.List.{get_or-set_other}
use Rattle.buffer_modes.specs.Owners.{owner_by}
use Rattle.fb_outputs.specs.InstanceState.{InstanceState}
use Rattle.fb_outputs.specs.Steps as instance
use Rattle.fb_outputs.specs.declared.instance.Progress.{Progress}
use Rattle.fb_outputs.specs.declared.instance.Progress.TheVariants.{Idle, Waiting, Active, Ended}
use Rattle.motion_history.specs.Setup.{Setup}
use Rattle.motion_kernel.specs.cycles.Showing.{axes_shown, groups_shown}
use Rattle.motion_kernel.specs.Machine.{Machine, PlacedGroup, axis_at, group_among, group_at, instance_at, no_instance}
use Rattle.motion_kernel.specs.calls.Telling.{shown_active, shown_at}
use Rattle.motion_kernel.specs.owners.Commands.{CommandsAreShown, active_at, active_shown}
use Rattle.motion_kernel.specs.owners.Objects.{IsThere, Object, a_group, an_axis}
use Rattle.motion_kernel.proofs.owners.Counts.{shown_by}
use Rattle.motion_laws.proofs.owners.commands.Cycles.{told_active, active_owner, AsShown, axes_told, axis_active_shown, group_active_shown, groups_told}
use Rattle.motion_laws.proofs.owners.active.Events.{active_by}

-- an instance whose command is active somewhere
pub record HasActive (m : Machine) (k : ℕ) : Type 0 where
  pub object : Object
  pub there : IsThere m object
  pub active : active_at m k object ≡ 1

-- instances of which some were reported that they are active: each that is was, or has such a
-- command
pub record IsTold (m : Machine) (is : List InstanceState) : Type 0 where
  pub same : AsShown m is
  pub only : (k : ℕ) → active_by m.instances k ≡ 0 → 0 < active_by is k → HasActive m k

pub most_active : (p : Progress) → active_shown p ≤ 1
most_active Idle = omega arith
most_active Waiting = omega arith
most_active Active = omega arith
most_active (Ended f shown) = omega arith

-- one that is reported shows it, and no other shows it less
grows : (is : List InstanceState) (j k : ℕ) (v : InstanceState) → active_shown v.progress ≡ 1 →
    active_by is k ≤ active_by (slice_set is j v) k
grows [] j k v e = omega arith
grows (i ∷ is) zero zero v e = let most = most_active i.progress in omega arith
grows (i ∷ is) zero (suc k) v e = omega arith
grows (i ∷ is) (suc j) zero v e = omega arith
grows (i ∷ is) (suc j) (suc k) v e = grows is j k v e

written_active : (is : List InstanceState) (j : ℕ) (v : InstanceState) → active_shown v.progress
    ≡ 1 → shown_by is j ≡ 1 → active_by (slice_set is j v) j ≡ 1
written_active [] j v e shown = absurd (cc)
written_active (i ∷ is) zero v e shown = e
written_active (i ∷ is) (suc j) v e shown = written_active is j v e shown

told_one : (m : Machine) (o : Option ℕ) (reached : Bool) (is : List InstanceState) →
    ((k : ℕ) → o ≡ Some k → shown_by m.instances k ≡ 1) →
    ((k : ℕ) → o ≡ Some k → HasActive m k) → IsTold m is → IsTold m (shown_active o reached is)
told_one m None reached is one has h = h
told_one m (Some j) reached is one has h = record {
  same = told_active m (Some j) reached is one h.same;
  only = λ k none some. elim (cases_eq k j) [
    | inl e ↦ subst (HasActive m) (sym e) (has j refl)
    | inr d ↦
        let other = get_or-set_other is j k
        (instance.with_reached
        (instance.started (instance_at is j) true) reached) no_instance d in
        h.only k none (subst (λ (i : InstanceState). 0 < active_shown i.progress) other some)
  ];
}

axis_has : (m : Machine) (n k : ℕ) → n < length m.axes → owner_by (axis_at m n).active ≡ Some k →
    HasActive m k
axis_has m n k l e = record {
  object = an_axis n;
  there = l;
  active = active_owner k
      (axis_at m n).active e;
}

group_has : (m : Machine) (j k : ℕ) → j < length m.groups → owner_by (group_at m j).group.active
    ≡ Some k → HasActive m k
group_has m j k l e = record {
  object = a_group j;
  there = l;
  active = active_owner k
      (group_at m j).group.active e;
}

pub axes_are_told : (s : Setup) (m : Machine) (n : ℕ) (is : List InstanceState) → CommandsAreShown s m →
    n ≤ length m.axes → IsTold m is → IsTold m (axes_shown n m.axes is)
unfolding axes_shown
axes_are_told s m zero is h l told = told
axes_are_told s m (suc n) is h l told =
    told_one m (owner_by (axis_at m n).active) (axis_at m n).reached (axes_shown n m.axes is)
    (λ k e. axis_active_shown s m n k h (omega arith) e)
    (λ k e. axis_has m n k (omega arith) e) (axes_are_told s m n is h (omega arith) told)

pub groups_are_told : (s : Setup) (m : Machine) (n : ℕ) (is : List InstanceState) →
    CommandsAreShown s m → n ≤ length m.groups → IsTold m is → IsTold m (groups_shown n m.groups is)
unfolding groups_shown
groups_are_told s m zero is h l told = told
groups_are_told s m (suc n) is h l told =
    told_one m (owner_by (group_at m n).group.active) false (groups_shown n m.groups is)
    (λ k e. group_active_shown s m n k h (omega arith) e)
    (λ k e. group_has m n k (omega arith) e) (groups_are_told s m n is h (omega arith) told)

-- no more of them are given less
told_grows : (o : Option ℕ) (reached : Bool) (is : List InstanceState) (k : ℕ) →
    active_by is k ≤ active_by (shown_active o reached is) k
told_grows None reached is k = omega arith
told_grows (Some j) reached is k = grows is j k
    (instance.with_reached (instance.started (instance_at is j) true) reached) refl

pub groups_grow : (n : ℕ) (groups : List PlacedGroup) (is : List InstanceState) (k : ℕ) →
    active_by is k ≤ active_by (groups_shown n groups is) k
unfolding groups_shown
groups_grow zero groups is k = omega arith
groups_grow (suc n) groups is k =
    let one = groups_grow n groups is k in
    let more = told_grows (owner_by (group_among groups n).group.active) false
    (groups_shown n groups is) k in
    omega arith

-- whoever owns an active command is notified
told_is : (m : Machine) (o : Option ℕ) (reached : Bool) (is : List InstanceState) (k : ℕ) →
    AsShown m is → shown_by m.instances k ≡ 1 → o ≡ Some k →
    active_by (shown_active o reached is) k ≡ 1
told_is m None reached is k same one e = absurd (cc)
told_is m (Some j) reached is k same one e =
    let is_it : j ≡ k = cc in
    subst (λ x. active_by (shown_at j reached is) x ≡ 1) is_it
    (written_active is j
    (instance.with_reached (instance.started (instance_at is j) true) reached) refl
    (subst (λ x. shown_by is x ≡ 1) (sym is_it) (same k ∙ one)))

pub axes_done : (s : Setup) (m : Machine) (n : ℕ) (is : List InstanceState) → CommandsAreShown s m →
    n ≤ length m.axes → AsShown m is → (i k : ℕ) → i < n →
    owner_by (axis_at m i).active ≡ Some k → active_by (axes_shown n m.axes is) k ≡ 1
unfolding axes_shown
axes_done s m zero is h l same i k b e = absurd (omega arith)
axes_done s m (suc n) is h l same i k b e = elim (cases_eq i n) [
  | inl x ↦
      told_is m (owner_by (axis_at m n).active) (axis_at m n).reached (axes_shown n m.axes is) k
      (axes_told s m n is h (omega arith) same)
      (axis_active_shown s m i k h (omega arith) e)
      (subst (λ y. owner_by (axis_at m y).active ≡ Some k) x e)
  | inr d ↦
      let one = axes_done s m n is h (omega arith) same i k (omega arith) e in
      let more = told_grows (owner_by (axis_at m n).active) (axis_at m n).reached
      (axes_shown n m.axes is) k in
      let most = most_active
      (instance_at (shown_active (owner_by (axis_at m n).active) (axis_at m n).reached
      (axes_shown n m.axes is)) k).progress in
      omega arith
]

pub groups_done : (s : Setup) (m : Machine) (n : ℕ) (is : List InstanceState) → CommandsAreShown s m →
    n ≤ length m.groups → AsShown m is → (j k : ℕ) → j < n →
    owner_by (group_at m j).group.active ≡ Some k → active_by (groups_shown n m.groups is) k ≡ 1
unfolding groups_shown
groups_done s m zero is h l same j k b e = absurd (omega arith)
groups_done s m (suc n) is h l same j k b e = elim (cases_eq j n) [
  | inl x ↦
      told_is m (owner_by (group_at m n).group.active) false (groups_shown n m.groups is) k
      (groups_told s m n is h (omega arith) same)
      (group_active_shown s m j k h (omega arith) e)
      (subst (λ y. owner_by (group_at m y).group.active ≡ Some k) x e)
  | inr d ↦
      let one = groups_done s m n is h (omega arith) same j k (omega arith) e in
      let more = told_grows (owner_by (group_at m n).group.active) false
      (groups_shown n m.groups is) k in
      let most = most_active
      (instance_at (shown_active (owner_by (group_at m n).group.active) false
      (groups_shown n m.groups is)) k).progress in
      omega arith
]
