-- A machine stays kept by an event of one axis or one group that keeps what holds of it.
-- for: rows_are_counted, owners_have_blocks, machines_stay_kept and others
use Rattle.std.specs.Prelude.{◌≡◌, ◌≢◌, refl, ℕ, ◌+◌, ◌<◌, Option, Some, None, List, [], length, map, slice_set}
use Rattle.std.proofs.Common.{arith, ap, sym, subst, ◌∙◌, inl, inr}
use Rattle.std.proofs.lemmas.Bool.{cases_eq}
use Rattle.std.proofs.lemmas.List.{get_or-set_other, get_or-set_same, length-set}
use Rattle.axis_core.specs.AxisKept as axis
use Rattle.axis_core.specs.Cores as cores
use Rattle.command_pool.specs.Waiting.{queue_of}
use Rattle.fb_outputs.specs.InstanceState.{InstanceState}
use Rattle.group_core.specs.Cores as group_cores
use Rattle.group_core.specs.GroupKept as group
use Rattle.motion_history.specs.Setup.{Setup}
use Rattle.motion_kernel.specs.calls.Calls.{with_axis_core, with_group_core, with_instance}
use Rattle.motion_kernel.specs.Machine.{Machine, PlacedGroup, axis_at, axis_core_at, group_at, group_core_at, list_of, no_axis, no_group}
use Rattle.motion_kernel.specs.kept.Machine.{IsAxisKept, IsGroupKept, IsMachineKept, IsMember, IsPlaced, IsSized, limits_of}
use Rattle.motion_kernel.specs.members.Members.{member_at, members_at, membership_of}
use Rattle.motion_kernel.specs.declared.memberships.Membership.{Membership}
use Rattle.motion_kernel.proofs.members.Places.{membership_is}
use Rattle.motion_kernel.proofs.Sizes.{told_length}

-- a machine has as many axes, groups, lists and instances as another
pub record IsAsLarge (m after : Machine) : Type 0 where
  pub axes : length after.axes ≡ length m.axes
  pub groups : length after.groups ≡ length m.groups
  pub queues : length after.queues ≡ length m.queues
  pub instances : length after.instances ≡ length m.instances

pub sized_as : (s : Setup) (m after : Machine) → IsSized s m → IsAsLarge m after → IsSized s after
sized_as s m after h l = record {
  setup = h.setup;
  axes = l.axes ∙ h.axes;
  groups = l.groups ∙ h.groups;
  queues = l.queues ∙ h.queues;
  instances = l.instances ∙ h.instances;
}

-- what holds of an axis holds of one that is alike, in a group that is
pub placed_same : (o : Option Membership) (m after : Machine) (c : cores.Core) →
    ((at : Membership) → o ≡ Some at → group_at after at.group ≡ group_at m at.group) → IsPlaced o m c → IsPlaced o after c
placed_same None m after c g h = h
placed_same (Some at) m after c g h = subst (λ (p : PlacedGroup). IsMember p at.place c) (sym (g at refl)) h

pub axis_same : (s : Setup) (m after : Machine) (n : ℕ) → axis_core_at after n ≡ axis_core_at m n →
    ((at : Membership) → membership_of s n ≡ Some at → group_at after at.group ≡ group_at m at.group) → IsAxisKept s m n → IsAxisKept s after n
axis_same s m after n e g h = record {
  core = subst axis.IsCoreKept (sym e) h.core;
  limits = ap (λ (c : cores.Core). c.axis.limits) e ∙ h.limits;
  placed = subst (λ (c : cores.Core). IsPlaced (membership_of s n) after c) (sym e) (placed_same (membership_of s n) m after (axis_core_at m n) g h.placed);
}

pub group_same : (s : Setup) (m after : Machine) (j : ℕ) → group_core_at after j ≡ group_core_at m j → IsGroupKept s m j → IsGroupKept s after j
group_same s m after j e h = record {
  core = subst (group.IsCoreKept (map (limits_of s) (members_at s j))) (sym e) h.core;
  count = ap (λ (c : group_cores.Core). c.group.axes) e ∙ h.count;
}

-- the notes of an axis and of a group don't matter
pub untold : (c : cores.Core) → axis.IsCoreKept c → axis.IsCoreKept (record c { notes = [] })
untold c h = record { axis = h.axis; waiting = h.waiting; queue = h.queue }

pub untold_member : (g : PlacedGroup) (place : ℕ) (c : cores.Core) → IsMember g place c → IsMember g place (record c { notes = [] })
untold_member g place c h = record {
  on = λ e. let o = h.on e in record { path = o.path; on = o.on; stands = o.stands };
  led = λ e. let l = h.led e in record { idle = l.idle; alone = l.alone; state = l.state };
}

pub untold_placed : (o : Option Membership) (m : Machine) (c : cores.Core) → IsPlaced o m c → IsPlaced o m (record c { notes = [] })
untold_placed None m c h = h
untold_placed (Some at) m c h = untold_member (group_at m at.group) at.place c h

-- the axes and groups after an event of an axis
pub axis_written : (m : Machine) (n : ℕ) (c : cores.Core) → n < length m.axes → n < length m.queues →
    axis_core_at (with_axis_core m n c) n ≡ record c { notes = [] }
axis_written m n c l k =
    let a = get_or-set_same m.axes n c.axis no_axis l in
    let q = get_or-set_same m.queues n c.waiting [] k in
    λ i. record { axis = a i; waiting = q i; notes = [] }

pub axis_beside_axis : (m : Machine) (n k : ℕ) (c : cores.Core) → k ≢ n → axis_core_at (with_axis_core m n c) k ≡ axis_core_at m k
axis_beside_axis m n k c d =
    let a = get_or-set_other m.axes n k c.axis no_axis d in
    let q = get_or-set_other m.queues n k c.waiting [] d in
    λ i. record { axis = a i; waiting = q i; notes = [] }

pub group_beside_axis : (m : Machine) (n j : ℕ) (c : cores.Core) → n < length m.axes → group_core_at (with_axis_core m n c) j ≡ group_core_at m j
group_beside_axis m n j c l =
    let size = length-set m.axes n c.axis in
    let list : list_of (with_axis_core m n c) j ≡ list_of m j = ap (λ k. k + j) size in
    let q = get_or-set_other m.queues n (list_of m j) c.waiting [] (λ e. omega arith) in
    let all : queue_of (slice_set m.queues n c.waiting) (list_of (with_axis_core m n c) j) ≡ queue_of m.queues (list_of m j) =
    ap (queue_of (slice_set m.queues n c.waiting)) list ∙ q in
    λ i. record { group = (group_at m j).group; path = (group_at m j).path; waiting = all i; notes = [] }

pub axis_event_size : (m : Machine) (n : ℕ) (c : cores.Core) → IsAsLarge m (with_axis_core m n c)
axis_event_size m n c = record {
  axes = length-set m.axes n c.axis;
  groups = refl;
  queues = length-set m.queues n c.waiting;
  instances = told_length c.notes m.instances;
}

-- the axes and groups after an event of a group
pub group_written : (m : Machine) (j : ℕ) (c : group_cores.Core) → j < length m.groups → list_of m j < length m.queues →
    group_core_at (with_group_core m j c) j ≡ record c { notes = [] }
group_written m j c l k =
    let g = get_or-set_same m.groups j (record { group = c.group; path = c.path }) no_group l in
    let q = get_or-set_same m.queues (list_of m j) c.waiting [] k in
    λ i. record { group = (g i).group; path = (g i).path; waiting = q i; notes = [] }

pub group_beside_group : (m : Machine) (j k : ℕ) (c : group_cores.Core) → k ≢ j → group_core_at (with_group_core m j c) k ≡ group_core_at m k
group_beside_group m j k c d =
    let g = get_or-set_other m.groups j k (record { group = c.group; path = c.path }) no_group d in
    let q = get_or-set_other m.queues (list_of m j) (list_of m k) c.waiting [] (λ e. d (omega arith)) in
    λ i. record { group = (g i).group; path = (g i).path; waiting = q i; notes = [] }

pub axis_beside_group : (m : Machine) (j n : ℕ) (c : group_cores.Core) → n < length m.axes → axis_core_at (with_group_core m j c) n ≡ axis_core_at m n
axis_beside_group m j n c l =
    let q = get_or-set_other m.queues (list_of m j) n c.waiting [] (λ e. omega arith) in
    λ i. record { axis = axis_at m n; waiting = q i; notes = [] }

pub group_event_size : (m : Machine) (j : ℕ) (c : group_cores.Core) → IsAsLarge m (with_group_core m j c)
group_event_size m j c = record {
  axes = refl;
  groups = length-set m.groups j _;
  queues = length-set m.queues (list_of m j) c.waiting;
  instances = told_length c.notes m.instances;
}

-- a machine is kept after an event of an axis
pub axis_event_kept : (s : Setup) (m : Machine) (n : ℕ) (c : cores.Core) → IsMachineKept s m → n < length m.axes →
    axis.IsCoreKept c → c.axis.limits ≡ limits_of s n → IsPlaced (membership_of s n) m c → IsMachineKept s (with_axis_core m n c)
axis_event_kept s m n c h l kept limits placed =
    let size = axis_event_size m n c in
    let sizes = h.sized in
    let axes = sizes.axes in
    let queues = sizes.queues in
    let after = with_axis_core m n c in
    let here = axis_written m n c l (omega arith) in
    let one : IsAxisKept s after n = record {
      core = subst axis.IsCoreKept (sym here) (untold c kept);
      limits = ap (λ (d : cores.Core). d.axis.limits) here ∙ limits;
      placed = subst (λ (d : cores.Core). IsPlaced (membership_of s n) after d) (sym here)
          (untold_placed (membership_of s n) after c (placed_same (membership_of s n) m after c (λ at e. refl) placed));
    } in
    record {
      sized = sized_as s m after h.sized size;
      axes = λ k b. elim (cases_eq k n) [
        | inl e ↦ subst (IsAxisKept s after) (sym e) one
        | inr d ↦ axis_same s m after k (axis_beside_axis m n k c d) (λ at e. refl) (h.axes k (let x = size.axes in omega arith))
      ];
      groups = λ j b. group_same s m after j (group_beside_axis m n j c l) (h.groups j b);
    }

-- what holds of the axes after an event of a group
pub group_changed : (m : Machine) (j : ℕ) (c : group_cores.Core) → j < length m.groups → group_at (with_group_core m j c) j ≡ record { group = c.group; path = c.path }
group_changed m j c l = get_or-set_same m.groups j (record { group = c.group; path = c.path }) no_group l

abbrev pub MembersAre : Setup → Machine → ℕ → group_cores.Core → Type 0
MembersAre s m j c = (place : ℕ) → place < length (members_at s j) →
    IsMember (record { group = c.group; path = c.path }) place (axis_core_at m (member_at (members_at s j) place))

placed_after : (s : Setup) (m : Machine) (j k : ℕ) (c : group_cores.Core) (o : Option Membership) → j < length m.groups → MembersAre s m j c →
    membership_of s k ≡ o → IsPlaced o m (axis_core_at m k) → IsPlaced o (with_group_core m j c) (axis_core_at m k)
placed_after s m j k c None l members e h = h
placed_after s m j k c (Some at) l members e h = elim (cases_eq at.group j) [
  | inl same ↦
      let found = membership_is s k at e in
      let is : member_at (members_at s j) at.place ≡ k = rw (← same) found.axis in
      let among : at.place < length (members_at s j) = rw (← same) found.among in
      let there : group_at (with_group_core m j c) at.group ≡ record { group = c.group; path = c.path } = rw same (group_changed m j c l) in
      let one : IsMember (record { group = c.group; path = c.path }) at.place (axis_core_at m k) = rw (← is) (members at.place among) in
      subst (λ (p : PlacedGroup). IsMember p at.place (axis_core_at m k)) (sym there) one
  | inr other ↦
      let there : group_at (with_group_core m j c) at.group ≡ group_at m at.group =
      get_or-set_other m.groups j at.group (record { group = c.group; path = c.path }) no_group other in
      subst (λ (p : PlacedGroup). IsMember p at.place (axis_core_at m k)) (sym there) h
]

-- a machine is kept after an event of a group
pub group_event_kept : (s : Setup) (m : Machine) (j : ℕ) (c : group_cores.Core) → IsMachineKept s m → j < length m.groups →
    group.IsCoreKept (map (limits_of s) (members_at s j)) c → c.group.axes ≡ (group_at m j).group.axes →
    ((place : ℕ) → place < length (members_at s j) →
    IsMember (record { group = c.group; path = c.path }) place (axis_core_at m (member_at (members_at s j) place))) →
    IsMachineKept s (with_group_core m j c)
group_event_kept s m j c h l kept axes members =
    let size = group_event_size m j c in
    let sizes = h.sized in
    let counts = sizes.axes in
    let groups = sizes.groups in
    let queues = sizes.queues in
    let after = with_group_core m j c in
    let here = group_written m j c l (omega arith) in
    let one : IsGroupKept s after j = record {
      core = subst (group.IsCoreKept (map (limits_of s) (members_at s j))) (sym here) kept;
      count = ap (λ (d : group_cores.Core). d.group.axes) here ∙ axes ∙ (h.groups j l).count;
    } in
    record {
      sized = sized_as s m after h.sized size;
      axes = λ k b.
          let same = axis_beside_group m j k c b in
          let a = h.axes k b in
          record {
            core = subst axis.IsCoreKept (sym same) a.core;
            limits = a.limits;
            placed = subst (λ (d : cores.Core). IsPlaced (membership_of s k) after d) (sym same)
                (placed_after s m j k c (membership_of s k) l members refl a.placed);
          };
      groups = λ k b. elim (cases_eq k j) [
        | inl e ↦ subst (IsGroupKept s after) (sym e) one
        | inr d ↦ group_same s m after k (group_beside_group m j k c d) (h.groups k (let x = size.groups in omega arith))
      ];
    }

-- a machine is kept with other instances, as many as before
pub instances_kept : (s : Setup) (m : Machine) (is : List InstanceState) → IsMachineKept s m → length is ≡ length m.instances →
    IsMachineKept s (record m { instances = is })
instances_kept s m is h e = record {
  sized = sized_as s m (record m { instances = is }) h.sized (record { axes = refl; groups = refl; queues = refl; instances = e });
  axes = λ k b. axis_same s m (record m { instances = is }) k refl (λ at x. refl) (h.axes k b);
  groups = λ j b. group_same s m (record m { instances = is }) j refl (h.groups j b);
}

pub instance_kept : (s : Setup) (m : Machine) (k : ℕ) (i : InstanceState) → IsMachineKept s m → IsMachineKept s (with_instance m k i)
instance_kept s m k i h = instances_kept s m (slice_set m.instances k i) h (length-set m.instances k i)
