-- A machine stays kept by an event of a group that moves its axes along.
-- for: machines_stay_kept, call, cycle and others
use Rattle.std.specs.Prelude.{◌≡◌, refl, ℕ, zero, suc, ◌+◌, ◌<◌, Bool, true, false, not, ◌&&◌, Option, Some, None, is_some, List, [], ◌∷◌, length, map, slice_set}
use Rattle.std.proofs.Common.{arith, ap, sym, subst, ◌∙◌, inl, inr}
use Rattle.std.proofs.lemmas.Bool.{cases_Bool, cases_eq}
use Rattle.std.proofs.lemmas.List.{get_or-set_other, get_or-set_same, length-set}
use Rattle.axis_core.specs.AxisKept as axis
use Rattle.axis_core.specs.Cores as cores
use Rattle.axis_state.specs.States.{is_synchronized}
use Rattle.axis_core.specs.blocks.Path.{axis_on_path, is_on_path, state_on_path}
use Rattle.axis_core.specs.declared.axis.Axis.{Axis}
use Rattle.plc_types.specs.declared.axis_state.AxisState.{AxisState}
use Rattle.plc_types.specs.declared.axis_state.AxisState.TheVariants as state
use Rattle.command_pool.specs.Waiting.{queue_of}
use Rattle.group_core.specs.Cores as group_cores
use Rattle.group_core.specs.GroupKept as group
use Rattle.motion_history.specs.Setup.{Setup}
use Rattle.motion_kernel.specs.calls.Calls.{axes_led, axis_led, with_group_core}
use Rattle.motion_kernel.specs.Machine.{Machine, PlacedGroup, axis_among, axis_at, axis_core_at, group_at, group_core_at, list_of, no_axis, no_group}
use Rattle.motion_kernel.specs.kept.Machine.{IsAxisKept, IsGroupKept, IsMachineKept, IsMember, IsPlaced, limits_of}
use Rattle.motion_kernel.specs.members.Members.{member_at, members_at, membership_of}
use Rattle.motion_kernel.specs.declared.memberships.Membership.{Membership}
use Rattle.motion_kernel.proofs.kept.Events.{group_beside_group, group_changed, group_event_size, group_written, sized_as}
use Rattle.motion_kernel.proofs.members.Places.{member_found, membership_is}

-- an axis is none of a group's
abbrev pub IsNoMember : Setup → ℕ → ℕ → Type 0
IsNoMember s j n = (place : ℕ) → place < length (members_at s j) → member_at (members_at s j) place ≡ n → ⊥

-- an axis of a group, as it is from now on
pub record IsMoved (s : Setup) (m : Machine) (g : PlacedGroup) (place n : ℕ) (a : Axis) : Type 0 where
  pub kept : axis.IsCoreKept (cores.core_at a m.queues n [])
  pub limits : a.limits ≡ limits_of s n
  pub member : IsMember g place (cores.core_at a m.queues n [])

-- the machine after the event of a group, with these axes
abbrev pub moved_with : Machine → ℕ → group_cores.Core → List Axis → Machine
moved_with m j d axes = record (with_group_core m j d) { axes = axes }

moved_core : (m : Machine) (j n : ℕ) (d : group_cores.Core) (axes : List Axis) → n < length m.axes →
    axis_core_at (moved_with m j d axes) n ≡ cores.core_at (axis_among axes n) m.queues n []
moved_core m j n d axes l =
    let q = get_or-set_other m.queues (list_of m j) n d.waiting [] (λ e. omega arith) in
    λ i. record { axis = axis_among axes n; waiting = q i; notes = [] }

moved_groups : (m : Machine) (j k : ℕ) (d : group_cores.Core) (axes : List Axis) → length axes ≡ length m.axes →
    group_core_at (moved_with m j d axes) k ≡ group_core_at (with_group_core m j d) k
moved_groups m j k d axes e =
    let after = with_group_core m j d in
    λ i. record { group = (group_at after k).group; path = (group_at after k).path; waiting = queue_of after.queues (e i + k); notes = [] }

axis_alike : (s : Setup) (m after : Machine) (n : ℕ) (c : cores.Core) → axis_core_at after n ≡ c →
    axis.IsCoreKept c → c.axis.limits ≡ limits_of s n → IsPlaced (membership_of s n) after c → IsAxisKept s after n
axis_alike s m after n c e kept limits placed = record {
  core = subst axis.IsCoreKept (sym e) kept;
  limits = ap (λ (x : cores.Core). x.axis.limits) e ∙ limits;
  placed = subst (λ (x : cores.Core). IsPlaced (membership_of s n) after x) (sym e) placed;
}

moved_axis : (s : Setup) (m : Machine) (j n : ℕ) (d : group_cores.Core) (axes : List Axis) (o : Option Membership) → IsMachineKept s m →
    j < length m.groups → n < length m.axes → (IsNoMember s j n → axis_among axes n ≡ axis_at m n) →
    ((place : ℕ) → place < length (members_at s j) → (k : ℕ) → member_at (members_at s j) place ≡ k →
    IsMoved s m (record { group = d.group; path = d.path }) place k (axis_among axes k)) →
    membership_of s n ≡ o → IsAxisKept s (moved_with m j d axes) n
moved_axis s m j n d axes None h l b others members e =
    let after = moved_with m j d axes in
    let sizes = h.sized in
    let groups = sizes.groups in
    let out : IsNoMember s j n = λ place k is. let f = member_found s j place sizes.setup (omega arith) k in let g = ap (membership_of s) is in cc in
    let same = others out in
    let core : axis_core_at after n ≡ axis_core_at m n = moved_core m j n d axes b ∙ (λ i. record { axis = same i; waiting = queue_of m.queues n; notes = [] }) in
    let a = h.axes n b in
    let none : IsPlaced None m (axis_core_at m n) = subst (λ o. IsPlaced o m (axis_core_at m n)) e a.placed in
    axis_alike s m after n (axis_core_at m n) core a.core a.limits (subst (λ o. IsPlaced o after (axis_core_at m n)) (sym e) none)
moved_axis s m j n d axes (Some at) h l b others members e =
    let after = moved_with m j d axes in
    let sizes = h.sized in
    let groups = sizes.groups in
    let found = membership_is s n at e in
    let a = h.axes n b in
    elim (cases_eq at.group j) [
      | inl same ↦
          let is : member_at (members_at s j) at.place ≡ n = rw (← same) found.axis in
          let among : at.place < length (members_at s j) = rw (← same) found.among in
          let moved = members at.place among n is in
          let c = cores.core_at (axis_among axes n) m.queues n [] in
          let there : group_at after at.group ≡ record { group = d.group; path = d.path } = rw same (group_changed m j d l) in
          let placed : IsPlaced (Some at) after c = subst (λ (g : PlacedGroup). IsMember g at.place c) (sym there) moved.member in
          axis_alike s m after n c (moved_core m j n d axes b) moved.kept moved.limits (subst (λ o. IsPlaced o after c) (sym e) placed)
      | inr other ↦
          let out : IsNoMember s j n = λ place k is.
          let f = member_found s j place sizes.setup (omega arith) k in
          let g : Some at ≡ Some (record { group = j; place = place }) = sym e ∙ ap (membership_of s) (sym is) ∙ f in
          let x : at ≡ record { group = j; place = place } = cc in
          other (ap (λ (y : Membership). y.group) x) in
          let same = others out in
          let core : axis_core_at after n ≡ axis_core_at m n = moved_core m j n d axes b ∙ (λ i. record { axis = same i; waiting = queue_of m.queues n; notes = [] }) in
          let there : group_at after at.group ≡ group_at m at.group = get_or-set_other m.groups j at.group _ no_group other in
          let was : IsMember (group_at m at.group) at.place (axis_core_at m n) = subst (λ o. IsPlaced o m (axis_core_at m n)) e a.placed in
          let placed : IsPlaced (Some at) after (axis_core_at m n) = subst (λ (g : PlacedGroup). IsMember g at.place (axis_core_at m n)) (sym there) was in
          axis_alike s m after n (axis_core_at m n) core a.core a.limits (subst (λ o. IsPlaced o after (axis_core_at m n)) (sym e) placed)
    ]

-- a machine is kept after an event of a group that changes its axes too
pub moved_kept : (s : Setup) (m : Machine) (j : ℕ) (d : group_cores.Core) (axes : List Axis) → IsMachineKept s m → j < length m.groups →
    group.IsCoreKept (map (limits_of s) (members_at s j)) d → d.group.axes ≡ (group_at m j).group.axes → length axes ≡ length m.axes →
    ((n : ℕ) → n < length m.axes → IsNoMember s j n → axis_among axes n ≡ axis_at m n) →
    ((place : ℕ) → place < length (members_at s j) → (n : ℕ) → member_at (members_at s j) place ≡ n →
    IsMoved s m (record { group = d.group; path = d.path }) place n (axis_among axes n)) →
    IsMachineKept s (moved_with m j d axes)
moved_kept s m j d axes h l kept count size others members =
    let sizes = h.sized in
    let s1 = sizes.axes in
    let s2 = sizes.groups in
    let s3 = sizes.queues in
    let event = group_event_size m j d in
    let t2 = event.groups in
    let after = moved_with m j d axes in
    let limits = map (limits_of s) (members_at s j) in
    let here : group_core_at after j ≡ record d { notes = [] } = moved_groups m j j d axes size ∙ group_written m j d l (omega arith) in
    let one : IsGroupKept s after j = record {
      core = subst (group.IsCoreKept limits) (sym here) kept;
      count = ap (λ (x : group_cores.Core). x.group.axes) here ∙ count ∙ (h.groups j l).count;
    } in
    record {
      sized = sized_as s m after sizes (record { axes = size; groups = event.groups; queues = event.queues; instances = event.instances });
      axes = λ n b. let k : n < length m.axes = omega arith in moved_axis s m j n d axes (membership_of s n) h l k (others n k) members refl;
      groups = λ k b. elim (cases_eq k j) [
        | inl e ↦ subst (IsGroupKept s after) (sym e) one
        | inr x ↦
            let same : group_core_at after k ≡ group_core_at m k = moved_groups m j k d axes size ∙ group_beside_group m j k d x in
            let g = h.groups k (omega arith) in
            record {
              core = subst (group.IsCoreKept (map (limits_of s) (members_at s k))) (sym same) g.core;
              count = ap (λ (x : group_cores.Core). x.group.axes) same ∙ g.count;
            }
      ];
    }

-- the axes of a list that go on a path, or leave it
abbrev pub axes_after : Bool → List ℕ → List Axis → List Axis
axes_after on [] axes = axes
axes_after on (n ∷ ns) axes = axes_after on ns (slice_set axes n (axis_led on (axis_among axes n)))

pub axes_led_are : (on : Bool) (ns : List ℕ) (m : Machine) → axes_led on ns m ≡ record m { axes = axes_after on ns m.axes }
axes_led_are on [] m = refl
axes_led_are on (n ∷ ns) m = axes_led_are on ns (record m { axes = slice_set m.axes n (axis_led on (axis_at m n)) })

pub led_size : (on : Bool) (ns : List ℕ) (axes : List Axis) → length (axes_after on ns axes) ≡ length axes
led_size on [] axes = refl
led_size on (n ∷ ns) axes = led_size on ns (slice_set axes n (axis_led on (axis_among axes n))) ∙ length-set axes n (axis_led on (axis_among axes n))

pub not_led : (on : Bool) (ns : List ℕ) (axes : List Axis) (k : ℕ) →
    ((place : ℕ) → place < length ns → member_at ns place ≡ k → ⊥) → axis_among (axes_after on ns axes) k ≡ axis_among axes k
not_led on [] axes k h = refl
not_led on (n ∷ ns) axes k h =
    not_led on ns (slice_set axes n (axis_led on (axis_among axes n))) k (λ place l e. h (suc place) (omega arith) e)
    ∙ get_or-set_other axes n k (axis_led on (axis_among axes n)) no_axis (λ e. h 0 (omega arith) (sym e))

-- how an axis is led
pub leads_none : (a : Axis) → is_some a.active ≡ true → axis_led true a ≡ a
leads_none a e = rw e refl

pub leads_on : (a : Axis) → is_some a.active ≡ false → axis_led true a ≡ axis_on_path true a
leads_on a e = rw e refl

pub leads_off : (a : Axis) → is_on_path a ≡ true → axis_led false a ≡ axis_on_path false a
leads_off a e = rw e refl

pub leaves_off : (a : Axis) → is_on_path a ≡ false → axis_led false a ≡ a
leaves_off a e = rw e refl

state_twice : (s : AxisState) → state_on_path true (state_on_path true s) ≡ state_on_path true s
state_twice state.Standstill = refl
state_twice _ = refl

on_twice : (a : Axis) → axis_on_path true (axis_on_path true a) ≡ axis_on_path true a
unfolding axis_on_path
on_twice a = ap (λ s. record a { state = s }) (state_twice a.state)

active_on : (a : Axis) → (axis_on_path true a).active ≡ a.active
unfolding axis_on_path
active_on a = refl

off_state : (s : AxisState) → is_synchronized (state_on_path false s) ≡ false
off_state state.SynchronizedMotion = refl
off_state _ = refl

pub is_off : (a : Axis) → is_on_path (axis_on_path false a) ≡ false
unfolding axis_on_path
is_off a = ap (λ b. b && not (is_some a.active)) (off_state a.state)

-- an axis that is led twice is as if led once
pub led_twice : (on : Bool) (a : Axis) → axis_led on (axis_led on a) ≡ axis_led on a
led_twice true a = elim (cases_Bool (is_some a.active)) [
  | inl e ↦ let same = leads_none a e in ap (axis_led true) same
  | inr e ↦
      let led = leads_on a e in
      let free : is_some (axis_on_path true a).active ≡ false = ap is_some (active_on a) ∙ e in
      ap (axis_led true) led ∙ leads_on (axis_on_path true a) free ∙ on_twice a ∙ sym led
]
led_twice false a = elim (cases_Bool (is_on_path a)) [
  | inl e ↦ let led = leads_off a e in ap (axis_led false) led ∙ leaves_off (axis_on_path false a) (is_off a) ∙ sym led
  | inr e ↦ ap (axis_led false) (leaves_off a e)
]

-- an axis that is to be led, or is as it would be
pub data IsToLead (on : Bool) (ns : List ℕ) (k : ℕ) (a : Axis) : Type 0 where
  member : (place : ℕ) → place < length ns → member_at ns place ≡ k → IsToLead on ns k a
  same : axis_led on a ≡ a → IsToLead on ns k a

to_lead_behind : (on : Bool) (n : ℕ) (ns : List ℕ) (k : ℕ) (a : Axis) → (k ≡ n → ⊥) → IsToLead on (n ∷ ns) k a → IsToLead on ns k a
to_lead_behind on n ns k a d (member zero l e) = absurd (d (sym e))
to_lead_behind on n ns k a d (member (suc place) l e) = member place (omega arith) e
to_lead_behind on n ns k a d (same e) = same e

led_more : (on : Bool) (n : ℕ) (ns : List ℕ) (axes : List Axis) (k : ℕ) → k < length axes → IsToLead on (n ∷ ns) k (axis_among axes k) →
    IsToLead on ns k (axis_among (slice_set axes n (axis_led on (axis_among axes n))) k)
    × (axis_led on (axis_among (slice_set axes n (axis_led on (axis_among axes n))) k) ≡ axis_led on (axis_among axes k))
led_more on n ns axes k l h = elim (cases_eq k n) [
  | inl e ↦
      let set : axis_among (slice_set axes n (axis_led on (axis_among axes n))) k ≡ axis_led on (axis_among axes k) =
      rw (← e) (get_or-set_same axes k (axis_led on (axis_among axes k)) no_axis l) in
      let twice = led_twice on (axis_among axes k) in
      (rw set (same twice), ap (axis_led on) set ∙ twice)
  | inr d ↦
      let set : axis_among (slice_set axes n (axis_led on (axis_among axes n))) k ≡ axis_among axes k =
      get_or-set_other axes n k (axis_led on (axis_among axes n)) no_axis d in
      (rw set (to_lead_behind on n ns k (axis_among axes k) d h), ap (axis_led on) set)
]

pub led : (on : Bool) (ns : List ℕ) (axes : List Axis) (k : ℕ) → k < length axes → IsToLead on ns k (axis_among axes k) →
    axis_among (axes_after on ns axes) k ≡ axis_led on (axis_among axes k)
led on [] axes k l (member place b e) = absurd (omega arith)
led on [] axes k l (same e) = sym e
led on (n ∷ ns) axes k l h =
    let more = led_more on n ns axes k l h in
    let size = length-set axes n (axis_led on (axis_among axes n)) in
    led on ns (slice_set axes n (axis_led on (axis_among axes n))) k (omega arith) more.0 ∙ more.1

pub led_member : (on : Bool) (ns : List ℕ) (axes : List Axis) (place k : ℕ) → k < length axes → place < length ns → member_at ns place ≡ k →
    axis_among (axes_after on ns axes) k ≡ axis_led on (axis_among axes k)
led_member on ns axes place k l b e = led on ns axes k l (member place b e)
