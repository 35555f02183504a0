-- A machine stays kept by a Power, where an owner is taken away, and by a command that is asked of
-- an axis.
-- for: owners_have_blocks, machines_stay_kept, call and others
use Rattle.std.specs.Prelude.{◌≡◌, refl, ℕ, ◌+◌, ◌<◌, Bool, true, false, not, ◌&&◌, Option, Some, None, is_some, length, map, slice_set}
use Rattle.std.proofs.Common.{arith, ap, sym, subst, ◌∙◌, inl, inr}
use Rattle.std.proofs.lemmas.Bool.{cases_Bool}
use Rattle.std.proofs.lemmas.List.{length-set}
use Rattle.axis_core.specs.Calls.{core_after_command, core_after_power}
use Rattle.axis_core.specs.Cores as cores
use Rattle.axis_core.specs.Demands as demands
use Rattle.axis_core.specs.Refusals.{Asked}
use Rattle.axis_state.specs.States.{is_error_stop, is_synchronized}
use Rattle.axis_core.specs.blocks.Path.{is_on_path}
use Rattle.axis_core.specs.declared.axis.Axis.{Axis}
use Rattle.plc_types.specs.declared.axis_state.AxisState.{AxisState}
use Rattle.plc_types.specs.declared.axis_state.AxisState.TheVariants as state
use Rattle.plc_types.specs.declared.kind.BlockKind.{BlockKind}
use Rattle.command_pool.specs.declared.wanted.Wanted.{Wanted}
use Rattle.plc_types.specs.declared.inputs.Inputs.{Inputs}
use Rattle.group_core.specs.Calls.{powered_off}
use Rattle.group_core.specs.GroupKept as group
use Rattle.group_core.specs.GroupKept.{is_within}
use Rattle.group_core.specs.Tracks.{OnPath}
use Rattle.plc_types.specs.declared.group.GroupState.{GroupState}
use Rattle.plc_types.specs.declared.group.GroupState.TheVariants as group_state
use Rattle.motion_history.specs.Setup.{Setup}
use Rattle.motion_kernel.specs.calls.Asking.{wanted_of}
use Rattle.motion_kernel.specs.calls.Calls.{after_axis_command, after_power, asked_of_axis, group_without_power, holds_axes, is_held_by_group, with_axis_core, with_group_core}
use Rattle.motion_kernel.specs.Machine.{Machine, PlacedGroup, axis_core_at, group_at, group_core_at, list_of}
use Rattle.motion_kernel.specs.kept.Machine.{IsMachineKept, IsMember, IsPlaced, limits_of}
use Rattle.motion_kernel.specs.members.Members.{members_at, membership_of}
use Rattle.motion_kernel.specs.calls.Telling.{told_notes}
use Rattle.motion_kernel.specs.declared.memberships.Membership.{Membership}
use Rattle.motion_kernel.proofs.kept.Events.{axis_event_kept, group_beside_axis, group_changed, group_event_kept, instance_kept, instances_kept}
use Rattle.motion_kernel.proofs.Sizes.{told_length}
use Rattle.motion_kernel.proofs.kept.Laws.{AxesKeepDefinitions, AxesStayKept, AxesStayLed, GroupsComeAlive, GroupsKeepAxes, GroupsStayKept, HeldTakeNoCommand, MembersKeepLimits}
use Rattle.motion_kernel.proofs.Lists.{sets_swap}
use Rattle.motion_kernel.proofs.members.Places.{membership_is}
use Rattle.motion_kernel.proofs.kept.Ready.{member_kept}

-- axes that are alike in what their group knows of them
pub record AreAlike (c d : cores.Core) : Type 0 where
  pub active : d.axis.active ≡ c.axis.active
  pub state : d.axis.state ≡ c.axis.state
  pub previous : d.axis.previous ≡ c.axis.previous
  pub setpoint : d.axis.setpoint ≡ c.axis.setpoint
  pub waiting : d.waiting ≡ c.waiting

pub path_alike : (c d : cores.Core) → AreAlike c d → is_on_path d.axis ≡ is_on_path c.axis
path_alike c d h = λ i. is_synchronized (h.state i) && not (is_some (h.active i))

pub member_alike : (g : PlacedGroup) (place : ℕ) (c d : cores.Core) → AreAlike c d → IsMember g place c → IsMember g place d
member_alike g place c d h m = record {
  on = λ e.
      let o = m.on (sym (path_alike c d h) ∙ e) in
      let s = o.stands in
      record { path = o.path; on = o.on; stands = record { before_is = h.previous ∙ s.before_is; now_is = h.setpoint ∙ s.now_is } };
  led = λ e. let l = m.led e in record { idle = h.active ∙ l.idle; alone = h.waiting ∙ l.alone; state = h.state ∙ l.state };
}

pub placed_alike : (o : Option Membership) (m : Machine) (c d : cores.Core) → AreAlike c d → IsPlaced o m c → IsPlaced o m d
placed_alike None m c d h p = path_alike c d h ∙ p
placed_alike (Some at) m c d h p = member_alike (group_at m at.group) at.place c d h p

-- an axis that is on no path, of a group whose axes stand within no limits
pub member_off : (g : PlacedGroup) (place : ℕ) (c : cores.Core) → is_on_path c.axis ≡ false → is_within g.group.state ≡ false → IsMember g place c
member_off g place c off out = record { on = λ e. absurd (cc); led = λ e. absurd (cc) }

-- no path by no path
pub stays_off : (a b : Axis) → (is_on_path b ≡ true → is_on_path a ≡ true) → is_on_path a ≡ false → is_on_path b ≡ false
stays_off a b h off = elim (cases_Bool (is_on_path b)) [
  | inl on ↦ absurd (let x = h on in cc)
  | inr e ↦ e
]

-- a group that holds no axes is disabled, and on no path
free_group : (s : GroupState) (p : Option OnPath) (active : Option Wanted) → holds_axes s ≡ false → group.IsInState s p active → p ≡ None
free_group group_state.GroupDisabled p active e h = h.off
free_group group_state.GroupStandby p active e h = absurd (cc)
free_group group_state.GroupMoving p active e h = absurd (cc)
free_group group_state.GroupHoming p active e h = absurd (cc)
free_group group_state.GroupStopping p active e h = absurd (cc)
free_group group_state.GroupErrorStop p active e h = absurd (cc)

free_state : (s : GroupState) → holds_axes s ≡ false → is_within s ≡ false
free_state group_state.GroupDisabled e = refl
free_state group_state.GroupStandby e = absurd (cc)
free_state group_state.GroupMoving e = absurd (cc)
free_state group_state.GroupHoming e = absurd (cc)
free_state group_state.GroupStopping e = absurd (cc)
free_state group_state.GroupErrorStop e = absurd (cc)

-- an axis of a group that is on no path is on none
no_path : (g : PlacedGroup) (place : ℕ) (c : cores.Core) → g.path ≡ None → IsMember g place c → is_on_path c.axis ≡ false
no_path g place c off m = elim (cases_Bool (is_on_path c.axis)) [
  | inl on ↦ absurd (let o = m.on on in let p = o.on in cc)
  | inr e ↦ e
]

-- a command on an axis: its group holds it, and it takes none; or its group is disabled
commanded_placed : HeldTakeNoCommand → AxesStayLed → (o : Option Membership) (m : Machine) (q : Asked) (c : cores.Core) →
    q.held ≡ is_held_by_group o m → demands.IsMade q.wanted →
    ((at : Membership) → o ≡ Some at → group.IsInState (group_at m at.group).group.state (group_at m at.group).path (group_at m at.group).group.active) →
    IsPlaced o m c → IsPlaced o m (core_after_command q c)
commanded_placed held_law led_law None m q c held made states h = stays_off c.axis (core_after_command q c).axis (led_law.command q c).path h
commanded_placed held_law led_law (Some at) m q c held made states h =
    let g = group_at m at.group in
    let d = core_after_command q c in
    elim (cases_Bool (holds_axes g.group.state)) [
      | inl on ↦
          let alone = held_law q c made (held ∙ on) in
          let a = alone.axis in
          member_alike g at.place c d (record {
            active = ap (λ (x : Axis). x.active) a;
            state = ap (λ (x : Axis). x.state) a;
            previous = ap (λ (x : Axis). x.previous) a;
            setpoint = ap (λ (x : Axis). x.setpoint) a;
            waiting = alone.waiting;
          }) h
      | inr free ↦
          let off = no_path g at.place c (free_group g.group.state g.path g.group.active free (states at refl)) h in
          member_off g at.place d (stays_off c.axis d.axis (led_law.command q c).path off) (free_state g.group.state free)
    ]

-- the state of the group of an axis
group_state_of : (s : Setup) (m : Machine) (n : ℕ) → IsMachineKept s m → (at : Membership) → membership_of s n ≡ Some at →
    group.IsInState (group_at m at.group).group.state (group_at m at.group).path (group_at m at.group).group.active
group_state_of s m n h at e =
    let found = membership_is s n at e in
    let there = found.group in
    let groups = h.sized.groups in
    (h.groups at.group (omega arith)).core.state

-- a machine is kept after a command is asked of an axis
pub axis_command_kept : AxesStayKept → AxesKeepDefinitions → HeldTakeNoCommand → AxesStayLed →
    (s : Setup) (k n : ℕ) (kind : BlockKind) (i : Inputs) (m : Machine) → IsMachineKept s m → n < length m.axes →
    demands.IsMade (wanted_of k kind i) → IsMachineKept s (after_axis_command s k n kind i m)
unfolding after_axis_command
axis_command_kept kept_law definition_law held_law led_law s k n kind i m h l made =
    let c = axis_core_at m n in
    let q = asked_of_axis s k n kind i m in
    let a = h.axes n l in
    let d = core_after_command q c in
    let after = with_axis_core m n d in
    let one = axis_event_kept s m n d h l
    (kept_law.command c n (wanted_of k kind i) i.jerk (is_held_by_group (membership_of s n) m) (length s.tables) a.core made)
    ((definition_law.command q c).limits ∙ a.limits)
    (commanded_placed held_law led_law (membership_of s n) m q c refl made (group_state_of s m n h) a.placed) in
    instance_kept s after k _ one

-- after a Power with Enable true the axis is alike, and with Enable false it is on no path
power_alike : (c : cores.Core) → AreAlike c (core_after_power true c)
unfolding core_after_power
power_alike c = record { active = refl; state = refl; previous = refl; setpoint = refl; waiting = refl }

stopped_state : (s : AxisState) → is_error_stop s ≡ true → is_synchronized s ≡ false
stopped_state state.ErrorStop e = refl
stopped_state state.Disabled e = refl
stopped_state state.Standstill e = refl
stopped_state state.DiscreteMotion e = refl
stopped_state state.ContinuousMotion e = refl
stopped_state state.SynchronizedMotion e = absurd (cc)
stopped_state state.Stopping e = refl
stopped_state state.Homing e = refl

off_path : (c : cores.Core) → is_on_path (core_after_power false c).axis ≡ false
unfolding core_after_power
off_path c = elim (cases_Bool (is_error_stop c.axis.state)) [
  | inl e ↦ let s = stopped_state c.axis.state e in rw (e, s) refl
  | inr e ↦ rw e refl
]

-- the laws on which a Power rests
pub record PowerLaws : Type 0 where
  pub kept : AxesStayKept
  pub definitions : AxesKeepDefinitions
  pub groups : GroupsStayKept
  pub counts : GroupsKeepAxes
  pub alive : GroupsComeAlive
  pub members : MembersKeepLimits

power_on_kept : PowerLaws → (s : Setup) (n : ℕ) (m : Machine) → IsMachineKept s m → n < length m.axes →
    IsMachineKept s (with_axis_core m n (core_after_power true (axis_core_at m n)))
power_on_kept laws s n m h l =
    let c = axis_core_at m n in
    let a = h.axes n l in
    axis_event_kept s m n (core_after_power true c) h l (laws.kept.power true c a.core) ((laws.definitions.power true c).limits ∙ a.limits)
    (placed_alike (membership_of s n) m c (core_after_power true c) (power_alike c) a.placed)

-- the group of an axis whose power goes off
group_off_kept : PowerLaws → (s : Setup) (j : ℕ) (m : Machine) → IsMachineKept s m → j < length m.groups →
    IsMachineKept s (with_group_core m j (powered_off (group_core_at m j)))
group_off_kept laws s j m h l =
    let c = group_core_at m j in
    let d = powered_off c in
    let g = h.groups j l in
    let limits = map (limits_of s) (members_at s j) in
    let out = laws.alive.power_off limits c g.core in
    group_event_kept s m j d h l (laws.groups.power_off limits c g.core) (laws.counts.power_off c)
    (λ place b. record {
      on = λ e.
          let o = (member_kept s m j place h l b).placed.on e in
          record { path = o.path; on = laws.members.power_off c ∙ o.on; stands = o.stands };
      led = λ e. absurd (cc);
    })

-- a Power of an axis of no group, or of one
power_off_kept : PowerLaws → (s : Setup) (n : ℕ) (m : Machine) (o : Option Membership) → IsMachineKept s m → n < length m.axes → membership_of s n ≡ o →
    IsMachineKept s (group_without_power o (with_axis_core m n (core_after_power false (axis_core_at m n))))
power_off_kept laws s n m None h l e =
    let c = axis_core_at m n in
    let a = h.axes n l in
    let off = off_path c in
    axis_event_kept s m n (core_after_power false c) h l (laws.kept.power false c a.core) ((laws.definitions.power false c).limits ∙ a.limits)
    (subst (λ o. IsPlaced o m (core_after_power false c)) (sym e) off)
power_off_kept laws s n m (Some at) h l e =
    let j = at.group in
    let sizes = h.sized in
    let axes = sizes.axes in
    let groups = sizes.groups in
    let found = membership_is s n at e in
    let there = found.group in
    let k : j < length m.groups = omega arith in
    let c = axis_core_at m n in
    let a = h.axes n l in
    let d = core_after_power false c in
    let g = group_core_at m j in
    let p = powered_off g in
    let powered = with_axis_core m n d in
    let last = powered_off (group_core_at powered j) in
    let same : last ≡ p = ap powered_off (group_beside_axis m n j d l) in
    let m1 = with_group_core m j p in
    let one = group_off_kept laws s j m h k in
    let out : is_within (group_at m1 j).group.state ≡ false =
    ap (λ (x : PlacedGroup). is_within x.group.state) (group_changed m j p k)
    ∙ laws.alive.power_off (map (limits_of s) (members_at s j)) g (h.groups j k).core in
    let m2 = with_axis_core m1 n d in
    let two = axis_event_kept s m1 n d one l (laws.kept.power false c a.core) ((laws.definitions.power false c).limits ∙ a.limits)
    (subst (λ o. IsPlaced o m1 d) (sym e) (member_off (group_at m1 j) at.place d (off_path c) out)) in
    let instances = told_notes last.notes (told_notes d.notes m.instances) in
    let count : length instances ≡ length m2.instances =
    told_length last.notes (told_notes d.notes m.instances) ∙ told_length d.notes m.instances
    ∙ sym (told_length p.notes m.instances) ∙ sym (told_length d.notes (told_notes p.notes m.instances)) in
    let list : list_of powered j ≡ list_of m j = ap (λ x. x + j) (length-set m.axes n d.axis) in
    let queues : slice_set (slice_set m.queues n d.waiting) (list_of powered j) last.waiting ≡ slice_set (slice_set m.queues (list_of m j) p.waiting) n d.waiting =
    (λ x. slice_set (slice_set m.queues n d.waiting) (list x) (same x).waiting) ∙ sets_swap m.queues n (list_of m j) d.waiting p.waiting (λ x. omega arith) in
    let final : record m2 { instances = instances } ≡ with_group_core powered j last = λ x. record {
      axes = slice_set m.axes n d.axis;
      groups = slice_set m.groups j (record { group = (sym same x).group; path = (sym same x).path });
      queues = sym queues x;
      instances = instances;
    } in
    subst (IsMachineKept s) final (instances_kept s m2 instances two count)

-- a machine is kept after a Power
pub power_kept : PowerLaws → (s : Setup) (n : ℕ) (enable : Bool) (m : Machine) → IsMachineKept s m → n < length m.axes → IsMachineKept s (after_power s n enable m)
unfolding after_power
power_kept laws s n true m h l = power_on_kept laws s n m h l
power_kept laws s n false m h l = power_off_kept laws s n m (membership_of s n) h l refl
