-- A machine stays kept where an owner is taken away.
-- for: owners_have_blocks, machines_stay_kept, call and others
use Rattle.std.specs.Prelude.{◌≡◌, refl, ℕ, ◌+◌, ◌<◌, not, ◌&&◌, Option, Some, None, is_some, [], length, map}
use Rattle.std.proofs.Common.{arith, ap, sym, subst, ◌∙◌}
use Rattle.std.proofs.lemmas.List.{get_or-map, length-map}
use Rattle.axis_core.specs.AxisKept as axis
use Rattle.buffer_modes.specs.Owners.{active_without}
use Rattle.axis_core.specs.Calls.{axis_without_owner}
use Rattle.axis_core.specs.Cores as cores
use Rattle.axis_core.specs.Owners.{core_without_owner}
use Rattle.axis_state.specs.States.{is_synchronized}
use Rattle.axis_core.specs.blocks.Path.{is_on_path}
use Rattle.axis_core.specs.declared.axis.Axis.{Axis}
use Rattle.command_pool.specs.Waiting.{detached, queue_of}
use Rattle.command_pool.specs.declared.wanted.Wanted.{Wanted}
use Rattle.group_core.specs.Calls.{disowned, group_without}
use Rattle.group_core.specs.Cores as group_cores
use Rattle.group_core.specs.GroupKept as group
use Rattle.group_core.specs.GroupKept.{is_within}
use Rattle.motion_history.specs.Setup.{Setup}
use Rattle.motion_kernel.specs.calls.Calls.{without_owner}
use Rattle.motion_kernel.specs.Machine.{Machine, PlacedGroup, axis_at, axis_core_at, group_at, group_core_at, list_of, no_axis, no_group}
use Rattle.motion_kernel.specs.kept.Machine.{IsMachineKept, IsMember, IsPlaced, limits_of}
use Rattle.motion_kernel.specs.members.Members.{members_at, membership_of}
use Rattle.motion_kernel.specs.declared.memberships.Membership.{Membership}
use Rattle.motion_kernel.proofs.kept.Events.{IsAsLarge, sized_as}
use Rattle.motion_kernel.proofs.kept.Laws.{AxesKeepDefinitions, AxesStayKept, GroupsKeepAxes, GroupsStayKept}
use Rattle.motion_kernel.proofs.members.Places.{membership_is}

-- a group with its path, whose commands an instance has no longer
abbrev pub placed_without : ℕ → PlacedGroup → PlacedGroup
placed_without k g = record g { group = group_without k g.group }

pub disowned_size : (k : ℕ) (m : Machine) → IsAsLarge m (without_owner k m)
unfolding without_owner
disowned_size k m = record {
  axes = length-map m.axes (axis_without_owner k);
  groups = length-map m.groups (placed_without k);
  queues = length-map m.queues (map (detached k));
  instances = refl;
}

axis_disowned : (k n : ℕ) (m : Machine) → n < length m.axes → n < length m.queues →
    axis_core_at (without_owner k m) n ≡ core_without_owner k (axis_core_at m n)
unfolding without_owner
axis_disowned k n m l q =
    let a = get_or-map (axis_without_owner k) m.axes n no_axis no_axis l in
    let w = get_or-map (map (detached k)) m.queues n [] [] q in
    λ i. record { axis = a i; waiting = w i; notes = [] }

group_there : (k j : ℕ) (m : Machine) → j < length m.groups → group_at (without_owner k m) j ≡ placed_without k (group_at m j)
unfolding without_owner
group_there k j m l = get_or-map (placed_without k) m.groups j no_group no_group l

pub group_disowned : (k j : ℕ) (m : Machine) → j < length m.groups → list_of m j < length m.queues →
    group_core_at (without_owner k m) j ≡ disowned k (group_core_at m j)
unfolding without_owner
group_disowned k j m l q =
    let g = group_there k j m l in
    let list : length (map (axis_without_owner k) m.axes) + j ≡ list_of m j = ap (λ n. n + j) (length-map m.axes (axis_without_owner k)) in
    let w : queue_of (map (map (detached k)) m.queues) (length (map (axis_without_owner k) m.axes) + j) ≡ map (detached k) (queue_of m.queues (list_of m j)) =
    ap (queue_of (map (map (detached k)) m.queues)) list ∙ get_or-map (map (detached k)) m.queues (list_of m j) [] [] q in
    λ i. record { group = (g i).group; path = (g i).path; waiting = w i; notes = [] }

-- an axis stays on its path
some_without : (k : ℕ) (active : Option Wanted) → is_some (active_without k active) ≡ is_some active
some_without k None = refl
some_without k (Some w) = refl

path_without : (k : ℕ) (a : Axis) → is_on_path (axis_without_owner k a) ≡ is_on_path a
unfolding axis_without_owner
path_without k a = ap (λ b. is_synchronized a.state && not b) (some_without k a.active)

member_without : (k : ℕ) (g : PlacedGroup) (place : ℕ) (c : cores.Core) → IsMember g place c → IsMember (placed_without k g) place (core_without_owner k c)
unfolding axis_without_owner group_without
member_without k g place c m = record {
  on = λ e.
      let o = m.on (sym (path_without k c.axis) ∙ e) in
      let s = o.stands in
      record { path = o.path; on = o.on; stands = record { before_is = s.before_is; now_is = s.now_is } };
  led = λ e.
      let l = m.led e in
      record { idle = ap (active_without k) l.idle; alone = ap (map (detached k)) l.alone; state = l.state };
}

placed_disowned : (k : ℕ) (o : Option Membership) (m : Machine) (c : cores.Core) → ((at : Membership) → o ≡ Some at → at.group < length m.groups) →
    IsPlaced o m c → IsPlaced o (without_owner k m) (core_without_owner k c)
placed_disowned k None m c l h = path_without k c.axis ∙ h
placed_disowned k (Some at) m c l h =
    subst (λ (g : PlacedGroup). IsMember g at.place (core_without_owner k c)) (sym (group_there k at.group m (l at refl)))
    (member_without k (group_at m at.group) at.place c h)

-- a machine is kept where an owner is taken away
pub disowned_kept : AxesStayKept → AxesKeepDefinitions → GroupsStayKept → GroupsKeepAxes → (s : Setup) (k : ℕ) (m : Machine) →
    IsMachineKept s m → IsMachineKept s (without_owner k m)
disowned_kept axes_law definitions groups_law counts s k m h =
    let size = disowned_size k m in
    let sizes = h.sized in
    let s1 = sizes.axes in
    let s2 = sizes.groups in
    let s3 = sizes.queues in
    let t1 = size.axes in
    let t2 = size.groups in
    let after = without_owner k m in
    record {
      sized = sized_as s m after h.sized size;
      axes = λ n b.
          let l : n < length m.axes = omega arith in
          let e = axis_disowned k n m l (omega arith) in
          let a = h.axes n l in
          let there : (at : Membership) → membership_of s n ≡ Some at → at.group < length m.groups =
          λ at x. let f = membership_is s n at x in let g = f.group in omega arith in
          record {
            core = subst axis.IsCoreKept (sym e) (axes_law.detach k (axis_core_at m n) a.core);
            limits = ap (λ (c : cores.Core). c.axis.limits) e ∙ (definitions.detach k (axis_at m n)).limits ∙ a.limits;
            placed = subst (λ (c : cores.Core). IsPlaced (membership_of s n) after c) (sym e)
                (placed_disowned k (membership_of s n) m (axis_core_at m n) there a.placed);
          };
      groups = λ j b.
          let l : j < length m.groups = omega arith in
          let e = group_disowned k j m l (omega arith) in
          let g = h.groups j l in
          let limits = map (limits_of s) (members_at s j) in
          record {
            core = subst (group.IsCoreKept limits) (sym e) (groups_law.detach k limits (group_core_at m j) g.core);
            count = ap (λ (c : group_cores.Core). c.group.axes) e ∙ counts.detach k (group_at m j).group ∙ g.count;
          };
    }
