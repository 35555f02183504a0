-- A machine is kept at opening.
-- for: owners_have_blocks, machines_stay_kept
use Rattle.std.specs.Prelude.{◌≡◌, refl, ℕ, zero, suc, ◌+◌, ◌<◌, Bool, true, false, Option, Some, None, [], length, map, replicate, slice_index_or}
use Rattle.std.proofs.Common.{arith, ap, sym, subst, ◌∙◌}
use Rattle.std.proofs.lemmas.List.{get_or-map, length-map, length-replicate}
use Rattle.std.proofs.lemmas.List.Elements.{All-get_or}
use Rattle.axis_core.specs.AxisKept as axis
use Rattle.axis_core.specs.AxisKept.{IsAxisDef}
use Rattle.axis_core.specs.Cores as cores
use Rattle.axis_core.specs.Cycles.{axis_at_opening}
use Rattle.axis_core.specs.blocks.Path.{is_on_path}
use Rattle.plc_types.specs.declared.axis.AxisDef.{AxisDef}
use Rattle.command_pool.specs.Waiting.{queue_of}
use Rattle.group_core.specs.Cores as group_cores
use Rattle.group_core.specs.Cycles.{opening}
use Rattle.group_core.specs.GroupKept as group
use Rattle.group_core.specs.GroupKept.{AreGroupLimits, IsCount}
use Rattle.linear_path.specs.Path.{limits_at}
use Rattle.motion_history.specs.AxisRanges.{AreAxisRanges}
use Rattle.motion_history.specs.Members.{IsGroup, members_of}
use Rattle.motion_history.specs.Setup.{Setup, IsSetup}
use Rattle.motion_history.specs.declared.config.GroupDef.{GroupDef}
use Rattle.motion_kernel.specs.Machine.{Machine, PlacedGroup, axis_core_at, group_at, group_at_opening, group_core_at, instance_at_opening_of, list_of, machine_at_opening, no_axis, no_group}
use Rattle.motion_kernel.specs.kept.Machine.{AreWhole, IsAxisKept, IsGroupKept, IsMachineKept, IsPlaced, IsSized, limits_of, no_def}
use Rattle.motion_kernel.specs.members.Members.{member_at, members_at, members_in, membership_of}
use Rattle.motion_kernel.specs.declared.memberships.Membership.{Membership}
use Rattle.motion_kernel.proofs.kept.AxisCalls.{member_off}
use Rattle.motion_kernel.proofs.kept.Laws.{AxesStayKept, ConfigurationsAreSound, GroupsStayKept}
use Rattle.motion_kernel.proofs.Lists.{get_is}
use Rattle.motion_kernel.proofs.members.Places.{membership_is}
use Rattle.motion_kernel.proofs.kept.Ready.{member_there}
use Rattle.motion_kernel.proofs.members.Members.{each_of}

-- nothing waits at first
pub none_waits : (n i : ℕ) → queue_of (replicate n []) i ≡ []
none_waits zero i = refl
none_waits (suc n) zero = refl
none_waits (suc n) (suc i) = none_waits n i

opened_size : (s : Setup) → IsSetup s → IsSized s (machine_at_opening s)
opened_size s setup = record {
  setup = setup;
  axes = length-map s.axes axis_at_opening;
  groups = length-map s.groups group_at_opening;
  queues = length-replicate (length s.axes + length s.groups) [];
  instances = length-map s.blocks (instance_at_opening_of s.axes);
}

-- an axis within its ranges may be opened
may_open : (d : AxisDef) → AreAxisRanges d → IsAxisDef d
may_open d r = record {
  limits = r.limits;
  top = r.top;
  least = r.least;
  most = r.most;
  counts = r.counts;
  start = record { above = r.above; below = r.below };
}

-- it is on no path
starts_off : (d : AxisDef) (ready : Bool) → d.ready ≡ ready → is_on_path (axis_at_opening d) ≡ false
unfolding axis_at_opening
starts_off d true e = rw e refl
starts_off d false e = rw e refl

limits_stay : (d : AxisDef) → (axis_at_opening d).limits ≡ d.limits
unfolding axis_at_opening
limits_stay d = refl

opened_core : (s : Setup) (n : ℕ) → n < length s.axes →
    axis_core_at (machine_at_opening s) n ≡ record { axis = axis_at_opening (slice_index_or s.axes n no_def); waiting = []; notes = [] }
opened_core s n l =
    let a = get_or-map axis_at_opening s.axes n no_def no_axis l in
    let w = none_waits (length s.axes + length s.groups) n in
    λ i. record { axis = a i; waiting = w i; notes = [] }

opened_group : (s : Setup) (j : ℕ) (d : GroupDef) → j < length s.groups → slice_index_or s.groups j d ≡ d →
    group_core_at (machine_at_opening s) j ≡ opening d.count
opened_group s j d l e =
    let g = get_or-map group_at_opening s.groups j d no_group l ∙ ap group_at_opening e in
    let w = none_waits (length s.axes + length s.groups) (list_of (machine_at_opening s) j) in
    λ i. record { group = (g i).group; path = (g i).path; waiting = w i; notes = [] }

placed_off : (o : Option Membership) (m : Machine) (c : cores.Core) → is_on_path c.axis ≡ false →
    ((at : Membership) → o ≡ Some at → group.is_within (group_at m at.group).group.state ≡ false) → IsPlaced o m c
placed_off None m c off out = off
placed_off (Some at) m c off out = member_off (group_at m at.group) at.place c off (out at refl)

-- a group's limits are in their ranges
ranges_at : ConfigurationsAreSound → (s : Setup) (n : ℕ) → IsSetup s → n < length s.axes → AreAxisRanges (slice_index_or s.axes n no_def)
ranges_at sound s n setup l = All-get_or AreAxisRanges s.axes n no_def l (sound s setup).axes

group_limits : ConfigurationsAreSound → (s : Setup) (j axes : ℕ) → IsSetup s → j < length s.groups → axes ≡ length (members_at s j) →
    AreGroupLimits axes (map (limits_of s) (members_at s j))
group_limits sound s j axes setup l e =
    let ms = members_at s j in
    let at : (i : ℕ) → i < axes → limits_at (map (limits_of s) ms) i ≡ limits_of s (member_at ms i) =
    λ i b. get_or-map (limits_of s) ms i 0 _ (omega arith) in
    let ranges : (i : ℕ) → i < axes → AreAxisRanges (slice_index_or s.axes (member_at ms i) no_def) =
    λ i b. ranges_at sound s (member_at ms i) setup (member_there s j i setup l (omega arith)) in
    record {
      each = record {
        one_each = length-map ms (limits_of s) ∙ sym e;
        each = λ i b. let r = ranges i b in let is = at i b in rw is (record { ranges = r.limits; gains = r.speeds_up });
      };
      top = λ i b. let r = ranges i b in let is = at i b in rw is r.top;
    }

-- the laws on which the opening rests
pub record OpeningLaws : Type 0 where
  pub sound : ConfigurationsAreSound
  pub axes : AxesStayKept
  pub groups : GroupsStayKept

opened_axis_kept : OpeningLaws → (s : Setup) (n : ℕ) → IsSetup s → n < length s.axes → IsAxisKept s (machine_at_opening s) n
opened_axis_kept laws s n setup l =
    let m = machine_at_opening s in
    let d = slice_index_or s.axes n no_def in
    let is = opened_core s n l in
    let c : cores.Core = record { axis = axis_at_opening d; waiting = []; notes = [] } in
    let out : (at : Membership) → membership_of s n ≡ Some at → group.is_within (group_at m at.group).group.state ≡ false =
    λ at e.
    let found = membership_is s n at e in
    let g : GroupDef = record { name = []; count = 0; axes = [] } in
    ap (λ (p : PlacedGroup). group.is_within p.group.state) (get_or-map group_at_opening s.groups at.group g no_group found.group) in
    record {
      core = subst axis.IsCoreKept (sym is) (laws.axes.opened d (may_open d (ranges_at laws.sound s n setup l)));
      limits = ap (λ (x : cores.Core). x.axis.limits) is ∙ limits_stay d;
      placed = subst (λ (x : cores.Core). IsPlaced (membership_of s n) m x) (sym is)
          (placed_off (membership_of s n) m c (starts_off d d.ready refl) out);
    }

opened_group_kept : OpeningLaws → (s : Setup) (j : ℕ) (d : GroupDef) → IsSetup s → AreWhole s → j < length s.groups → slice_index_or s.groups j d ≡ d →
    IsGroupKept s (machine_at_opening s) j
opened_group_kept laws s j d setup whole l e =
    let m = machine_at_opening s in
    let is = opened_group s j d l e in
    let ms : members_at s j ≡ members_of d = ap members_in (get_is s.groups j d l) ∙ ap members_of e in
    let one : IsGroup (length s.axes) d = rw (← e) (each_of (IsGroup (length s.axes)) s.groups j d setup.within.groups l) in
    let size : length (members_of d) ≡ d.count = rw (← e) (each_of (λ (g : GroupDef). length (members_of g) ≡ g.count) s.groups j d whole l) in
    let count : d.count ≡ length (members_at s j) = sym size ∙ ap length (sym ms) in
    let few = one.few in
    let axes : IsCount d.count = record { least = one.some; most = omega arith } in
    record {
      core = subst (group.IsCoreKept (map (limits_of s) (members_at s j))) (sym is)
          (laws.groups.opened d.count (map (limits_of s) (members_at s j)) axes (group_limits laws.sound s j d.count setup l count));
      count = ap (λ (x : group_cores.Core). x.group.axes) is ∙ count;
    }

-- the machine is kept at opening
pub opening_kept : OpeningLaws → (s : Setup) → IsSetup s → AreWhole s → IsMachineKept s (machine_at_opening s)
opening_kept laws s setup whole =
    let size = opened_size s setup in
    let axes = size.axes in
    let groups = size.groups in
    record {
      sized = size;
      axes = λ n l. opened_axis_kept laws s n setup (omega arith);
      groups = λ j l.
          let k : j < length s.groups = omega arith in
          let D : GroupDef = record { name = []; count = 0; axes = [] } in
          let d = slice_index_or s.groups j D in
          let there : Some d ≡ Some (slice_index_or s.groups j d) = sym (get_is s.groups j D k) ∙ get_is s.groups j d k in
          opened_group_kept laws s j d setup whole k (let e : slice_index_or s.groups j d ≡ d = cc in e);
    }
