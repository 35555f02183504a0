-- What a kept machine gives to the parts of it that are called and cycled.
-- for: rows_are_counted, owners_have_blocks, machines_stay_kept and others
use Rattle.std.specs.Prelude.{◌≡◌, ℕ, ◌<◌, ◌≤◌, ℤ, Bool, true, false, Some, is_some, [], length, map, slice_index_or, if◌then◌else◌}
use Rattle.std.proofs.Common.{arith, ap, sym, subst, ◌∙◌}
use Rattle.std.proofs.lemmas.List.{get_or-map}
use Rattle.axis_core.specs.AxisKept as axis
use Rattle.axis_core.specs.AxisKept.{IsInState, IsSet}
use Rattle.axis_core.specs.Cores.{Core}
use Rattle.axis_core.specs.blocks.Power.{is_powered}
use Rattle.axis_core.specs.declared.axis.Axis.{Axis}
use Rattle.plc_types.specs.declared.axis_state.AxisState.{AxisState}
use Rattle.plc_types.specs.declared.axis_state.AxisState.TheVariants.{Standstill, SynchronizedMotion}
use Rattle.group_core.specs.GroupKept.{IsWithin, is_within}
use Rattle.group_core.specs.Refusals.{limits_in, states_in}
use Rattle.kin_core.specs.Admissible.{IsKept}
use Rattle.plc_types.specs.declared.limits.Limits.{Limits}
use Rattle.linear_path.specs.Line.{coordinate_of}
use Rattle.linear_path.specs.Path.{limits_at}
use Rattle.motion_history.specs.Members.{IsGroup, members_of}
use Rattle.motion_history.specs.Setup.{Setup, IsSetup}
use Rattle.motion_history.specs.declared.config.GroupDef.{GroupDef}
use Rattle.motion_kernel.specs.looks.GroupLooks.{group_look}
use Rattle.motion_kernel.specs.Machine.{Machine, PlacedGroup, axis_at, axis_core_at, group_at}
use Rattle.motion_kernel.specs.kept.Machine.{IsLed, IsMachineKept, IsMember, IsPlaced, limits_of}
use Rattle.motion_kernel.specs.members.Members.{member_at, members_at, members_in, membership_of}
use Rattle.motion_kernel.specs.kept.Ready.{MayLook}
use Rattle.motion_kernel.proofs.looks.Shown.{group_shown}
use Rattle.motion_kernel.proofs.members.Places.{member_found}
use Rattle.motion_kernel.proofs.Lists.{get_is, map_same}
use Rattle.motion_kernel.proofs.members.Members.{each_of}

abbrev no_def : GroupDef
no_def = record { name = []; count = 0; axes = [] }

-- an axis of a group is there
pub member_there : (s : Setup) (j place : ℕ) → IsSetup s → j < length s.groups → place < length (members_at s j) →
    member_at (members_at s j) place < length s.axes
member_there s j place h l k =
    let d = slice_index_or s.groups j no_def in
    let is : members_at s j ≡ members_of d = ap members_in (get_is s.groups j no_def l) in
    let g = each_of (IsGroup (length s.axes)) s.groups j no_def h.within.groups l in
    rw is (each_of (λ n. n < length s.axes) (members_of d) place 0 g.there (rw is at k))

-- an axis of a group of a kept machine
pub record IsMemberKept (s : Setup) (m : Machine) (j place n : ℕ) : Type 0 where
  pub there : n < length m.axes
  pub found : membership_of s n ≡ Some (record { group = j; place = place })
  pub kept : axis.IsCoreKept (axis_core_at m n)
  pub limits : (axis_at m n).limits ≡ limits_of s n
  pub placed : IsMember (group_at m j) place (axis_core_at m n)

pub member_kept : (s : Setup) (m : Machine) (j place : ℕ) → IsMachineKept s m → j < length m.groups → place < length (members_at s j) →
    IsMemberKept s m j place (member_at (members_at s j) place)
member_kept s m j place h l k =
    let n = member_at (members_at s j) place in
    let groups = h.sized.groups in
    let axes = h.sized.axes in
    let is = member_there s j place h.sized.setup (omega arith) k in
    let there : n < length m.axes = omega arith in
    let found = member_found s j place h.sized.setup (omega arith) k in
    let a = h.axes n there in
    record {
      there = there;
      found = found;
      kept = a.core;
      limits = a.limits;
      placed = subst (λ o. IsPlaced o m (axis_core_at m n)) found a.placed;
    }

-- an axis that its group leads is driven
led_runs : (on : Bool) (a : Axis) → a.state ≡ (if on then SynchronizedMotion else Standstill) →
    IsInState a.state a.driven (is_powered a) a.was_off a.previous a.setpoint a.active → a.driven ≡ true
led_runs true a e h =
    let here = subst (λ (s : AxisState). IsInState s a.driven (is_powered a) a.was_off a.previous a.setpoint a.active) e h in
    here.on
led_runs false a e h =
    let here = subst (λ (s : AxisState). IsInState s a.driven (is_powered a) a.was_off a.previous a.setpoint a.active) e h in
    here.running.on

pub driven_kept : (d : Bool) (l : Limits) (before now : ℤ) → d ≡ true → IsSet d l before now → IsKept l before now
driven_kept true l before now e h = h
driven_kept false l before now e h = absurd (cc)

-- and so can be stopped within its limits
pub led_kept : (g : PlacedGroup) (c : Core) → axis.IsCoreKept c → IsLed g c → IsKept c.axis.limits c.axis.previous c.axis.setpoint
led_kept g c h led =
    driven_kept c.axis.driven c.axis.limits c.axis.previous c.axis.setpoint (led_runs (is_some g.path) c.axis led.state h.axis.state) h.axis.base.set

-- the limits of a group's axes
pub limits_shown : (s : Setup) (m : Machine) (j error : ℕ) → IsMachineKept s m → j < length m.groups → length (members_at s j) ≤ 6 →
    limits_in (group_look s m j error) ≡ map (limits_of s) (members_at s j)
limits_shown s m j error h l few =
    (group_shown s m j error few).limits
    ∙ map_same (λ k. (axis_at m k).limits) (limits_of s) (members_at s j) 0 (λ i k. (member_kept s m j i h l k).limits)

pub states_shown : (s : Setup) (m : Machine) (j error : ℕ) → length (members_at s j) ≤ 6 →
    states_in (group_look s m j error) ≡ map (λ k. (axis_at m k).state) (members_at s j)
states_shown s m j error few = (group_shown s m j error few).states

-- a group has at most six axes
pub few_members : (s : Setup) (m : Machine) (j : ℕ) → IsMachineKept s m → j < length m.groups → length (members_at s j) ≤ 6
few_members s m j h l = let g = h.groups j l in let most = g.core.axes.most in let count = g.count in omega arith

member_within : (s : Setup) (m : Machine) (j i : ℕ) → IsMachineKept s m → (l : j < length m.groups) → (k : i < length (members_at s j)) →
    is_within (group_at m j).group.state ≡ true →
    IsWithin (limits_of s (member_at (members_at s j) i)) (axis_at m (member_at (members_at s j) i)).setpoint
member_within s m j i h l k within =
    let n = member_at (members_at s j) i in
    let a = member_kept s m j i h l k in
    let kept = led_kept (group_at m j) (axis_core_at m n) a.kept (a.placed.led within) in
    subst (λ (limits : Limits). IsWithin limits (axis_at m n).setpoint) a.limits (record { above = kept.above; below = kept.below })

-- a group of a kept machine may be asked a command, or take its step
pub may_look : (s : Setup) (m : Machine) (j error : ℕ) → IsMachineKept s m → j < length m.groups → MayLook s m j error
may_look s m j error h l =
    let few = few_members s m j h l in
    let shown = group_shown s m j error few in
    let limits = limits_shown s m j error h l few in
    let g = h.groups j l in
    let count = g.count in
    let setpoint : (i : ℕ) → i < length (members_at s j) → is_within (group_at m j).group.state ≡ true →
    IsWithin (limits_at (map (limits_of s) (members_at s j)) i) (coordinate_of (group_look s m j error).setpoints i) =
    λ i k within. rw (get_or-map (limits_of s) (members_at s j) i 0 _ k, shown.setpoints i k) (member_within s m j i h l k within) in
    record {
      look = record {
        count = shown.count ∙ sym g.count;
        six = shown.six;
        setpoints = λ within. record {
          within = λ i k. rw limits (setpoint i (omega arith) within);
          others = λ i k. shown.others i (omega arith);
        };
      };
      kept = rw limits g.core;
    }
