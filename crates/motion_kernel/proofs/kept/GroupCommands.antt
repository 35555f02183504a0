-- What a command that is asked of a kept group makes of it.
-- for: machines_stay_kept, call, cycle and others
use Rattle.std.specs.Prelude.{◌≡◌, refl, ℕ, ◌<◌, ℤ, Bool, true, false, not, ◌&&◌, Option, Some, None, Result, Ok, List, length, map, if◌then◌else◌}
use Rattle.std.proofs.Common.{ap, subst}
use Rattle.command_pool.specs.declared.ending.Refusal.{Refusal}
use Rattle.plc_types.specs.declared.kind.BlockKind.{BlockKind}
use Rattle.plc_types.specs.declared.kind.BlockKind.TheVariants as kind
use Rattle.command_pool.specs.declared.wanted.Wanted.{Wanted}
use Rattle.group_core.specs.Calls.{admitted_by, answer_by, answer_of, asked_in, commanded, commanded_by, is_active_by, line_joined}
use Rattle.group_core.specs.Cores as group_cores
use Rattle.group_core.specs.GroupKept as group
use Rattle.group_core.specs.GroupKept.{is_within}
use Rattle.group_core.specs.Kinds.{event_of}
use Rattle.group_core.specs.Refusals.{refusal_of}
use Rattle.group_core.specs.declared.look.GroupLook.{GroupLook}
use Rattle.group_core.specs.declared.reason.Reason.{Reason}
use Rattle.axis_state.specs.GroupDiagram.{next_of}
use Rattle.plc_types.specs.declared.group.GroupState.{GroupState}
use Rattle.plc_types.specs.declared.group.GroupState.TheVariants.{GroupStandby}
use Rattle.plc_types.specs.declared.limits.Limits.{Limits}
use Rattle.motion_history.specs.Setup.{Setup}
use Rattle.motion_kernel.specs.looks.GroupLooks.{group_look}
use Rattle.motion_kernel.specs.Machine.{Machine, PlacedGroup, group_at, group_core_at}
use Rattle.motion_kernel.specs.kept.Machine.{IsMachineKept, limits_of}
use Rattle.motion_kernel.specs.members.Members.{members_at}
use Rattle.motion_kernel.proofs.kept.Laws.{AxesStayKept, GroupsComeAlive, GroupsKeepAxes, GroupsStayKept, MembersKeepLimits, PathsChange}
use Rattle.motion_kernel.proofs.kept.Ready.{few_members, limits_shown, may_look}

-- a command that becomes active leaves the group where its axes stand within their limits
begun_within : (k : BlockKind) → is_within (next_of (event_of k)) ≡ true
begun_within kind.GroupStop = refl
begun_within _ = refl

joined_within : (waits at_once : Bool) (x y z : group_cores.Core) → (not waits && at_once) ≡ true → is_within y.group.state ≡ true →
    is_within (if waits then x else (if at_once then y else z)).group.state ≡ true
joined_within true at_once x y z e h = absurd (cc)
joined_within false true x y z e h = h
joined_within false false x y z e h = absurd (cc)

line_within : (members : GroupLook) (w : Wanted) (c : group_cores.Core) → is_active_by kind.MoveLinearAbsolute w c ≡ true →
    is_within (line_joined members w c).group.state ≡ true
line_within members w c e = search (joined_within, begun_within)

active_within : (k : BlockKind) (members : GroupLook) (w : Wanted) (c : group_cores.Core) → is_active_by k w c ≡ true →
    is_within (admitted_by k members w c).group.state ≡ true
active_within kind.GroupStop members w c e = begun_within w.kind
active_within kind.GroupHalt members w c e = begun_within w.kind
active_within kind.MoveLinearAbsolute members w c e = line_within members w c e
active_within _ members w c e = absurd (cc)

answered_within : (r : Option Reason) (members : GroupLook) (w : Wanted) (c : group_cores.Core) → answer_by r w c ≡ Ok true →
    is_within (commanded_by r members w c).group.state ≡ true
answered_within None members w c e = active_within w.kind members w c (let x : is_active_by w.kind w c ≡ true = cc in x)
answered_within (Some r) members w c e = absurd (cc)

pub begins_within : (w : Wanted) (jerk : ℤ) (members : GroupLook) (c : group_cores.Core) → answer_of w jerk members c ≡ Ok true →
    is_within (commanded w jerk members c).group.state ≡ true
unfolding answer_of commanded
begins_within w jerk members c e = answered_within (refusal_of (asked_in c w jerk members)) members w c e

-- a GroupEnable brings a group to GroupStandby, or changes nothing
pub data IsEnabled (c d : group_cores.Core) : Type 0 where
  standby : d.group.state ≡ GroupStandby → IsEnabled c d
  untouched : d ≡ c → IsEnabled c d

enabled_by : (r : Option Reason) (members : GroupLook) (w : Wanted) (c : group_cores.Core) → w.kind ≡ kind.GroupEnable → IsEnabled c (commanded_by r members w c)
enabled_by None members w c e = standby (ap (λ k. (admitted_by k members w c).group.state) e)
enabled_by (Some r) members w c e = untouched refl

pub is_enabled : (w : Wanted) (jerk : ℤ) (members : GroupLook) (c : group_cores.Core) → w.kind ≡ kind.GroupEnable → IsEnabled c (commanded w jerk members c)
unfolding commanded
is_enabled w jerk members c e = enabled_by (refusal_of (asked_in c w jerk members)) members w c e

pub enabled_off : (c d : group_cores.Core) (limits : List Limits) → IsEnabled c d → group.IsCoreKept limits d →
    is_within c.group.state ≡ false → is_within d.group.state ≡ true → d.path ≡ None
enabled_off c d limits (standby e) kept out within =
    let here = subst (λ (s : GroupState). group.IsInState s d.path d.group.active) e kept.state in
    here.off
enabled_off c d limits (untouched e) kept out within = absurd (let x = ap (λ (g : group_cores.Core). is_within g.group.state) e in cc)

-- and is not active
enable_idle : (r : Option Reason) (w : Wanted) (c : group_cores.Core) → w.kind ≡ kind.GroupEnable → answer_by r w c ≡ Ok true → ⊥
enable_idle None w c e a = let x : is_active_by w.kind w c ≡ false = ap (λ k. is_active_by k w c) e in cc
enable_idle (Some r) w c e a = cc

pub enable_waits : (w : Wanted) (jerk : ℤ) (members : GroupLook) (c : group_cores.Core) → w.kind ≡ kind.GroupEnable → answer_of w jerk members c ≡ Ok true → ⊥
unfolding answer_of
enable_waits w jerk members c e a = enable_idle (refusal_of (asked_in c w jerk members)) w c e a

-- a GroupDisable that is not refused leaves no path
disabled_by : (r : Option Reason) (members : GroupLook) (w : Wanted) (c : group_cores.Core) → w.kind ≡ kind.GroupDisable → answer_by r w c ≡ Ok false →
    (is_within (commanded_by r members w c).group.state ≡ false) × ((commanded_by r members w c).path ≡ None)
disabled_by None members w c e a =
    (ap (λ k. is_within (admitted_by k members w c).group.state) e, ap (λ k. (admitted_by k members w c).path) e)
disabled_by (Some r) members w c e a = absurd (cc)

pub is_disabled : (w : Wanted) (jerk : ℤ) (members : GroupLook) (c : group_cores.Core) → w.kind ≡ kind.GroupDisable → answer_of w jerk members c ≡ Ok false →
    (is_within (commanded w jerk members c).group.state ≡ false) × ((commanded w jerk members c).path ≡ None)
unfolding answer_of commanded
is_disabled w jerk members c e a = disabled_by (refusal_of (asked_in c w jerk members)) members w c e a

-- the laws on which a command of a group rests
pub record CommandLaws : Type 0 where
  pub axes : AxesStayKept
  pub groups : GroupsStayKept
  pub counts : GroupsKeepAxes
  pub alive : GroupsComeAlive
  pub members : MembersKeepLimits
  pub paths : PathsChange

-- a group after a command
abbrev pub commanded_at : Setup → Machine → ℕ → Wanted → ℤ → group_cores.Core
commanded_at s m j w jerk = commanded w jerk (group_look s m j 0) (group_core_at m j)

abbrev pub answer_at : Setup → Machine → ℕ → Wanted → ℤ → Result Bool Refusal
answer_at s m j w jerk = answer_of w jerk (group_look s m j 0) (group_core_at m j)

abbrev pub after_command : group_cores.Core → PlacedGroup
after_command d = record { group = d.group; path = d.path }

pub command_group_kept : CommandLaws → (s : Setup) (m : Machine) (j : ℕ) (w : Wanted) (jerk : ℤ) → IsMachineKept s m → j < length m.groups →
    group.IsMade (group_at m j).group.axes w → group.IsCoreKept (map (limits_of s) (members_at s j)) (commanded_at s m j w jerk)
command_group_kept laws s m j w jerk h l made =
    let look = group_look s m j 0 in
    let may = may_look s m j 0 h l in
    let c = group_core_at m j in
    let limits = limits_shown s m j 0 h l (few_members s m j h l) in
    subst (λ x. group.IsCoreKept x (commanded_at s m j w jerk)) limits (laws.groups.command look w jerk c may.look made may.kept)
