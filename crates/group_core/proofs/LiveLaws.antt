-- When the axes of a group stand within their limits.
-- for: groups_come_alive_by_enable_and_reset
use Rattle.std.specs.Prelude.{◌≡◌, refl, ◌⊎◌, ℕ, Bool, true, false, not, ◌&&◌, ◌||◌, nat_eq, ℤ, Option, Some, None, is_none, List}
use Rattle.std.specs.List.{list_any}
use Rattle.std.proofs.Common.{◌∙◌, sym, ap, inl, inr}
use Rattle.std.proofs.lemmas.Bool.{eqb-true, not-false}
use Rattle.plc_types.specs.declared.axis_state.AxisState.{AxisState}
use Rattle.buffer_modes.specs.Queue.{is_aborting}
use Rattle.plc_types.specs.declared.kind.BlockKind.{BlockKind}
use Rattle.plc_types.specs.declared.kind.BlockKind.TheVariants as kind
use Rattle.command_pool.specs.declared.wanted.Wanted.{Wanted}
use Rattle.axis_state.specs.GroupDiagram.{next_of}
use Rattle.axis_state.specs.declared.group_diagram.GroupEvent.TheVariants as event
use Rattle.plc_types.specs.declared.group.GroupState.{GroupState}
use Rattle.plc_types.specs.declared.group.GroupState.TheVariants as state
use Rattle.plc_types.specs.declared.limits.Limits.{Limits}
use Rattle.group_core.specs.Calls.{admitted_by, asked_in, braked_for, commanded, commanded_by, powered_off, queued, waits_for_rest}
use Rattle.group_core.specs.Cores.{Core, failed, line_begun}
use Rattle.group_core.specs.Cycles.{cycled, moved, released, reset_where}
use Rattle.group_core.specs.GroupKept.{IsCoreKept, IsInState, is_within}
use Rattle.group_core.specs.Kinds.{may_come, tests_of}
use Rattle.group_core.specs.Refusals.{holds, limits_in, refusal_of, states_in}
use Rattle.group_core.specs.States.{is_moved, may_fail}
use Rattle.group_core.specs.Tracks.{OnPath, is_moving}
use Rattle.group_core.specs.blocks.Halts.{leaves_stopping}
use Rattle.group_core.specs.blocks.Reset.{after_reset, may_reset, reset_by, reset_from}
use Rattle.group_core.specs.declared.group.Group.{Group}
use Rattle.buffer_modes.specs.declared.reset.PendingReset.{PendingReset}
use Rattle.group_core.specs.declared.look.GroupLook.{GroupLook}
use Rattle.group_core.specs.declared.reason.Reason.{Reason}
use Rattle.group_core.proofs.Ends.{Settles, failed-cycle, moved-as, stopping-is}
use Rattle.group_core.proofs.KeptCalls.{by-if, halts-within, of_kind, stops-within, takes-within}
use Rattle.group_core.proofs.KeptCycles.{left-idle}
use Rattle.group_core.proofs.NoneHolds.{NoneHolds, none-holds}

-- what a command asks: the axes stood within their limits before, or it is a GroupEnable and none
-- of them is moved
abbrev Stood : GroupLook → Wanted → Core → Core → Type 0
Stood members w c x = is_within x.group.state ≡ true →
    (is_within c.group.state ≡ true) ⊎ ((w.kind ≡ kind.GroupEnable) × (list_any is_moved (states_in members) ≡ false))

line-live : (members : GroupLook) (w : Wanted) (c : Core) → may_come kind.MoveLinearAbsolute c.group.state (is_moving c.path) ≡ true →
    Stood members w c (admitted_by kind.MoveLinearAbsolute members w c)
line-live members w c come =
    by-if (Stood members w c) (waits_for_rest w c.path) (braked_for w c) _ (λ h live. inl live)
    (λ h. by-if (Stood members w c) (is_aborting w.mode || is_none c.group.active) (line_begun members members.setpoints w (queued w c)) (queued w c)
    (λ g live. inl (takes-within c.group.state (is_moving c.path) come)) (λ g live. inl live))

live-by : (k : BlockKind) (members : GroupLook) (w : Wanted) (jerk : ℤ) (c : Core) → NoneHolds (asked_in c (of_kind k w) jerk members) (tests_of k) →
    Stood members (of_kind k w) c (admitted_by k members (of_kind k w) c)
unfolding holds
live-by kind.GroupEnable members w jerk c n live = inr (refl, n.1.1.1.1.0)
live-by kind.GroupDisable members w jerk c n live = absurd (cc)
live-by kind.GroupStop members w jerk c n live = inl (stops-within c.group.state (is_moving c.path) (not-false _ n.1.1.0))
live-by kind.GroupHalt members w jerk c n live = inl (halts-within c.group.state (is_moving c.path) (not-false _ n.1.1.0))
live-by kind.MoveLinearAbsolute members w jerk c n live = line-live members (of_kind kind.MoveLinearAbsolute w) c (not-false _ n.1.1.1.1.1.1.0) live
live-by _ members w jerk c n live = inl live

live-asked : (o : Option Reason) (members : GroupLook) (w : Wanted) (jerk : ℤ) (c : Core) → refusal_of (asked_in c w jerk members) ≡ o → Stood members w c (commanded_by o members w c)
unfolding refusal_of
live-asked None members w jerk c h live = live-by w.kind members w jerk c (none-holds (asked_in c w jerk members) (tests_of w.kind) h) live
live-asked (Some r) members w jerk c h live = inl live

live-after : (w : Wanted) (jerk : ℤ) (members : GroupLook) (c : Core) → Stood members w c (commanded w jerk members c)
unfolding commanded
live-after w jerk members c = live-asked (refusal_of (asked_in c w jerk members)) members w jerk c refl

pub command-live : (w : Wanted) (jerk : ℤ) (members : GroupLook) (c : Core) → is_within (commanded w jerk members c).group.state ≡ true →
    (is_within c.group.state ≡ true) ⊎ (list_any is_moved (states_in members) ≡ false)
command-live w jerk members c live =
    elim (live-after w jerk members c live) [ inl before ↦ inl before | inr both ↦ inr both.1 ]

pub enable-live : (w : Wanted) (jerk : ℤ) (members : GroupLook) (c : Core) → is_within (commanded w jerk members c).group.state ≡ true →
    (is_within c.group.state ≡ true) ⊎ (w.kind ≡ kind.GroupEnable)
enable-live w jerk members c live =
    elim (live-after w jerk members c live) [ inl before ↦ inl before | inr both ↦ inr both.0 ]

-- a Power off of a member
no-longer : (s : GroupState) (p : Option OnPath) (active : Option Wanted) → IsInState s p active → may_fail s ≡ false → is_within s ≡ false
no-longer state.GroupDisabled p active i h = refl
no-longer state.GroupErrorStop p active i h = refl
no-longer state.GroupHoming p active i h = absurd i
no-longer _ p active i h = absurd (cc)

pub off-dead : (limits : List Limits) (c : Core) → IsCoreKept limits c → is_within (powered_off c).group.state ≡ false
unfolding powered_off failed
off-dead limits c k =
    by-if (λ (x : Core). is_within x.group.state ≡ false) (may_fail c.group.state) (failed 102 c) c (λ h. refl) (no-longer c.group.state c.path c.group.active k.state)

-- a GroupReset
reset-moved : (moved : Bool) (s : GroupState) → is_within (reset_from moved s) ≡ true → (is_within s ≡ true) ⊎ (moved ≡ false)
reset-moved false s live = inr refl
reset-moved true state.GroupErrorStop live = absurd (cc)
reset-moved true state.GroupDisabled live = inl live
reset-moved true state.GroupStandby live = inl live
reset-moved true state.GroupMoving live = inl live
reset-moved true state.GroupStopping live = inl live
reset-moved true state.GroupHoming live = inl live

reset-by-live : (o : Option PendingReset) (axes : List AxisState) (on : Bool) (g : Group) → is_within (reset_by o axes on g).state ≡ true →
    (is_within g.state ≡ true) ⊎ (list_any is_moved axes ≡ false)
reset-by-live None axes on g = λ live. inl live
reset-by-live (Some r) axes on g =
    by-if (λ (x : Group). is_within x.state ≡ true → (is_within g.state ≡ true) ⊎ (list_any is_moved axes ≡ false)) (may_reset on g) (after_reset axes g) g
    (λ h. reset-moved (list_any is_moved axes) g.state) (λ h live. inl live)

pub reset-live : (members : GroupLook) (on : Bool) (g : Group) → is_within (reset_where members on g).state ≡ true →
    (is_within g.state ≡ true) ⊎ (list_any is_moved (states_in members) ≡ false)
unfolding reset_where
reset-live members on g = reset-by-live g.reset (states_in members) on g

-- a cycle without an error of a member
settled-live : (s t : GroupState) → Settles s t → is_within t ≡ true → is_within s ≡ true
settled-live s t (inl e) live = ap is_within (sym e) ∙ live
settled-live s t (inr both) live = ap is_within both.0

released-live : (held : Bool) (s : GroupState) (c : Core) → Settles s c.group.state → is_within (released held c).group.state ≡ true → is_within s ≡ true
released-live held s c h =
    by-if (λ (x : Group). is_within x.state ≡ true → is_within s ≡ true) (leaves_stopping held c.group c.path) (record c.group { state = next_of event.StopReleased; hold = None }) c.group
    (λ l live. settled-live s c.group.state h (ap is_within (stopping-is c.group.state (left-idle held c.group c.path l).0))) (λ l. settled-live s c.group.state h)

fails-within : (s : GroupState) (p : Option OnPath) (active : Option Wanted) → IsInState s p active → is_within s ≡ true → may_fail s ≡ true
fails-within state.GroupStandby p active i h = refl
fails-within state.GroupMoving p active i h = refl
fails-within state.GroupStopping p active i h = refl
fails-within state.GroupHoming p active i h = absurd i
fails-within _ p active i h = absurd (cc)

error-none : (x b : Bool) → (not x && b) ≡ false → b ≡ true → x ≡ true
error-none true b h e = refl
error-none false b h e = absurd (let f : true ≡ false = sym e ∙ h in cc)

no-error : (n : ℕ) → nat_eq n 0 ≡ true → n ≡ 0
no-error n h = eqb-true n 0 h

pub cycle-live : (members : GroupLook) (c : Core) → IsCoreKept (limits_in members) c → is_within (cycled members c).group.state ≡ true →
    (is_within c.group.state ≡ true) × (members.error ≡ 0)
unfolding cycled
cycle-live members c k =
    by-if (λ (x : Core). is_within (released members.stop_held (moved members x)).group.state ≡ true → (is_within c.group.state ≡ true) × (members.error ≡ 0))
    (not (nat_eq members.error 0) && may_fail c.group.state) (failed members.error c) c
    (λ h live. absurd (let dead : false ≡ true = ap is_within (sym (failed-cycle members members.error c)) ∙ live in cc))
    (λ h live.
    let within = released-live members.stop_held c.group.state (moved members c) (moved-as (limits_in members) members c k) live in
    (within, no-error members.error (error-none (nat_eq members.error 0) (may_fail c.group.state) h (fails-within c.group.state c.path c.group.active k.state within))))
