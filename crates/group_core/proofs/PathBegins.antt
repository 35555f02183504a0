-- Where a path begins in a call.
-- for: members_keep_their_limits
use Rattle.std.specs.Prelude.{◌≡◌, refl, ◌⊎◌, ℕ, ◌<◌, Bool, true, false, not, ◌&&◌, ◌||◌, ℤ, Option, Some, None, is_none, List, if◌then◌else◌}
use Rattle.std.proofs.Common.{◌∙◌, sym, ap, subst, arith, inl, inr}
use Rattle.buffer_modes.specs.Queue.{is_aborting}
use Rattle.plc_types.specs.declared.kind.BlockKind.{BlockKind}
use Rattle.plc_types.specs.declared.kind.BlockKind.TheVariants as kind
use Rattle.command_pool.specs.declared.wanted.Wanted.{Wanted}
use Rattle.command_pool.specs.declared.ending.Finish.{Finish}
use Rattle.plc_types.specs.declared.limits.Limits.{Limits}
use Rattle.plc_types.specs.declared.group.GroupState.{GroupState}
use Rattle.plc_types.specs.declared.group.GroupState.TheVariants as state
use Rattle.linear_path.specs.Line.{coordinate_of}
use Rattle.linear_path.proofs.LineIsPath.{line_begins}
use Rattle.group_core.specs.Calls.{admitted_by, asked_in, braked_for, commanded, commanded_by, powered_off, queued, waits_for_rest}
use Rattle.group_core.specs.Cores.{Core, ended_by, failed, line_begun}
use Rattle.group_core.specs.Cycles.{answered, cycled, ending_of, moved, path_after, released}
use Rattle.group_core.specs.GroupKept.{IsCoreKept, IsInState, IsLook, IsMade}
use Rattle.group_core.specs.Kinds.{may_come, tests_of}
use Rattle.group_core.specs.Members.{StandsOn}
use Rattle.group_core.specs.Refusals.{holds, limits_in, refusal_of}
use Rattle.group_core.specs.States.{is_error_stop, may_fail}
use Rattle.group_core.specs.Tracks.{OnPath, Way, beginning, is_moving, place_on, places_at}
use Rattle.group_core.specs.blocks.Halts.{halted_path, leaves_stopping}
use Rattle.group_core.specs.blocks.Line.{way_to}
use Rattle.group_core.specs.declared.look.GroupLook.{GroupLook}
use Rattle.group_core.specs.declared.reason.Reason.{Reason}
use Rattle.group_core.proofs.KeptCalls.{IsAsked, by-if, of_kind}
use Rattle.group_core.proofs.KeptCycles.{at-rest}
use Rattle.group_core.proofs.MemberLaws.{same-path}
use Rattle.group_core.proofs.NoneHolds.{NoneHolds, none-holds}
use Rattle.std.proofs.lemmas.Bool.{not-false}

-- after a call an axis is on the path on which it was, or one begins where it stands
abbrev BeganAt : GroupLook → ℕ → Option OnPath → Option OnPath → Type 0
BeganAt members axis before after = (q : OnPath) → after ≡ Some q →
    (before ≡ Some q) ⊎ ((is_moving before ≡ false) × StandsOn q axis (coordinate_of members.setpoints axis) (coordinate_of members.setpoints axis))

begins-there : (members : GroupLook) (axis : ℕ) (targets : List ℤ) (before : Option OnPath) → axis < members.count → is_moving before ≡ false →
    BeganAt members axis before (Some (beginning (record { count = members.count; starts = members.setpoints; targets = targets }) (limits_in members)))
begins-there members axis targets before inside rest q h =
    let way : Way = record { count = members.count; starts = members.setpoints; targets = targets } in
    let start : OnPath = beginning way (limits_in members) in
    let one : start ≡ q = cc in
    let begun = sym (line_begins members.count members.setpoints targets axis inside) in
    inr (rest, subst (λ (r : OnPath). StandsOn r axis (coordinate_of members.setpoints axis) (coordinate_of members.setpoints axis)) one (record { before_is = begun; now_is = begun }))

began-halt : (members : GroupLook) (axis : ℕ) (before : Option OnPath) → axis < members.count →
    BeganAt members axis before (halted_path (record { count = members.count; starts = members.setpoints; targets = members.setpoints }) (limits_in members) before)
began-halt members axis before inside =
    let here : Way = record { count = members.count; starts = members.setpoints; targets = members.setpoints } in
    by-if (BeganAt members axis before) (is_moving before) before (Some (beginning here (limits_in members)))
    (λ h q e. inl e) (λ h. begins-there members axis members.setpoints before inside h)

-- a line that begins in its call: the path rests, or there is none
line-rest : (aborts : Bool) (moves : Bool) (active : Option Wanted) (s : GroupState) (p : Option OnPath) → is_moving p ≡ moves → (aborts && moves) ≡ false →
    (aborts || is_none active) ≡ true → may_come kind.MoveLinearAbsolute s moves ≡ true → IsInState s p active → is_moving p ≡ false
line-rest true moves active s p e h g come i = e ∙ h
line-rest false moves None state.GroupStandby p e h g come i = ap is_moving i.off
line-rest false moves None state.GroupMoving p e h g come i = absurd (let led = i.led in cc)
line-rest false moves None _ p e h g come i = absurd (cc)
line-rest false moves (Some w) s p e h g come i = absurd (cc)

began-line : (members : GroupLook) (axis : ℕ) (w : Wanted) (c : Core) → axis < members.count → may_come kind.MoveLinearAbsolute c.group.state (is_moving c.path) ≡ true →
    IsInState c.group.state c.path c.group.active → BeganAt members axis c.path (admitted_by kind.MoveLinearAbsolute members w c).path
began-line members axis w c inside come i =
    by-if (λ (x : Core). BeganAt members axis c.path x.path) (waits_for_rest w c.path) (braked_for w c) _ (λ h q e. inl e)
    (λ h. by-if (λ (x : Core). BeganAt members axis c.path x.path) (is_aborting w.mode || is_none c.group.active) (line_begun members members.setpoints w (queued w c)) (queued w c)
    (λ g. begins-there members axis w.targets c.path inside (line-rest (is_aborting w.mode) (is_moving c.path) c.group.active c.group.state c.path refl h g come i))
    (λ g q e. inl e))

began-by : (k : BlockKind) (members : GroupLook) (axis : ℕ) (w : Wanted) (jerk : ℤ) (c : Core) → IsAsked members c → IsMade c.group.axes (of_kind k w) → axis < members.count →
    NoneHolds (asked_in c (of_kind k w) jerk members) (tests_of k) → BeganAt members axis c.path (admitted_by k members (of_kind k w) c).path
unfolding holds
began-by kind.GroupEnable members axis w jerk c a m inside n q h = inl h
began-by kind.GroupDisable members axis w jerk c a m inside n q h = absurd (cc)
began-by kind.GroupReset members axis w jerk c a m inside n q h = inl h
began-by kind.GroupStop members axis w jerk c a m inside n q h = began-halt members axis c.path inside q h
began-by kind.GroupHalt members axis w jerk c a m inside n q h = began-halt members axis c.path inside q h
began-by kind.MoveLinearAbsolute members axis w jerk c a m inside n q h =
    began-line members axis (of_kind kind.MoveLinearAbsolute w) c inside (not-false _ n.1.1.1.1.1.1.0) a.kept.state q h
began-by _ members axis w jerk c a m inside n q h = inl h

began-asked : (members : GroupLook) (axis : ℕ) (w : Wanted) (jerk : ℤ) (c : Core) (o : Option Reason) → IsAsked members c → IsMade c.group.axes w → axis < members.count →
    refusal_of (asked_in c w jerk members) ≡ o → BeganAt members axis c.path (commanded_by o members w c).path
unfolding refusal_of
began-asked members axis w jerk c None a m inside h = began-by w.kind members axis w jerk c a m inside (none-holds (asked_in c w jerk members) (tests_of w.kind) h)
began-asked members axis w jerk c (Some r) a m inside h = λ q e. inl e

pub path-begins : (members : GroupLook) (axis : ℕ) (w : Wanted) (jerk : ℤ) (c : Core) → IsLook c.group members → IsMade c.group.axes w → IsCoreKept (limits_in members) c →
    axis < c.group.axes → (q : OnPath) → (commanded w jerk members c).path ≡ Some q →
    (c.path ≡ Some q) ⊎ ((is_moving c.path ≡ false) × StandsOn q axis (coordinate_of members.setpoints axis) (coordinate_of members.setpoints axis))
unfolding commanded
path-begins members axis w jerk c l m k inside =
    let count = l.count in
    began-asked members axis w jerk c (refusal_of (asked_in c w jerk members)) (record { look = l; kept = k }) m (omega (arith, inside, count)) refl

pub off-path : (c : Core) → (powered_off c).path ≡ c.path
unfolding powered_off failed
off-path c = by-if (λ (x : Core). x.path ≡ c.path) (may_fail c.group.state) (failed 102 c) c (λ h. refl) (λ h. refl)

-- a call leaves a path only where that rests
abbrev LeavesAt : Option OnPath → Option OnPath → Type 0
LeavesAt before after = after ≡ None → is_moving before ≡ false

some-left : (before : Option OnPath) (p : OnPath) → LeavesAt before (Some p)
some-left before p e = absurd (cc)

left-halt : (here : Way) (limits : List Limits) (before : Option OnPath) → LeavesAt before (halted_path here limits before)
left-halt here limits before =
    by-if (LeavesAt before) (is_moving before) before (Some (beginning here limits)) (λ h e. ap is_moving e) (λ h. some-left before (beginning here limits))

same-left : (before : Option OnPath) → LeavesAt before before
same-left before e = ap is_moving e

left-line : (members : GroupLook) (w : Wanted) (c : Core) → LeavesAt c.path (admitted_by kind.MoveLinearAbsolute members w c).path
left-line members w c =
    let P : Core → Type 0 = λ x. LeavesAt c.path x.path in
    by-if P (waits_for_rest w c.path) (braked_for w c) _ (λ h. same-left c.path)
    (λ h. by-if P (is_aborting w.mode || is_none c.group.active) (line_begun members members.setpoints w (queued w c)) (queued w c)
    (λ g. some-left c.path (beginning (way_to members.count members.setpoints w) (limits_in members))) (λ g. same-left c.path))

disable-rest : (s : GroupState) (p : Option OnPath) (active : Option Wanted) → may_come kind.GroupDisable s (is_moving p) ≡ true → IsInState s p active → is_moving p ≡ false
disable-rest state.GroupDisabled p active h i = ap is_moving i.off
disable-rest state.GroupStandby p active h i = ap is_moving i.off
disable-rest state.GroupErrorStop p active h i = by (is_moving p) h
  where
    by : (b : Bool) → not b ≡ true → b ≡ false
    by true e = absurd (cc)
    by false e = refl
disable-rest _ p active h i = absurd (cc)

left-by : (k : BlockKind) (members : GroupLook) (w : Wanted) (jerk : ℤ) (c : Core) → IsAsked members c → IsMade c.group.axes (of_kind k w) →
    NoneHolds (asked_in c (of_kind k w) jerk members) (tests_of k) → LeavesAt c.path (admitted_by k members (of_kind k w) c).path
unfolding holds
left-by kind.GroupEnable members w jerk c a m n = same-left c.path
left-by kind.GroupDisable members w jerk c a m n = λ e. disable-rest c.group.state c.path c.group.active (not-false _ n.0) a.kept.state
left-by kind.GroupReset members w jerk c a m n = same-left c.path
left-by kind.GroupStop members w jerk c a m n = left-halt _ _ c.path
left-by kind.GroupHalt members w jerk c a m n = left-halt _ _ c.path
left-by kind.MoveLinearAbsolute members w jerk c a m n = left-line members (of_kind kind.MoveLinearAbsolute w) c
left-by _ members w jerk c a m n = same-left c.path

left-asked : (members : GroupLook) (w : Wanted) (jerk : ℤ) (c : Core) (o : Option Reason) → IsAsked members c → IsMade c.group.axes w →
    refusal_of (asked_in c w jerk members) ≡ o → LeavesAt c.path (commanded_by o members w c).path
unfolding refusal_of
left-asked members w jerk c None a m h = left-by w.kind members w jerk c a m (none-holds (asked_in c w jerk members) (tests_of w.kind) h)
left-asked members w jerk c (Some r) a m h = same-left c.path

pub path-leaves : (members : GroupLook) (axis : ℕ) (w : Wanted) (jerk : ℤ) (c : Core) (p : OnPath) (before now : ℤ) → IsLook c.group members → IsMade c.group.axes w →
    IsCoreKept (limits_in members) c → c.path ≡ Some p → StandsOn p axis before now → (commanded w jerk members c).path ≡ None → before ≡ now
unfolding commanded
path-leaves members axis w jerk c p before now l m k on stands h =
    let rest = left-asked members w jerk c (refusal_of (asked_in c w jerk members)) (record { look = l; kept = k }) m refl h in
    let same : p.motion.place ≡ p.motion.previous = at-rest p.motion (sym (ap is_moving on) ∙ rest) in
    stands.before_is ∙ ap (place_on p.way axis) (sym same) ∙ sym stands.now_is

-- a cycle without a path begins none
ended-off : (members : GroupLook) (s : List ℤ) (o : Option Finish) (c : Core) → o ≡ None → (ended_by members s o c).path ≡ c.path
ended-off members s None c e = refl
ended-off members s (Some f) c e = absurd (cc)

chosen-off : (b : Bool) (p : Option OnPath) → p ≡ None → (if b then None else p) ≡ None
chosen-off true p e = refl
chosen-off false p e = e

pub stays-off : (members : GroupLook) (c : Core) → c.path ≡ None → (cycled members c).path ≡ None
unfolding cycled
stays-off members c e =
    let read : Core = answered members.error c in
    let off : read.path ≡ None = same-path members.error c ∙ e in
    let path : path_after read.group read.path ≡ None = ap (path_after read.group) off in
    let m : Core = moved members read in
    let none : m.path ≡ None =
    ended-off members (places_at (path_after read.group read.path) members.setpoints) (ending_of read.group read.path) (record read { path = path_after read.group read.path })
    (ap (ending_of read.group) off) ∙ path in
    let l : Core = released members.stop_held m in
    chosen-off (is_error_stop l.group.state && not (is_moving l.path)) l.path (chosen-off (leaves_stopping members.stop_held m.group m.path) m.path none)
