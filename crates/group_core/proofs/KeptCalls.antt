-- What a command, a Power off of a member and a detachment keep of a group.
-- for: power_off, reset_cycle, detach and others
use Rattle.std.specs.Prelude.{◌≡◌, refl, ◌⊎◌, ℕ, Bool, true, false, not, ◌&&◌, ◌||◌, nat_eq, ℤ, Option, Some, None, is_some, is_none, List, [], ◌∷◌, ◌++◌, length, if◌then◌else◌}
use Rattle.std.proofs.Common.{◌∙◌, sym, ap, subst, arith, inl, inr}
use Rattle.std.proofs.lemmas.Bool.{and_parts, not-false}
use Rattle.buffer_modes.specs.Queue.{Commands, behind, is_aborting, end_notes}
use Rattle.command_pool.specs.declared.ending.Finish.TheVariants as finish
use Rattle.plc_types.specs.declared.kind.BlockKind.{BlockKind}
use Rattle.plc_types.specs.declared.kind.BlockKind.TheVariants as kind
use Rattle.command_pool.specs.declared.wanted.Wanted.{Wanted}
use Rattle.axis_state.specs.GroupDiagram.{IsFrom}
use Rattle.plc_types.specs.declared.group.GroupState.{GroupState}
use Rattle.plc_types.specs.declared.group.GroupState.TheVariants as state
use Rattle.plc_types.specs.declared.limits.Limits.{Limits}
use Rattle.group_core.specs.Admitting.{MayAdmit, MayHalt}
use Rattle.group_core.specs.Calls.{admitted_by, asked_in, braked_for, commanded, commanded_by, halted, line_joined, powered_off, queue_in, queued, waits_for_rest}
use Rattle.group_core.specs.Cores.{Core, begun, failed, line_begun}
use Rattle.group_core.specs.GroupKept.{AreGroupLimits, AreNumbers, AreTargets, AreWaiting, IsActive, IsCoreKept, IsCount, IsDeceleration, IsIdle, IsInState, IsLed, IsLook, IsMade, IsPathOf, IsWaiting, fits, is_within}
use Rattle.group_core.specs.Kinds.{event_of, may_come, tests_of}
use Rattle.group_core.specs.Refusals.{any_outside, holds, limits_in, refusal_of}
use Rattle.group_core.specs.States.{may_fail}
use Rattle.group_core.specs.Tracks.{OnPath, Way, beginning, is_moving}
use Rattle.group_core.specs.blocks.Halts.{halted_path}
use Rattle.group_core.specs.blocks.Line.{braking_for, way_to}
use Rattle.group_core.specs.declared.look.GroupLook.{GroupLook}
use Rattle.group_core.specs.declared.reason.Reason.{Reason}
use Rattle.group_core.proofs.KeptParts.{Standing, beginning-kept, line-may-begin}
use Rattle.group_core.proofs.NoneHolds.{NoneHolds, disable-from, enable-from, halt-from, line-from, none-holds, rate-in, rates-in, stop-from, targets-in}

-- a command of a kind, whatever it was
abbrev pub of_kind : BlockKind → Wanted → Wanted
of_kind k w = record w { kind = k }

-- a group that fails is kept
pub failed-kept : (n : ℕ) (limits : List Limits) (c : Core) → IsCoreKept limits c → IsCoreKept limits (failed n c)
unfolding failed
failed-kept n limits c k = record {
  axes = k.axes;
  limits_are = k.limits_are;
  state = refl;
  active = λ w h. absurd (cc);
  path = k.path;
  waiting = tt;
  queue = inl refl;
}

-- a choice, by what holds where it falls
pub by-if : {A : Type 0} (P : A → Type 0) (b : Bool) (x y : A) → (b ≡ true → P x) → (b ≡ false → P y) → P (if b then x else y)
by-if P true x y f g = f refl
by-if P false x y f g = g refl

-- a Power off of a member keeps the group
pub powered-kept : (limits : List Limits) (c : Core) → IsCoreKept limits c → IsCoreKept limits (powered_off c)
unfolding powered_off
powered-kept limits c k = by-if (IsCoreKept limits) (may_fail c.group.state) (failed 102 c) c (λ h. failed-kept 102 limits c k) (λ h. k)

-- the axes of a group that takes commands of its path stand within their limits
pub takes-within : (s : GroupState) (moves : Bool) → may_come kind.MoveLinearAbsolute s moves ≡ true → is_within s ≡ true
takes-within state.GroupStandby moves h = refl
takes-within state.GroupMoving moves h = refl
takes-within _ moves h = absurd (cc)

pub halts-within : (s : GroupState) (moves : Bool) → may_come kind.GroupHalt s moves ≡ true → is_within s ≡ true
halts-within state.GroupStandby moves h = refl
halts-within state.GroupMoving moves h = refl
halts-within _ moves h = absurd (cc)

pub stops-within : (s : GroupState) (moves : Bool) → may_come kind.GroupStop s moves ≡ true → is_within s ≡ true
stops-within state.GroupStandby moves h = refl
stops-within state.GroupMoving moves h = refl
stops-within _ moves h = absurd (cc)

-- what is known where a command is asked
pub record IsAsked (members : GroupLook) (c : Core) : Type 0 where
  pub look : IsLook c.group members
  pub kept : IsCoreKept (limits_in members) c

-- the targets of a line that is not refused
targets-of : (members : GroupLook) (c : Core) (w : Wanted) → IsAsked members c → IsMade c.group.axes w → any_outside members.count (limits_in members) w.targets ≡ false →
    AreTargets c.group.axes (limits_in members) w.targets
targets-of members c w a m h = record {
  within = λ axis within. targets-in members.count (limits_in members) w.targets h axis (omega (arith, a.look.count, within));
  others = m.others;
}

-- there is a place for a command
and-right : (x y z : Bool) → ((x && y) && z) ≡ false → (x && (y && z)) ≡ false
and-right true y z h = h
and-right false y z h = refl

-- a halt may be admitted
may-halt : (members : GroupLook) (w : Wanted) (c : Core) → IsAsked members c → IsFrom c.group.state (event_of w.kind) → is_within c.group.state ≡ true →
    MayHalt members w c.group
may-halt members w c a from within = record {
  begin = from;
  line = line-may-begin c.group.axes members members.setpoints members.setpoints a.look.count a.kept.axes a.kept.limits_are (a.look.setpoints within) (a.look.setpoints within);
}

-- a command that is not refused may be admitted, by its kind
may-by : (k : BlockKind) (members : GroupLook) (w : Wanted) (jerk : ℤ) (c : Core) → IsAsked members c → IsMade c.group.axes (of_kind k w) →
    NoneHolds (asked_in c (of_kind k w) jerk members) (tests_of k) → MayAdmit k members (of_kind k w) c
unfolding holds
may-by kind.GroupEnable members w jerk c a m n = enable-from c.group.state (is_moving c.path) (not-false _ n.1.1.1.1.1.0)
may-by kind.GroupDisable members w jerk c a m n = disable-from c.group.state (is_moving c.path) (not-false _ n.0)
may-by kind.GroupReset members w jerk c a m n = tt
may-by kind.GroupStop members w jerk c a m n =
    let come = not-false _ n.1.1.0 in
    may-halt members (of_kind kind.GroupStop w) c a (stop-from c.group.state (is_moving c.path) come) (stops-within c.group.state (is_moving c.path) come)
may-by kind.GroupHalt members w jerk c a m n =
    let come = not-false _ n.1.1.0 in
    may-halt members (of_kind kind.GroupHalt w) c a (halt-from c.group.state (is_moving c.path) come) (halts-within c.group.state (is_moving c.path) come)
may-by kind.MoveLinearAbsolute members w jerk c a m n =
    let come = not-false _ n.1.1.1.1.1.1.0 in
    record {
      begin = line-from c.group.state (is_moving c.path) come;
      line = line-may-begin c.group.axes members members.setpoints w.targets a.look.count a.kept.axes a.kept.limits_are
          (a.look.setpoints (takes-within c.group.state (is_moving c.path) come)) (targets-of members c (of_kind kind.MoveLinearAbsolute w) a m n.1.1.1.1.0);
      place = and-right (not (is_aborting w.mode)) (is_some c.group.active) (nat_eq (length c.waiting) 8) n.1.1.1.1.1.0;
    }
may-by _ members w jerk c a m n = tt

pub may-admit : (members : GroupLook) (w : Wanted) (jerk : ℤ) (c : Core) → IsAsked members c → IsMade c.group.axes w →
    refusal_of (asked_in c w jerk members) ≡ None → MayAdmit w.kind members w c
unfolding refusal_of
may-admit members w jerk c a m h = may-by w.kind members w jerk c a m (none-holds (asked_in c w jerk members) (tests_of w.kind) h)

-- nothing waits but where the group moves
pub none-waits : (s : GroupState) (ws : List Wanted) → (ws ≡ []) ⊎ (s ≡ state.GroupMoving) → (s ≡ state.GroupMoving → ⊥) → ws ≡ []
none-waits s ws (inl e) h = e
none-waits s ws (inr e) h = absurd (h e)

enable-alone : (s : GroupState) (moves : Bool) → may_come kind.GroupEnable s moves ≡ true → s ≡ state.GroupMoving → ⊥
enable-alone state.GroupMoving moves h e = absurd (cc)
enable-alone _ moves h e = absurd (cc)

disable-alone : (s : GroupState) (moves : Bool) → may_come kind.GroupDisable s moves ≡ true → s ≡ state.GroupMoving → ⊥
disable-alone state.GroupMoving moves h e = absurd (cc)
disable-alone _ moves h e = absurd (cc)

-- a group that may be enabled or disabled has no command
enable-idle : (s : GroupState) (moves : Bool) (p : Option OnPath) (active : Option Wanted) → may_come kind.GroupEnable s moves ≡ true → IsInState s p active → IsIdle p active
enable-idle state.GroupDisabled moves p active h i = i
enable-idle _ moves p active h i = absurd (cc)

disable-idle : (s : GroupState) (moves : Bool) (p : Option OnPath) (active : Option Wanted) → may_come kind.GroupDisable s moves ≡ true → IsInState s p active → active ≡ None
disable-idle state.GroupDisabled moves p active h i = i.idle
disable-idle state.GroupStandby moves p active h i = i.idle
disable-idle state.GroupErrorStop moves p active h i = i
disable-idle _ moves p active h i = absurd (cc)

pub disable-none : (members : GroupLook) (c : Core) → IsAsked members c → not (may_come kind.GroupDisable c.group.state (is_moving c.path)) ≡ false → c.group.active ≡ None
disable-none members c a h = disable-idle c.group.state (is_moving c.path) c.path c.group.active (not-false _ h) a.kept.state

-- no active command is active in any state
pub no-active : (s : GroupState) (active : Option Wanted) → active ≡ None → (w : Wanted) → active ≡ Some w → IsActive s w
no-active s active e w h = absurd (let f : None ≡ Some w = sym e ∙ h in cc)

-- one that is active in a state
pub the-active : (s : GroupState) (v : Wanted) → IsActive s v → (w : Wanted) → Some v ≡ Some w → IsActive s w
the-active s v i w h = let same : v ≡ w = cc in subst (IsActive s) same i

-- the path is there where it moves
moving-some : (p : Option OnPath) → is_moving p ≡ true → is_some p ≡ true
moving-some None h = absurd (cc)
moving-some (Some p) h = refl

pub halted-some : (here : Way) (limits : List Limits) (p : Option OnPath) → is_some (halted_path here limits p) ≡ true
halted-some here limits p = by-if (λ (o : Option OnPath). is_some o ≡ true) (is_moving p) p (Some (beginning here limits)) (moving-some p) (λ h. refl)

-- the path of a halt is one of the axes
halted-path-kept : Standing → (members : GroupLook) (c : Core) → IsAsked members c → is_within c.group.state ≡ true → (p : OnPath) →
    halted_path (record { count = members.count; starts = members.setpoints; targets = members.setpoints }) (limits_in members) c.path ≡ Some p →
    IsPathOf c.group.axes (limits_in members) p
halted-path-kept laws members c a within =
    let t = a.look.setpoints within in
    let here : Way = record { count = members.count; starts = members.setpoints; targets = members.setpoints } in
    by-if (λ (o : Option OnPath). (p : OnPath) → o ≡ Some p → IsPathOf c.group.axes (limits_in members) p) (is_moving c.path) c.path (Some (beginning here (limits_in members)))
    (λ h. a.kept.path)
    (λ h p e. let same : beginning here (limits_in members) ≡ p = cc in
    subst (IsPathOf c.group.axes (limits_in members)) same
    (beginning-kept laws c.group.axes members.count (limits_in members) members.setpoints members.setpoints a.look.count a.kept.limits_are t t))

-- a GroupHalt and a GroupStop keep the group
halt-kept : Standing → (members : GroupLook) (w : Wanted) (c : Core) → IsAsked members c → is_within c.group.state ≡ true → IsDeceleration w.rates.d →
    IsCoreKept (limits_in members) (halted members (of_kind kind.GroupHalt w) c)
halt-kept laws members w c a within d = record {
  axes = a.kept.axes;
  limits_are = a.kept.limits_are;
  state = record { on = halted-some _ _ c.path; led = refl };
  active = the-active state.GroupMoving (of_kind kind.GroupHalt w) (record { fitting = refl; numbers = d });
  path = halted-path-kept laws members c a within;
  waiting = tt;
  queue = inl refl;
}

stop-kept : Standing → (members : GroupLook) (w : Wanted) (c : Core) → IsAsked members c → is_within c.group.state ≡ true → IsDeceleration w.rates.d →
    IsCoreKept (limits_in members) (halted members (of_kind kind.GroupStop w) c)
stop-kept laws members w c a within d = record {
  axes = a.kept.axes;
  limits_are = a.kept.limits_are;
  state = record { on = halted-some _ _ c.path; rests = λ e. absurd (cc) };
  active = the-active state.GroupStopping (of_kind kind.GroupStop w) (record { fitting = refl; numbers = d });
  path = halted-path-kept laws members c a within;
  waiting = tt;
  queue = inl refl;
}

-- what a line that is not refused is
record IsLine (members : GroupLook) (c : Core) (w : Wanted) : Type 0 where
  waits : IsWaiting c.group.axes (limits_in members) w
  come : may_come kind.MoveLinearAbsolute c.group.state (is_moving c.path) ≡ true

-- a line begins
pub line-begun-kept : Standing → (members : GroupLook) (setpoints : List ℤ) (w : Wanted) (c : Core) → IsCount c.group.axes → members.count ≡ c.group.axes →
    AreGroupLimits c.group.axes (limits_in members) → AreWaiting c.group.axes (limits_in members) c.waiting →
    AreTargets c.group.axes (limits_in members) setpoints → IsWaiting c.group.axes (limits_in members) w → IsCoreKept (limits_in members) (line_begun members setpoints w c)
line-begun-kept laws members setpoints w c axes count limits ws t i =
    let P : BlockKind → Type 0 = λ l. IsCoreKept (limits_in members) (record c {
      group = begun (of_kind l w) c.group;
      path = Some (beginning (way_to members.count setpoints w) (limits_in members));
    }) in
    subst P (sym i.line) (record {
      axes = axes;
      limits_are = limits;
      state = record { on = refl; led = refl };
      active = the-active state.GroupMoving (of_kind kind.MoveLinearAbsolute w) (record { fitting = refl; numbers = i.rates });
      path = λ p e. let same : beginning (way_to members.count setpoints w) (limits_in members) ≡ p = cc in
          subst (IsPathOf c.group.axes (limits_in members)) same
          (beginning-kept laws c.group.axes members.count (limits_in members) setpoints w.targets count limits t i.targets);
      waiting = ws;
      queue = inr refl;
    })

-- the deceleration of an active command
deceleration-of : (k : BlockKind) (w : Wanted) → AreNumbers k w → IsDeceleration w.rates.d
deceleration-of kind.MoveLinearAbsolute w n = record { least = n.least_deceleration; most = n.most_deceleration }
deceleration-of _ w n = n

-- what brakes the path is active where the command before it was
braking-active : (s : GroupState) (active : Option Wanted) → s ≡ state.GroupMoving → ((w : Wanted) → active ≡ Some w → IsActive s w) →
    (w : Wanted) → braking_for active ≡ Some w → IsActive s w
braking-active s None e f w h = absurd (cc)
braking-active s (Some v) e f w h =
    let halt : Wanted = record v { kind = kind.GroupHalt; owner = None } in
    the-active s halt (record {
      fitting = subst (λ t. fits t kind.GroupHalt ≡ true) (sym e) refl;
      numbers = deceleration-of v.kind v (f v refl).numbers;
    }) w h

braking-some : (active : Option Wanted) → is_some active ≡ true → is_some (braking_for active) ≡ true
braking-some None h = absurd (cc)
braking-some (Some w) h = refl

-- a group that takes a line and whose path moves is in GroupMoving, and so is one with a command
moves-in : (s : GroupState) (moves : Bool) (p : Option OnPath) (active : Option Wanted) → may_come kind.MoveLinearAbsolute s moves ≡ true → is_moving p ≡ true →
    IsInState s p active → s ≡ state.GroupMoving
moves-in state.GroupStandby moves p active h m i = absurd (let f : is_moving None ≡ true = subst (λ (o : Option OnPath). is_moving o ≡ true) i.off m in cc)
moves-in state.GroupMoving moves p active h m i = refl
moves-in _ moves p active h m i = absurd (cc)

led-in : (s : GroupState) (moves : Bool) (p : Option OnPath) (active : Option Wanted) → may_come kind.MoveLinearAbsolute s moves ≡ true → is_some active ≡ true →
    IsInState s p active → s ≡ state.GroupMoving
led-in state.GroupStandby moves p active h m i = absurd (let f : false ≡ true = subst (λ (o : Option Wanted). is_some o ≡ true) i.idle m in cc)
led-in state.GroupMoving moves p active h m i = refl
led-in _ moves p active h m i = absurd (cc)

moving-in : (s : GroupState) (p : Option OnPath) (active : Option Wanted) → s ≡ state.GroupMoving → IsInState s p active → IsLed p active
moving-in s p active e i = subst (λ t. IsInState t p active) e i

in-moving : (s : GroupState) (p : Option OnPath) (active : Option Wanted) → s ≡ state.GroupMoving → IsLed p active → IsInState s p active
in-moving s p active e i = subst (λ t. IsInState t p active) (sym e) i

-- a line that waits until the path has come to rest keeps the group
braked-kept : (members : GroupLook) (w : Wanted) (c : Core) → IsAsked members c → IsLine members c w → is_moving c.path ≡ true →
    IsCoreKept (limits_in members) (braked_for w c)
braked-kept members w c a l m =
    let moving = moves-in c.group.state (is_moving c.path) c.path c.group.active l.come m a.kept.state in
    let led = moving-in c.group.state c.path c.group.active moving a.kept.state in
    record {
      axes = a.kept.axes;
      limits_are = a.kept.limits_are;
      state = in-moving c.group.state c.path (braking_for c.group.active) moving (record { on = led.on; led = braking-some c.group.active led.led });
      active = braking-active c.group.state c.group.active moving a.kept.active;
      path = a.kept.path;
      waiting = (l.waits, tt);
      queue = inr moving;
    }

-- those that wait where a line begins at once
at-once : (axes : ℕ) (limits : List Limits) (aborts : Bool) (active : Option Wanted) (ws : List Wanted) (w : Wanted) → (aborts || is_none active) ≡ true →
    AreWaiting axes limits ws →
    AreWaiting axes limits (let after : Commands = if aborts then record { active = Some w; waiting = [] } else behind active ws w in after).waiting
at-once axes limits true active ws w h k = tt
at-once axes limits false None ws w h k = k
at-once axes limits false (Some v) ws w h k = absurd (cc)

-- one more command waits
one-more : (axes : ℕ) (limits : List Limits) (ws : List Wanted) (w : Wanted) → AreWaiting axes limits ws → IsWaiting axes limits w → AreWaiting axes limits (ws ++ w ∷ [])
one-more axes limits [] w h i = (i, tt)
one-more axes limits (v ∷ ws) w h i = (h.0, one-more axes limits ws w h.1 i)

-- a line that waits after another one keeps the group
abbrev pub joining : Bool → Option Wanted → Wanted → Core → Core
joining aborts active w c =
    let after : Commands = if aborts then record { active = Some w; waiting = [] } else behind active c.waiting w in
    record c {
      group = record c.group { active = after.active };
      waiting = after.waiting;
      notes = c.notes ++ (if aborts then end_notes finish.Aborted (queue_in c) else []);
    }

later-kept : (members : GroupLook) (aborts : Bool) (active : Option Wanted) (w : Wanted) (c : Core) → c.group.active ≡ active → (aborts || is_none active) ≡ false →
    IsAsked members c → IsLine members c w → IsCoreKept (limits_in members) (joining aborts active w c)
later-kept members true active w c e h a l = absurd (cc)
later-kept members false None w c e h a l = absurd (cc)
later-kept members false (Some v) w c e h a l =
    let P : Option Wanted → Type 0 = λ o. IsInState c.group.state c.path o in
    let moving = led-in c.group.state (is_moving c.path) c.path c.group.active l.come (ap is_some e) a.kept.state in
    record {
      axes = a.kept.axes;
      limits_are = a.kept.limits_are;
      state = subst P e a.kept.state;
      active = λ u h. a.kept.active u (e ∙ h);
      path = a.kept.path;
      waiting = one-more c.group.axes (limits_in members) c.waiting w a.kept.waiting l.waits;
      queue = inr moving;
    }

-- a line that is active at once keeps the group
now-kept : Standing → (members : GroupLook) (w : Wanted) (c : Core) → IsAsked members c → IsLine members c w → (is_aborting w.mode || is_none c.group.active) ≡ true →
    IsCoreKept (limits_in members) (line_begun members members.setpoints w (queued w c))
now-kept laws members w c a l h =
    line-begun-kept laws members members.setpoints w (queued w c) a.kept.axes a.look.count a.kept.limits_are
    (at-once c.group.axes (limits_in members) (is_aborting w.mode) c.group.active c.waiting w h a.kept.waiting)
    (a.look.setpoints (takes-within c.group.state (is_moving c.path) l.come)) l.waits

line-kept : Standing → (members : GroupLook) (w : Wanted) (c : Core) → IsAsked members c → IsLine members c w → IsCoreKept (limits_in members) (line_joined members w c)
line-kept laws members w c a l =
    let P : Core → Type 0 = IsCoreKept (limits_in members) in
    by-if P (waits_for_rest w c.path) (braked_for w c) _
    (λ h. braked-kept members w c a l (and_parts (is_aborting w.mode) (is_moving c.path) h).1)
    (λ h. by-if P (is_aborting w.mode || is_none c.group.active) (line_begun members members.setpoints w (queued w c)) (queued w c)
    (now-kept laws members w c a l) (λ g. later-kept members (is_aborting w.mode) c.group.active w c refl g a l))

-- a command that is not refused keeps the group, by its kind
kept-by : Standing → (k : BlockKind) (members : GroupLook) (w : Wanted) (jerk : ℤ) (c : Core) → IsAsked members c → IsMade c.group.axes (of_kind k w) →
    NoneHolds (asked_in c (of_kind k w) jerk members) (tests_of k) → IsCoreKept (limits_in members) (admitted_by k members (of_kind k w) c)
unfolding holds
kept-by laws kind.GroupEnable members w jerk c a m n =
    let come = not-false _ n.1.1.1.1.1.0 in
    let idle = enable-idle c.group.state (is_moving c.path) c.path c.group.active come a.kept.state in
    record {
      axes = a.kept.axes;
      limits_are = a.kept.limits_are;
      state = idle;
      active = no-active state.GroupStandby c.group.active idle.idle;
      path = a.kept.path;
      waiting = a.kept.waiting;
      queue = inl (none-waits c.group.state c.waiting a.kept.queue (enable-alone c.group.state (is_moving c.path) come));
    }
kept-by laws kind.GroupDisable members w jerk c a m n =
    let come = not-false _ n.0 in
    let idle = disable-idle c.group.state (is_moving c.path) c.path c.group.active come a.kept.state in
    record {
      axes = a.kept.axes;
      limits_are = a.kept.limits_are;
      state = record { off = refl; idle = idle };
      active = no-active state.GroupDisabled c.group.active idle;
      path = λ p e. absurd (cc);
      waiting = a.kept.waiting;
      queue = inl (none-waits c.group.state c.waiting a.kept.queue (disable-alone c.group.state (is_moving c.path) come));
    }
kept-by laws kind.GroupReset members w jerk c a m n = record {
  axes = a.kept.axes;
  limits_are = a.kept.limits_are;
  state = a.kept.state;
  active = a.kept.active;
  path = a.kept.path;
  waiting = a.kept.waiting;
  queue = a.kept.queue;
}
kept-by laws kind.GroupStop members w jerk c a m n =
    stop-kept laws members w c a (stops-within c.group.state (is_moving c.path) (not-false _ n.1.1.0)) (rate-in w.rates.d n.0)
kept-by laws kind.GroupHalt members w jerk c a m n =
    halt-kept laws members w c a (halts-within c.group.state (is_moving c.path) (not-false _ n.1.1.0)) (rate-in w.rates.d n.0)
kept-by laws kind.MoveLinearAbsolute members w jerk c a m n =
    line-kept laws members (of_kind kind.MoveLinearAbsolute w) c a (record {
      waits = record {
        line = refl;
        rates = rates-in w.rates n.0 n.1.0 n.1.1.0;
        targets = targets-of members c (of_kind kind.MoveLinearAbsolute w) a m n.1.1.1.1.0;
        mode = n.1.1.1.1.1.1.1.0;
      };
      come = not-false _ n.1.1.1.1.1.1.0;
    })
kept-by laws _ members w jerk c a m n = a.kept

pub admitted-kept : Standing → (members : GroupLook) (w : Wanted) (jerk : ℤ) (c : Core) → IsAsked members c → IsMade c.group.axes w →
    refusal_of (asked_in c w jerk members) ≡ None → IsCoreKept (limits_in members) (admitted_by w.kind members w c)
unfolding refusal_of
admitted-kept laws members w jerk c a m h = kept-by laws w.kind members w jerk c a m (none-holds (asked_in c w jerk members) (tests_of w.kind) h)

-- a command keeps the group
asked-kept : Standing → (members : GroupLook) (w : Wanted) (jerk : ℤ) (c : Core) (o : Option Reason) → IsAsked members c → IsMade c.group.axes w →
    refusal_of (asked_in c w jerk members) ≡ o → IsCoreKept (limits_in members) (commanded_by o members w c)
asked-kept laws members w jerk c None a m h = admitted-kept laws members w jerk c a m h
asked-kept laws members w jerk c (Some r) a m h = a.kept

pub commanded-kept : Standing → (members : GroupLook) (w : Wanted) (jerk : ℤ) (c : Core) → IsAsked members c → IsMade c.group.axes w →
    IsCoreKept (limits_in members) (commanded w jerk members c)
unfolding commanded
commanded-kept laws members w jerk c a m = asked-kept laws members w jerk c (refusal_of (asked_in c w jerk members)) a m refl
