-- A group shows its error and its GroupStop truly.
-- for: errors_stand_in_error_stop, errors_are_those_of_axes
use Rattle.std.specs.Prelude.{◌≡◌, ◌≢◌, refl, ◌⊎◌, ℕ, Bool, true, false, not, ◌&&◌, ◌||◌, nat_eq, ℤ, Option, Some, None, is_none, List, [], ◌∷◌, ◌++◌}
use Rattle.std.proofs.Common.{◌∙◌, sym, ap, subst, arith}
use Rattle.std.proofs.lemmas.Bool.{and_parts, not-false}
use Rattle.plc_types.specs.declared.axis_state.AxisState.{AxisState}
use Rattle.buffer_modes.specs.Queue.{active_note, is_aborting}
use Rattle.command_pool.specs.Waiting.{without}
use Rattle.command_pool.specs.declared.ending.Finish.{Finish}
use Rattle.plc_types.specs.declared.kind.BlockKind.{BlockKind}
use Rattle.plc_types.specs.declared.kind.BlockKind.TheVariants as kind
use Rattle.command_pool.specs.declared.wanted.Wanted.{Wanted}
use Rattle.axis_state.specs.GroupDiagram.{next_of}
use Rattle.axis_state.specs.declared.group_diagram.GroupEvent.TheVariants as event
use Rattle.plc_types.specs.declared.group.GroupState.{GroupState}
use Rattle.plc_types.specs.declared.group.GroupState.TheVariants as state
use Rattle.plc_types.specs.declared.limits.Limits.{Limits}
use Rattle.group_core.specs.Calls.{admitted_by, asked_in, braked_for, commanded, commanded_by, group_without, powered_off, queued, waits_for_rest}
use Rattle.group_core.specs.Cores.{Core, ended, ended_by, failed, line_begun, settled, taken_over}
use Rattle.group_core.specs.Cycles.{answered, cycled, ending_of, moved, opened, path_after, released, reset_where}
use Rattle.group_core.specs.GroupKept.{AreWaiting, IsCoreKept, IsMade}
use Rattle.group_core.specs.Kinds.{event_of, may_come, tests_of}
use Rattle.group_core.specs.Refusals.{holds, limits_in, refusal_of, states_in}
use Rattle.group_core.specs.Shown.{IsShown}
use Rattle.group_core.specs.States.{is_error_stop, is_stopping, may_fail}
use Rattle.group_core.specs.Tracks.{is_moving, places_at}
use Rattle.group_core.specs.blocks.Halts.{hold_by, leaves_stopping}
use Rattle.group_core.specs.blocks.Reset.{after_reset, may_reset, reset_by, reset_from}
use Rattle.group_core.specs.declared.group.Group.{Group}
use Rattle.buffer_modes.specs.declared.reset.PendingReset.{PendingReset}
use Rattle.group_core.specs.declared.look.GroupLook.{GroupLook}
use Rattle.group_core.specs.declared.reason.Reason.{Reason}
use Rattle.group_core.proofs.KeptCalls.{by-if, of_kind}
use Rattle.group_core.proofs.KeptCycles.{answered-kept, left-idle, waits-in}
use Rattle.group_core.proofs.NoneHolds.{NoneHolds, none-holds}

-- a group that shows what another one does
same-shown : (g h : Group) → h.state ≡ g.state → h.error ≡ g.error → h.hold ≡ g.hold → IsShown g → IsShown h
same-shown g h s e o k = record {
  stopped = λ t z. k.stopped (ap is_error_stop (sym s) ∙ t) (sym e ∙ z);
  clear = λ t. e ∙ k.clear (ap is_error_stop (sym s) ∙ t);
  held = λ t. o ∙ k.held (ap is_stopping (sym s) ∙ t);
}

-- a group that moves, stands by or is disabled, without an error
record IsClear (s : GroupState) : Type 0 where
  sound : is_error_stop s ≡ false
  free : is_stopping s ≡ false

clear-shown : (h : Group) → IsClear h.state → h.error ≡ 0 → h.hold ≡ None → IsShown h
clear-shown h c e o = record {
  stopped = λ t. absurd (let f : true ≡ false = sym t ∙ c.sound in cc);
  clear = λ t. e;
  held = λ t. o;
}

stopping-shown : (h : Group) → h.state ≡ state.GroupStopping → h.error ≡ 0 → IsShown h
stopping-shown h s e = record {
  stopped = λ t. absurd (let f : false ≡ true = ap is_error_stop (sym s) ∙ t in cc);
  clear = λ t. e;
  held = λ t. absurd (let f : true ≡ false = ap is_stopping (sym s) ∙ t in cc);
}

failed-shown : (n : ℕ) (c : Core) → n ≢ 0 → IsShown (failed n c).group
unfolding failed
failed-shown n c h = record { stopped = λ t. h; clear = λ t. absurd (cc); held = λ t. refl }

pub opened-shown : (axes : ℕ) → IsShown (opened axes)
opened-shown axes = clear-shown (opened axes) (record { sound = refl; free = refl }) refl refl

-- from where commands may come
clear-of : (k : BlockKind) (s : GroupState) (moves : Bool) → k ≡ kind.GroupEnable → may_come k s moves ≡ true → IsClear s
clear-of kind.GroupEnable state.GroupDisabled moves e h = record { sound = refl; free = refl }
clear-of kind.GroupEnable _ moves e h = absurd (cc)
clear-of _ s moves e h = absurd (cc)

halts-clear : (s : GroupState) (moves : Bool) → may_come kind.GroupHalt s moves ≡ true → IsClear s
halts-clear state.GroupStandby moves h = record { sound = refl; free = refl }
halts-clear state.GroupMoving moves h = record { sound = refl; free = refl }
halts-clear _ moves h = absurd (cc)

stops-clear : (s : GroupState) (moves : Bool) → may_come kind.GroupStop s moves ≡ true → IsClear s
stops-clear state.GroupStandby moves h = record { sound = refl; free = refl }
stops-clear state.GroupMoving moves h = record { sound = refl; free = refl }
stops-clear _ moves h = absurd (cc)

lines-clear : (s : GroupState) (moves : Bool) → may_come kind.MoveLinearAbsolute s moves ≡ true → IsClear s
lines-clear state.GroupStandby moves h = record { sound = refl; free = refl }
lines-clear state.GroupMoving moves h = record { sound = refl; free = refl }
lines-clear _ moves h = absurd (cc)

disable-free : (s : GroupState) (moves : Bool) → may_come kind.GroupDisable s moves ≡ true → is_stopping s ≡ false
disable-free state.GroupStopping moves h = absurd (cc)
disable-free state.GroupDisabled moves h = refl
disable-free state.GroupStandby moves h = refl
disable-free state.GroupMoving moves h = refl
disable-free state.GroupHoming moves h = refl
disable-free state.GroupErrorStop moves h = refl

line-shown : (members : GroupLook) (w : Wanted) (c : Core) → may_come kind.MoveLinearAbsolute c.group.state (is_moving c.path) ≡ true → IsShown c.group →
    IsShown (admitted_by kind.MoveLinearAbsolute members (of_kind kind.MoveLinearAbsolute w) c).group
line-shown members w c come k =
    let l : Wanted = of_kind kind.MoveLinearAbsolute w in
    let P : Core → Type 0 = λ x. IsShown x.group in
    by-if P (waits_for_rest l c.path) (braked_for l c) _ (λ h. same-shown c.group (braked_for l c).group refl refl refl k)
    (λ h. by-if P (is_aborting l.mode || is_none c.group.active) (line_begun members members.setpoints l (queued l c)) (queued l c)
    (λ g. clear-shown (line_begun members members.setpoints l (queued l c)).group (record { sound = refl; free = refl })
    (k.clear (lines-clear c.group.state (is_moving c.path) come).sound) refl)
    (λ g. same-shown c.group (queued l c).group refl refl refl k))

shown-by : (k : BlockKind) (members : GroupLook) (w : Wanted) (jerk : ℤ) (c : Core) → IsMade c.group.axes (of_kind k w) → NoneHolds (asked_in c (of_kind k w) jerk members) (tests_of k) →
    IsShown c.group → IsShown (admitted_by k members (of_kind k w) c).group
unfolding holds
shown-by kind.GroupEnable members w jerk c m n k =
    let s = clear-of kind.GroupEnable c.group.state (is_moving c.path) refl (not-false _ n.1.1.1.1.1.0) in
    clear-shown _ (record { sound = refl; free = refl }) (k.clear s.sound) (k.held s.free)
shown-by kind.GroupDisable members w jerk c m n k =
    clear-shown _ (record { sound = refl; free = refl }) refl (k.held (disable-free c.group.state (is_moving c.path) (not-false _ n.0)))
shown-by kind.GroupReset members w jerk c m n k = same-shown c.group _ refl refl refl k
shown-by kind.GroupStop members w jerk c m n k =
    stopping-shown _ refl (k.clear (stops-clear c.group.state (is_moving c.path) (not-false _ n.1.1.0)).sound)
shown-by kind.GroupHalt members w jerk c m n k =
    clear-shown _ (record { sound = refl; free = refl }) (k.clear (halts-clear c.group.state (is_moving c.path) (not-false _ n.1.1.0)).sound) refl
shown-by kind.MoveLinearAbsolute members w jerk c m n k = line-shown members w c (not-false _ n.1.1.1.1.1.1.0) k
shown-by _ members w jerk c m n k = k

shown-asked : (o : Option Reason) (members : GroupLook) (w : Wanted) (jerk : ℤ) (c : Core) → IsMade c.group.axes w → refusal_of (asked_in c w jerk members) ≡ o → IsShown c.group →
    IsShown (commanded_by o members w c).group
unfolding refusal_of
shown-asked None members w jerk c m h k = shown-by w.kind members w jerk c m (none-holds (asked_in c w jerk members) (tests_of w.kind) h) k
shown-asked (Some r) members w jerk c m h k = k

pub command-shown : (w : Wanted) (jerk : ℤ) (members : GroupLook) (c : Core) → IsMade c.group.axes w → IsShown c.group → IsShown (commanded w jerk members c).group
unfolding commanded
command-shown w jerk members c m k = shown-asked (refusal_of (asked_in c w jerk members)) members w jerk c m refl k

pub off-shown : (c : Core) → IsShown c.group → IsShown (powered_off c).group
unfolding powered_off
off-shown c k = by-if (λ (x : Core). IsShown x.group) (may_fail c.group.state) (failed 102 c) c (λ h. failed-shown 102 c (λ e. omega (arith, e))) (λ h. k)

without-none : (owner : ℕ) (o : Option ℕ) → o ≡ None → without owner o ≡ None
without-none owner o e = ap (without owner) e

pub detach-shown : (owner : ℕ) (g : Group) → IsShown g → IsShown (group_without owner g)
unfolding group_without
detach-shown owner g k = record { stopped = k.stopped; clear = k.clear; held = λ t. without-none owner g.hold (k.held t) }

-- a cycle
pub error-some : (n : ℕ) → not (nat_eq n 0) ≡ true → n ≢ 0
error-some n h = λ e. absurd (let f : not (nat_eq 0 0) ≡ true = subst (λ m. not (nat_eq m 0) ≡ true) e h in cc)

answered-shown : (error : ℕ) (c : Core) → IsShown c.group → IsShown (answered error c).group
answered-shown error c k =
    by-if (λ (x : Core). IsShown x.group) (not (nat_eq error 0) && may_fail c.group.state) (failed error c) c
    (λ h. failed-shown error c (error-some error (and_parts (not (nat_eq error 0)) (may_fail c.group.state) h).0)) (λ h. k)

settled-shown : (s : GroupState) (g : Group) → g.state ≡ s → IsShown g → IsShown (record g { state = settled s; active = None })
settled-shown state.GroupMoving g e k =
    clear-shown (record g { state = state.GroupStandby; active = None }) (record { sound = refl; free = refl }) (k.clear (ap is_error_stop e)) (k.held (ap is_stopping e))
settled-shown state.GroupDisabled g e k = same-shown g _ (sym e) refl refl k
settled-shown state.GroupStandby g e k = same-shown g _ (sym e) refl refl k
settled-shown state.GroupStopping g e k = same-shown g _ (sym e) refl refl k
settled-shown state.GroupErrorStop g e k = same-shown g _ (sym e) refl refl k
settled-shown state.GroupHoming g e k = same-shown g _ (sym e) refl refl k

taken-shown : (limits : List Limits) (members : GroupLook) (s : List ℤ) (ws : List Wanted) (f : Finish) (c : Core) → AreWaiting c.group.axes limits ws →
    (ws ≡ []) ⊎ (c.group.state ≡ state.GroupMoving) → IsShown c.group →
    IsShown (taken_over members s ws (record c { group = record c.group { active = None }; notes = c.notes ++ active_note f c.group.active })).group
taken-shown limits members s [] f c a q k = settled-shown c.group.state c.group refl k
taken-shown limits members s (w ∷ ws) f c a q k =
    let moving = waits-in c.group.state w ws q in
    let P : BlockKind → Type 0 = λ l. IsShown (record c.group { state = next_of (event_of l); active = Some w; hold = hold_by l w.owner }) in
    subst P (sym a.0.line)
    (clear-shown (record c.group { state = state.GroupMoving; active = Some w; hold = None }) (record { sound = refl; free = refl }) (k.clear (ap is_error_stop moving)) refl)

ended-shown : (limits : List Limits) (members : GroupLook) (s : List ℤ) (o : Option Finish) (c : Core) → AreWaiting c.group.axes limits c.waiting →
    (c.waiting ≡ []) ⊎ (c.group.state ≡ state.GroupMoving) → IsShown c.group → IsShown (ended_by members s o c).group
unfolding ended
ended-shown limits members s None c a q k = k
ended-shown limits members s (Some f) c a q k = taken-shown limits members s c.waiting f c a q k

stopping-sound : (s : GroupState) → is_stopping s ≡ true → is_error_stop s ≡ false
stopping-sound state.GroupStopping h = refl
stopping-sound _ h = absurd (cc)

released-shown : (held : Bool) (c : Core) → IsShown c.group → IsShown (released held c).group
released-shown held c k =
    by-if IsShown (leaves_stopping held c.group c.path) (record c.group { state = next_of event.StopReleased; hold = None }) c.group
    (λ h. clear-shown _ (record { sound = refl; free = refl }) (k.clear (stopping-sound c.group.state (left-idle held c.group c.path h).0)) refl)
    (λ h. k)

pub cycle-shown : (members : GroupLook) (c : Core) → IsCoreKept (limits_in members) c → IsShown c.group → IsShown (cycled members c).group
unfolding cycled
cycle-shown members c kept k =
    let read : Core = answered members.error c in
    let r = answered-kept members.error (limits_in members) c kept in
    released-shown members.stop_held (moved members read)
    (ended-shown (limits_in members) members (places_at (path_after read.group read.path) members.setpoints) (ending_of read.group read.path)
    (record read { path = path_after read.group read.path }) r.waiting r.queue (answered-shown members.error c k))

-- a GroupReset
reset-clear : (moved : Bool) (s : GroupState) → is_error_stop (reset_from moved s) ≡ false
reset-clear true state.GroupErrorStop = refl
reset-clear false state.GroupErrorStop = refl
reset-clear true state.GroupDisabled = refl
reset-clear false state.GroupDisabled = refl
reset-clear true state.GroupStandby = refl
reset-clear false state.GroupStandby = refl
reset-clear true state.GroupMoving = refl
reset-clear false state.GroupMoving = refl
reset-clear true state.GroupStopping = refl
reset-clear false state.GroupStopping = refl
reset-clear true state.GroupHoming = refl
reset-clear false state.GroupHoming = refl

reset-stopping : (moved : Bool) (s : GroupState) → is_stopping (reset_from moved s) ≡ false → is_stopping s ≡ false
reset-stopping true state.GroupStopping h = h
reset-stopping false state.GroupStopping h = h
reset-stopping moved state.GroupErrorStop h = refl
reset-stopping moved state.GroupDisabled h = refl
reset-stopping moved state.GroupStandby h = refl
reset-stopping moved state.GroupMoving h = refl
reset-stopping moved state.GroupHoming h = refl

reset-by-shown : (o : Option PendingReset) (axes : List AxisState) (on : Bool) (g : Group) → IsShown g → IsShown (reset_by o axes on g)
reset-by-shown None axes on g k = k
reset-by-shown (Some r) axes on g k = by-if IsShown (may_reset on g) (after_reset axes g) g
    (λ h. record {
      stopped = λ t. absurd (let f : true ≡ false = sym t ∙ reset-clear _ g.state in cc);
      clear = λ t. refl;
      held = λ t. k.held (reset-stopping _ g.state t);
    })
    (λ h. k)

pub reset-shown : (members : GroupLook) (on : Bool) (g : Group) → IsShown g → IsShown (reset_where members on g)
unfolding reset_where
reset-shown members on g k = reset-by-shown g.reset (states_in members) on g k
