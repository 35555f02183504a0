-- What a cycle keeps of a group.
-- for: members_keep_their_limits, groups_stay_kept, courses_end_in_time and others
use Rattle.std.specs.Prelude.{◌≡◌, refl, ◌⊎◌, ℕ, ◌<◌, ◌≤◌, Bool, true, false, not, ◌&&◌, nat_eq, ℤ, pos, ◌≤ℤ◌, ◌+ℤ◌, ◌-ℤ◌, ◌-◌, unsigned_abs, Option, Some, None, is_some, List, [], ◌∷◌, ◌++◌, length, if◌then◌else◌}
use Rattle.std.specs.Ordering.{int_eq}
use Rattle.std.proofs.Common.{◌∙◌, sym, ap, subst, arith, inl, inr}
use Rattle.std.proofs.lemmas.Bool.{and_parts, not-false}
use Rattle.std.proofs.lemmas.Bool.Decides.{Decides-int_eq}
use Rattle.std.proofs.lemmas.Int.{ints, clamps}
use Rattle.buffer_modes.specs.Queue.{active_note}
use Rattle.command_pool.specs.declared.ending.Finish.{Finish}
use Rattle.command_pool.specs.declared.ending.Finish.TheVariants as finish
use Rattle.plc_types.specs.declared.kind.BlockKind.{BlockKind}
use Rattle.plc_types.specs.declared.kind.BlockKind.TheVariants as kind
use Rattle.command_pool.specs.declared.wanted.Wanted.{Wanted}
use Rattle.axis_state.specs.GroupDiagram.{IsFrom, next_of}
use Rattle.axis_state.specs.declared.group_diagram.GroupEvent.TheVariants as event
use Rattle.plc_types.specs.declared.group.GroupState.{GroupState}
use Rattle.plc_types.specs.declared.group.GroupState.TheVariants as state
use Rattle.kin_core.specs.Taken.{taken_step_of}
use Rattle.kin_core.specs.Toward.{toward_zero}
use Rattle.plc_types.specs.declared.limits.Limits.{Limits}
use Rattle.linear_path.specs.Line.{longest_way_of}
use Rattle.linear_path.proofs.LineIsPath.{line_between, line_limits_from, line_limits_to}
use Rattle.linear_path.specs.Path.{AreWithin, IsBetween, limits_at}
use Rattle.group_core.specs.Cores.{Core, ended, ended_by, failed, path_settled, settled, taken_over}
use Rattle.group_core.specs.Cycles.{Advance, advanced, advanced_with, answered, cycled, ending_of, moved, over_at_rest, path_after, released}
use Rattle.group_core.specs.GroupKept.{AreGroupLimits, AreTargets, AreWaiting, IsActive, IsCoreKept, IsCount, IsInState, IsLook, IsPathOf, IsWithin, fits}
use Rattle.group_core.specs.Kinds.{ending_by, event_of, step_by}
use Rattle.group_core.specs.Lines.{MayTakeOver}
use Rattle.group_core.specs.Refusals.{limits_in}
use Rattle.group_core.specs.States.{is_error_stop, is_stopping, may_fail}
use Rattle.group_core.specs.Tracks.{OnPath, is_moving, is_running, moved_by, place_on, places_at}
use Rattle.buffer_modes.specs.Owners.{is_released}
use Rattle.group_core.specs.blocks.Halts.{halt_ending, leaves_stopping}
use Rattle.group_core.specs.declared.group.Group.{Group}
use Rattle.group_core.specs.declared.group.Motion.{Motion}
use Rattle.group_core.specs.declared.look.GroupLook.{GroupLook}
use Rattle.group_core.proofs.KeptCalls.{by-if, failed-kept, line-begun-kept, no-active, none-waits}
use Rattle.group_core.proofs.KeptParts.{Laws, limits-of-path, line-may-begin, path-kept}
use Rattle.group_core.proofs.Places.{place-behind, place-of-axis}

-- the error of a member keeps the group, and what is reported of its axes
pub answered-kept : (error : ℕ) (limits : List Limits) (c : Core) → IsCoreKept limits c → IsCoreKept limits (answered error c)
answered-kept error limits c k =
    by-if (IsCoreKept limits) (not (nat_eq error 0) && may_fail c.group.state) (failed error c) c (λ h. failed-kept error limits c k) (λ h. k)

failed-look : (error : ℕ) (members : GroupLook) (c : Core) → IsLook c.group members → IsLook (failed error c).group members
unfolding failed
failed-look error members c l = record { count = l.count; six = l.six; setpoints = λ h. absurd (cc) }

pub answered-look : (error : ℕ) (members : GroupLook) (c : Core) → IsLook c.group members → IsLook (answered error c).group members
answered-look error members c l =
    by-if (λ (x : Core). IsLook x.group members) (not (nat_eq error 0) && may_fail c.group.state) (failed error c) c (λ h. failed-look error members c l) (λ h. l)

-- a step along the path keeps it
after-path : Laws → (axes : ℕ) (limits : List Limits) (g : Group) (o : Option OnPath) → AreGroupLimits axes limits → ((p : OnPath) → o ≡ Some p → IsPathOf axes limits p) →
    (q : OnPath) → path_after g o ≡ Some q → IsPathOf axes limits q
after-path laws axes limits g None are f q h = absurd (cc)
after-path laws axes limits g (Some p) are f q h =
    let moved : OnPath = record p { motion = (advanced g p.motion).motion } in
    let same : moved ≡ q = cc in
    subst (IsPathOf axes limits) same (path-kept laws axes limits g p are (f p refl))

some-after : (g : Group) (o : Option OnPath) → is_some (path_after g o) ≡ is_some o
some-after g None = refl
some-after g (Some p) = refl

-- a step of 0 leaves the path at rest
toward-rest : (v : ℤ) → v ≡ pos 0 → toward_zero v (pos 0) ≡ pos 0
unfolding toward_zero
toward-rest v e = rw e refl

-- numbers that are tested for being the same
pub int-same : (x y : ℤ) → int_eq x y ≡ true → x ≡ y
int-same x y h = (Decides-int_eq x y).0 h

pub same-int : (x y : ℤ) → x ≡ y → int_eq x y ≡ true
same-int x y h = (Decides-int_eq x y).1 h

pub rests-by : (m : Motion) (step : ℤ) → step ≡ pos 0 → is_running (moved_by step m) ≡ false
rests-by m step e =
    let same : m.place +ℤ step ≡ m.place = omega (arith, ints, e) in
    ap not (same-int (m.place +ℤ step) m.place same)

pub at-rest : (m : Motion) → is_running m ≡ false → m.place ≡ m.previous
at-rest m h = int-same m.place m.previous (not-false (int_eq m.place m.previous) h)

no-step : (step v : ℤ) (n : ℕ) → unsigned_abs step ≤ n → n ≡ 0 → step ≡ pos 0
no-step step v n few e = omega (arith, ints, few, e)

-- a path at rest without a command stays so
stands-still : Laws → (axes : ℕ) (limits : List Limits) (p : OnPath) → AreGroupLimits axes limits → IsPathOf axes limits p → is_running p.motion ≡ false →
    is_running (advanced_with None p.motion).motion ≡ false
stands-still laws axes limits p are k h =
    let m : Motion = p.motion in
    let rest : m.place ≡ m.previous = at-rest m h in
    let zero-step : m.place -ℤ m.previous ≡ pos 0 = omega (arith, ints, rest) in
    let l = limits-of-path axes limits p are k in
    let positive : pos 1 ≤ℤ m.limits.amax = l.amax_positive in
    let within : m.limits.amax ≤ℤ m.limits.dmax = l.amax_within_dmax in
    let slower = laws.slower m.limits m.previous m.place (pos 0) l k.kept (omega (arith, ints)) (omega (arith, ints, positive, within)) in
    let toward = toward-rest (m.place -ℤ m.previous) zero-step in
    let bound : unsigned_abs (taken_step_of m.limits m.previous m.place (pos 0)) ≤ unsigned_abs (m.place -ℤ m.previous) - 0 =
    subst (λ w. unsigned_abs (taken_step_of m.limits m.previous m.place w) ≤ unsigned_abs (m.place -ℤ m.previous) - 0) toward slower in
    rests-by m (taken_step_of m.limits m.previous m.place (pos 0)) (omega (arith, ints, bound, zero-step))

advanced-as : (g : Group) (m : Motion) → is_error_stop g.state ≡ false → advanced g m ≡ advanced_with g.active m
unfolding advanced
advanced-as g m h = rw h refl

stopping-runs : (s : GroupState) → s ≡ state.GroupStopping → is_error_stop s ≡ false
stopping-runs s e = rw e refl

rest-after : Laws → (axes : ℕ) (limits : List Limits) (g : Group) (o : Option OnPath) → AreGroupLimits axes limits → ((p : OnPath) → o ≡ Some p → IsPathOf axes limits p) →
    is_error_stop g.state ≡ false → g.active ≡ None → is_moving o ≡ false → is_moving (path_after g o) ≡ false
rest-after laws axes limits g None are f runs idle h = refl
rest-after laws axes limits g (Some p) are f runs idle h =
    let same : advanced g p.motion ≡ advanced_with None p.motion = advanced-as g p.motion runs ∙ ap (λ a. advanced_with a p.motion) idle in
    ap (λ (a : Advance). is_running a.motion) same ∙ stands-still laws axes limits p are (f p refl) h

-- what a state says of the path after the step
after-state : Laws → (axes : ℕ) (limits : List Limits) (s : GroupState) (g : Group) (o : Option OnPath) → AreGroupLimits axes limits →
    ((p : OnPath) → o ≡ Some p → IsPathOf axes limits p) → g.state ≡ s → IsInState s o g.active → IsInState s (path_after g o) g.active
after-state laws axes limits state.GroupDisabled g o are f e i = record { off = ap (path_after g) i.off; idle = i.idle }
after-state laws axes limits state.GroupStandby g o are f e i = record { off = ap (path_after g) i.off; idle = i.idle }
after-state laws axes limits state.GroupMoving g o are f e i = record { on = some-after g o ∙ i.on; led = i.led }
after-state laws axes limits state.GroupStopping g o are f e i = record {
  on = some-after g o ∙ i.on;
  rests = λ idle. rest-after laws axes limits g o are f (stopping-runs g.state e) idle (i.rests idle);
}
after-state laws axes limits state.GroupErrorStop g o are f e i = i
after-state laws axes limits state.GroupHoming g o are f e i = absurd i

pub stepped-kept : Laws → (limits : List Limits) (c : Core) → AreGroupLimits c.group.axes limits → IsCoreKept limits c →
    IsCoreKept limits (record c { path = path_after c.group c.path })
stepped-kept laws limits c are k = record {
  axes = k.axes;
  limits_are = k.limits_are;
  state = after-state laws c.group.axes limits c.group.state c.group c.path are k.path refl k.state;
  active = k.active;
  path = after-path laws c.group.axes limits c.group c.path are k.path;
  waiting = k.waiting;
  queue = k.queue;
}

-- a GroupStop that is done leaves the path at rest
pub done-step : (step : ℤ) (f : Finish) → halt_ending step ≡ Some f → step ≡ pos 0
done-step step f h = by-test (int_eq step (pos 0)) refl h
  where
    by-test : (b : Bool) → int_eq step (pos 0) ≡ b → (if b then Some finish.Done else None) ≡ Some f → step ≡ pos 0
    by-test true e g = int-same step (pos 0) e
    by-test false e g = absurd (cc)

stop-rests : (k : BlockKind) (w : Wanted) (m : Motion) (f : Finish) → fits state.GroupStopping k ≡ true → ending_by k m (step_by k w m) ≡ Some f →
    is_running (moved_by (step_by k w m) m) ≡ false
stop-rests kind.GroupStop w m f fit h = rests-by m (step_by kind.GroupStop w m) (done-step (step_by kind.GroupStop w m) f h)
stop-rests _ w m f fit h = absurd (cc)

stop-with : (active : Option Wanted) (m : Motion) (f : Finish) → ((w : Wanted) → active ≡ Some w → IsActive state.GroupStopping w) →
    (advanced_with active m).ending ≡ Some f → is_running (advanced_with active m).motion ≡ false
stop-with None m f a h = absurd (cc)
stop-with (Some w) m f a h = stop-rests w.kind w m f (a w refl).fitting h

rests-done : (g : Group) (o : Option OnPath) (f : Finish) → ((w : Wanted) → g.active ≡ Some w → IsActive g.state w) → ending_of g o ≡ Some f →
    g.state ≡ state.GroupStopping → is_moving (path_after g o) ≡ false
rests-done g None f a h e = absurd (cc)
rests-done g (Some p) f a h e =
    let same = advanced-as g p.motion (stopping-runs g.state e) in
    ap (λ (x : Advance). is_running x.motion) same
    ∙ stop-with g.active p.motion f (λ w i. subst (λ s. IsActive s w) e (a w i)) (ap (λ (x : Advance). x.ending) (sym same) ∙ h)

-- where the last command is done
settled-state : (s : GroupState) (o : Option OnPath) (active : Option Wanted) → IsInState s o active → (s ≡ state.GroupStopping → is_moving o ≡ false) →
    IsInState (settled s) (path_settled s o) None
settled-state state.GroupDisabled o active i r = record { off = i.off; idle = refl }
settled-state state.GroupStandby o active i r = record { off = i.off; idle = refl }
settled-state state.GroupMoving o active i r = record { off = refl; idle = refl }
settled-state state.GroupStopping o active i r = record { on = i.on; rests = λ e. r refl }
settled-state state.GroupErrorStop o active i r = refl
settled-state state.GroupHoming o active i r = absurd i

settled-path : (axes : ℕ) (limits : List Limits) (s : GroupState) (o : Option OnPath) → ((p : OnPath) → o ≡ Some p → IsPathOf axes limits p) →
    (p : OnPath) → path_settled s o ≡ Some p → IsPathOf axes limits p
settled-path axes limits state.GroupMoving o f p h = absurd (cc)
settled-path axes limits state.GroupDisabled o f p h = f p h
settled-path axes limits state.GroupStandby o f p h = f p h
settled-path axes limits state.GroupStopping o f p h = f p h
settled-path axes limits state.GroupErrorStop o f p h = f p h
settled-path axes limits state.GroupHoming o f p h = f p h

-- where the axes stand on a path lies within their limits
between-within : (l : Limits) (start target z : ℤ) → AreWithin l start target → IsBetween start target z → IsWithin l z
between-within l start target z w b = record { above = omega (arith, ints, clamps); below = omega (arith, ints, clamps) }

pub places-within : (axes : ℕ) (limits : List Limits) (p : OnPath) (setpoints : List ℤ) → IsCount axes → AreGroupLimits axes limits → IsPathOf axes limits p →
    length setpoints ≡ 6 → AreTargets axes limits setpoints → AreTargets axes limits (places_at (Some p) setpoints)
places-within axes limits p setpoints count are k six t =
    let hi : p.motion.limits.hi ≡ pos (longest_way_of p.way.count p.way.starts p.way.targets) =
    ap (λ (l : Limits). l.hi) k.limits_are ∙ line_limits_to p.way.count p.way.starts p.way.targets limits in
    let lo : p.motion.limits.lo ≡ pos 0 = ap (λ (l : Limits). l.lo) k.limits_are ∙ line_limits_from p.way.count p.way.starts p.way.targets limits in
    let above = k.kept.above in
    let below = k.kept.below in
    let same = k.count in
    let most = count.most in
    record {
      within = λ axis inside.
          (let here : axis < p.way.count = omega (arith, inside, same) in
          subst (IsWithin (limits_at limits axis))
          (sym (place-of-axis p.way.count (place_on p.way) p.motion.place setpoints axis (omega (arith, same, most, six)) here))
          (between-within (limits_at limits axis) _ _ _ (k.within axis inside)
          (line_between p.way.count p.way.starts p.way.targets axis p.motion.place here (omega (arith, ints, lo, above)) (omega (arith, ints, hi, below)))));
      others = λ axis behind. place-behind p.way.count (place_on p.way) p.motion.place setpoints axis (omega (arith, behind, same)) ∙ t.others axis behind;
    }

-- a command that waits may take over, where the group moves
pub waits-in : (s : GroupState) (w : Wanted) (ws : List Wanted) → (w ∷ ws ≡ []) ⊎ (s ≡ state.GroupMoving) → s ≡ state.GroupMoving
waits-in s w ws (inl e) = absurd (cc)
waits-in s w ws (inr e) = e

line-from-moving : (s : GroupState) (k : BlockKind) → s ≡ state.GroupMoving → k ≡ kind.MoveLinearAbsolute → IsFrom s (event_of k)
line-from-moving s k e f = subst (λ t. IsFrom t (event_of k)) (sym e) (subst (λ j. IsFrom state.GroupMoving (event_of j)) (sym f) (state.GroupMoving, (inr refl, refl)))

-- what is known of a group that has taken its step
pub record IsStepped (members : GroupLook) (setpoints : List ℤ) (c : Core) : Type 0 where
  pub look : IsLook c.group members
  pub kept : IsCoreKept (limits_in members) c
  pub setpoints_are : c.group.state ≡ state.GroupMoving → AreTargets c.group.axes (limits_in members) setpoints

may-take : (members : GroupLook) (setpoints : List ℤ) (axes : ℕ) (s : GroupState) (ws : List Wanted) → members.count ≡ axes → IsCount axes →
    AreGroupLimits axes (limits_in members) → AreWaiting axes (limits_in members) ws → (ws ≡ []) ⊎ (s ≡ state.GroupMoving) →
    (s ≡ state.GroupMoving → AreTargets axes (limits_in members) setpoints) → MayTakeOver members setpoints s ws
may-take members setpoints axes s [] e count are k q t = tt
may-take members setpoints axes s (w ∷ ws) e count are k q t =
    let moving = waits-in s w ws q in
    (line-from-moving s w.kind moving k.0.line, line-may-begin axes members setpoints w.targets e count are (t moving) k.0.targets)

pub may-take-over : (members : GroupLook) (setpoints : List ℤ) (c : Core) → IsStepped members setpoints c → MayTakeOver members setpoints c.group.state c.waiting
may-take-over members setpoints c a =
    may-take members setpoints c.group.axes c.group.state c.waiting a.look.count a.kept.axes a.kept.limits_are a.kept.waiting a.kept.queue a.setpoints_are

-- the next command takes over, or the group settles
taken-kept : Laws → (members : GroupLook) (setpoints : List ℤ) (ws : List Wanted) (f : Finish) (c : Core) → IsStepped members setpoints c → c.waiting ≡ ws →
    (c.group.state ≡ state.GroupStopping → is_moving c.path ≡ false) →
    IsCoreKept (limits_in members) (taken_over members setpoints ws (record c {
      group = record c.group { active = None };
      notes = c.notes ++ active_note f c.group.active;
    }))
taken-kept laws members setpoints [] f c a e r = record {
  axes = a.kept.axes;
  limits_are = a.kept.limits_are;
  state = settled-state c.group.state c.path c.group.active a.kept.state r;
  active = λ w h. absurd (cc);
  path = settled-path c.group.axes (limits_in members) c.group.state c.path a.kept.path;
  waiting = a.kept.waiting;
  queue = inl e;
}
taken-kept laws members setpoints (w ∷ ws) f c a e r =
    let P : List Wanted → Type 0 = AreWaiting c.group.axes (limits_in members) in
    let waits = subst P e a.kept.waiting in
    let moving = waits-in c.group.state w ws (subst (λ l. (l ≡ []) ⊎ (c.group.state ≡ state.GroupMoving)) e a.kept.queue) in
    line-begun-kept laws.standing members setpoints w (record c {
      group = record c.group { active = None };
      waiting = ws;
      notes = c.notes ++ active_note f c.group.active;
    }) a.kept.axes a.look.count a.kept.limits_are waits.1 (a.setpoints_are moving) waits.0

ended-by-kept : Laws → (members : GroupLook) (setpoints : List ℤ) (o : Option Finish) (c : Core) → IsStepped members setpoints c →
    ((f : Finish) → o ≡ Some f → c.group.state ≡ state.GroupStopping → is_moving c.path ≡ false) → IsCoreKept (limits_in members) (ended_by members setpoints o c)
unfolding ended
ended-by-kept laws members setpoints None c a r = a.kept
ended-by-kept laws members setpoints (Some f) c a r = taken-kept laws members setpoints c.waiting f c a refl (r f refl)

-- the axes of a group that moves stand within their limits after the step
stepped-places : (members : GroupLook) (c : Core) → IsLook c.group members → IsCoreKept (limits_in members) (record c { path = path_after c.group c.path }) →
    (o : Option OnPath) → path_after c.group c.path ≡ o → c.group.state ≡ state.GroupMoving → AreTargets c.group.axes (limits_in members) (places_at o members.setpoints)
stepped-places members c l k o e m = by o e
  where
    standing : AreTargets c.group.axes (limits_in members) members.setpoints
    standing = l.setpoints (rw m refl)

    by : (o : Option OnPath) → path_after c.group c.path ≡ o → AreTargets c.group.axes (limits_in members) (places_at o members.setpoints)
    by None e = standing
    by (Some p) e = places-within c.group.axes (limits_in members) p members.setpoints k.axes k.limits_are (k.path p e) l.six standing

pub stepped : Laws → (members : GroupLook) (c : Core) → IsLook c.group members → IsCoreKept (limits_in members) c →
    IsStepped members (places_at (path_after c.group c.path) members.setpoints) (record c { path = path_after c.group c.path })
stepped laws members c l k =
    let after = stepped-kept laws (limits_in members) c k.limits_are k in
    record {
      look = l;
      kept = after;
      setpoints_are = stepped-places members c l after (path_after c.group c.path) refl;
    }

pub moved-kept : Laws → (members : GroupLook) (c : Core) → IsLook c.group members → IsCoreKept (limits_in members) c → IsCoreKept (limits_in members) (moved members c)
moved-kept laws members c l k =
    ended-by-kept laws members (places_at (path_after c.group c.path) members.setpoints) (ending_of c.group c.path) (record c { path = path_after c.group c.path })
    (stepped laws members c l k) (λ f e s. rests-done c.group c.path f k.active e s)

-- a group that leaves GroupStopping has no command
none-active : (active : Option Wanted) → not (is_some active) ≡ true → active ≡ None
none-active None h = refl
none-active (Some w) h = absurd (cc)

pub left-idle : (held : Bool) (g : Group) (o : Option OnPath) → leaves_stopping held g o ≡ true → (is_stopping g.state ≡ true) × (g.active ≡ None)
left-idle held g o h =
    let p = (and_parts ((is_stopping g.state && not (is_some g.active)) && not (is_moving o)) (is_released g.hold held) h).0 in
    let q = and_parts (is_stopping g.state) (not (is_some g.active)) (and_parts (is_stopping g.state && not (is_some g.active)) (not (is_moving o)) p).0 in
    (q.0, none-active g.active q.1)

not-moving : (s : GroupState) → is_stopping s ≡ true → s ≡ state.GroupMoving → ⊥
not-moving state.GroupMoving h e = absurd (cc)
not-moving _ h e = absurd (cc)

released-where : (b : Bool) (limits : List Limits) (c : Core) → IsCoreKept limits c → (b ≡ true → (is_stopping c.group.state ≡ true) × (c.group.active ≡ None)) →
    IsCoreKept limits (record c {
      group = (if b then record c.group { state = next_of event.StopReleased; hold = None } else c.group);
      path = (if b then None else c.path);
    })
released-where true limits c k f = record {
  axes = k.axes;
  limits_are = k.limits_are;
  state = record { off = refl; idle = (f refl).1 };
  active = no-active state.GroupStandby c.group.active (f refl).1;
  path = λ p e. absurd (cc);
  waiting = k.waiting;
  queue = inl (none-waits c.group.state c.waiting k.queue (not-moving c.group.state (f refl).0));
}
released-where false limits c k f = record {
  axes = k.axes;
  limits_are = k.limits_are;
  state = k.state;
  active = k.active;
  path = k.path;
  waiting = k.waiting;
  queue = k.queue;
}

pub released-kept : (held : Bool) (limits : List Limits) (c : Core) → IsCoreKept limits c → IsCoreKept limits (released held c)
released-kept held limits c k = released-where (leaves_stopping held c.group c.path) limits c k (left-idle held c.group c.path)

-- in GroupErrorStop a group may lose its path
error-state : (s : GroupState) (o : Option OnPath) (active : Option Wanted) → is_error_stop s ≡ true → IsInState s o active → IsInState s None active
error-state state.GroupErrorStop o active h i = i
error-state _ o active h i = absurd (cc)

over-where : (b : Bool) (limits : List Limits) (c : Core) → IsCoreKept limits c → (b ≡ true → is_error_stop c.group.state ≡ true) →
    IsCoreKept limits (record c { path = (if b then None else c.path) })
over-where true limits c k f = record {
  axes = k.axes;
  limits_are = k.limits_are;
  state = error-state c.group.state c.path c.group.active (f refl) k.state;
  active = k.active;
  path = λ p e. absurd (cc);
  waiting = k.waiting;
  queue = k.queue;
}
over-where false limits c k f = record {
  axes = k.axes;
  limits_are = k.limits_are;
  state = k.state;
  active = k.active;
  path = k.path;
  waiting = k.waiting;
  queue = k.queue;
}

pub over-kept : (limits : List Limits) (c : Core) → IsCoreKept limits c → IsCoreKept limits (over_at_rest c)
over-kept limits c k =
    over-where (is_error_stop c.group.state && not (is_moving c.path)) limits c k (λ h. (and_parts (is_error_stop c.group.state) (not (is_moving c.path)) h).0)

pub cycled-kept : Laws → (members : GroupLook) (c : Core) → IsLook c.group members → IsCoreKept (limits_in members) c → IsCoreKept (limits_in members) (cycled members c)
unfolding cycled
cycled-kept laws members c l k =
    let read : Core = answered members.error c in
    let moves : Core = moved members read in
    over-kept (limits_in members) (released members.stop_held moves) (released-kept members.stop_held (limits_in members) moves
    (moved-kept laws members read (answered-look members.error members c l) (answered-kept members.error (limits_in members) c k)))
