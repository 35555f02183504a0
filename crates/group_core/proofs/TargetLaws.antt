-- A line leads to its targets.
-- for: lines_lead_to_their_targets
use Rattle.std.specs.Ordering.{int_eq}
use Rattle.std.specs.Prelude.{◌+ℤ◌, ◌<◌, length, ◌≤◌, ◌≡◌, refl, ℕ, Bool, true, false, ◌&&◌, ◌||◌, not, nat_eq, ℤ, pos, unsigned_abs, Option, Some, None, is_none, List, [], ◌∷◌, if◌then◌else◌}
use Rattle.std.proofs.Common.{arith, ap, sym, subst, ◌∙◌, inl, inr}
use Rattle.std.proofs.lemmas.Bool.{cases_Bool, eqb-true}
use Rattle.std.proofs.lemmas.Int.{ints}
use Rattle.buffer_modes.specs.Queue.{is_aborting}
use Rattle.command_pool.specs.declared.ending.Finish.{Finish}
use Rattle.command_pool.specs.declared.ending.Finish.TheVariants as finish
use Rattle.plc_types.specs.declared.kind.BlockKind.{BlockKind}
use Rattle.plc_types.specs.declared.kind.BlockKind.TheVariants as kind
use Rattle.command_pool.specs.declared.wanted.Wanted.{Wanted}
use Rattle.plc_types.specs.declared.limits.Limits.{Limits}
use Rattle.linear_path.specs.Line.{coordinate_of, longest_way_of, place_between}
use Rattle.linear_path.proofs.LineIsPath.{line_ends, line_limits_to}
use Rattle.buffer_modes.specs.Owners.{active_without}
use Rattle.group_core.specs.Calls.{admitted_by, asked_in, braked_for, commanded, commanded_by, group_without, line_joined, powered_off, queued, waits_for_rest}
use Rattle.buffer_modes.specs.Fates.{Fate, replaced}
use Rattle.group_core.specs.Fates.{cycle_fate, ending_fate, is_failing}
use Rattle.plc_types.specs.declared.group.GroupState.{GroupState}
use Rattle.plc_types.specs.declared.group.GroupState.TheVariants as state
use Rattle.group_core.specs.Cores.{Core, ended, ended_by, failed, line_begun, settled_on, taken_over}
use Rattle.group_core.specs.Cycles.{Advance, advanced, advanced_with, answered, cycled, moved, opening, over_at_rest, path_after, path_released, path_taken, released, step_of, ending_of}
use Rattle.group_core.specs.GroupKept.{IsCoreKept, IsInState, IsPathOf, is_within}
use Rattle.group_core.specs.Kinds.{ending_by}
use Rattle.group_core.specs.Refusals.{limits_in, refusal_of}
use Rattle.group_core.specs.States.{is_error_stop, may_fail}
use Rattle.group_core.specs.Targets.{EndsAtTargets, IsDoneOn, IsSameWay, IsToward}
use Rattle.group_core.specs.Tracks.{OnPath, Way, braking_step_of, is_moving, moved_by, place_on, places_at}
use Rattle.group_core.specs.blocks.Halts.{leaves_stopping}
use Rattle.group_core.specs.blocks.Line.{braking_for, way_to}
use Rattle.group_core.specs.declared.group.Group.{Group}
use Rattle.group_core.specs.declared.group.Motion.{Motion}
use Rattle.group_core.specs.declared.look.GroupLook.{GroupLook}
use Rattle.group_core.specs.declared.reason.Reason.{Reason}
use Rattle.group_core.proofs.KeptCycles.{int-same}
use Rattle.group_core.proofs.Places.{place-of-axis}
use Rattle.group_core.proofs.Ends.{released-active}
use Rattle.group_core.proofs.MemberLaws.{same-path}
use Rattle.group_core.proofs.StepLaws.{not-failing}

-- a group goes toward its line's targets
abbrev Goes : Core → Type 0
Goes c = IsToward c.group.active c.path

-- without a command, by one that is no line, and without a path there is nothing to say
none_toward : (p : Option OnPath) → IsToward None p
none_toward p w on e k h = absurd (cc)

other_toward : (w : Wanted) (k : BlockKind) (p : Option OnPath) → w.kind ≡ k →
    (k ≡ kind.MoveLinearAbsolute → ⊥) → IsToward (Some w) p
other_toward w k p is other v on e line h =
    let same : w ≡ v = cc in
    absurd (other (sym is ∙ ap (λ (x : Wanted). x.kind) same ∙ line))

off_toward : (active : Option Wanted) → IsToward active None
off_toward active w on e k h = absurd (cc)

-- a line that begins
begun_toward : (w : Wanted) (m : Motion) (count : ℕ) (setpoints : List ℤ) →
    IsToward (Some w) (Some (record { way = way_to count setpoints w; motion = m }))
begun_toward w m count setpoints v on e line h =
    let same : w ≡ v = cc in
    let path : record { way = way_to count setpoints w; motion = m } ≡ on = cc in
    sym (ap (λ (x : OnPath). x.way.targets) path) ∙ ap (λ (x : Wanted). x.targets) same

by_if : {X : Type 0} (P : X → Type 0) (b : Bool) (x y : X) → P x → P y → P (if b then x else y)
by_if P true x y h k = h
by_if P false x y h k = k

-- what brakes before a line is no line
braking_toward : (active : Option Wanted) (p : Option OnPath) → IsToward (braking_for active) p
braking_toward None p = none_toward p
braking_toward (Some w) p = other_toward (record w { kind = kind.GroupHalt; owner = None })
    kind.GroupHalt p refl (λ e. absurd (cc))

-- a line that joins the others
queued_toward : (w : Wanted) (c : Core) (aborts : Bool) (active : Option Wanted) →
    is_aborting w.mode ≡ aborts → c.group.active ≡ active →
    (aborts || is_none active) ≡ false → Goes c → Goes (queued w c)
queued_toward w c true active a e out h = absurd (cc)
queued_toward w c false None a e out h = absurd (cc)
queued_toward w c false (Some v) a e out h =
    let is : (queued w c).group.active ≡ c.group.active = rw (a, e) refl in
    subst (λ o. IsToward o c.path) (sym is) h

joined_toward : (members : GroupLook) (w : Wanted) (c : Core) → Goes c →
    Goes (line_joined members w c)
joined_toward members w c h =
    by_if Goes (waits_for_rest w c.path) (braked_for w c) _ (braking_toward c.group.active c.path)
    (elim (cases_Bool (is_aborting w.mode || is_none c.group.active)) [
      | inl now ↦ subst (λ b. Goes (if b then line_begun members members.setpoints w (queued w c) else queued w c)) (sym now)
          (begun_toward w _ members.count members.setpoints)
      | inr waits ↦ subst (λ b. Goes (if b then line_begun members members.setpoints w (queued w c) else queued w c)) (sym waits)
          (queued_toward w c (is_aborting w.mode) c.group.active refl refl waits h)
    ])

admitted_toward : (k : BlockKind) (members : GroupLook) (w : Wanted) (c : Core) → w.kind ≡ k →
    Goes c → Goes (admitted_by k members w c)
admitted_toward kind.GroupEnable members w c is h = h
admitted_toward kind.GroupDisable members w c is h = off_toward c.group.active
admitted_toward kind.GroupReset members w c is h = h
admitted_toward kind.GroupStop members w c is h = other_toward w kind.GroupStop _ is
    (λ e. absurd (cc))
admitted_toward kind.GroupHalt members w c is h = other_toward w kind.GroupHalt _ is
    (λ e. absurd (cc))
admitted_toward kind.MoveLinearAbsolute members w c is h = joined_toward members w c h
admitted_toward _ members w c is h = h

asked_toward : (o : Option Reason) (members : GroupLook) (w : Wanted) (c : Core) → Goes c →
    Goes (commanded_by o members w c)
asked_toward None members w c h = admitted_toward w.kind members w c refl h
asked_toward (Some r) members w c h = h

pub command-toward : (w : Wanted) (jerk : ℤ) (members : GroupLook) (c : Core) → Goes c →
    Goes (commanded w jerk members c)
unfolding commanded
command-toward w jerk members c h = asked_toward (refusal_of (asked_in c w jerk members)) members w
    c h

-- an error
failed_toward : (n : ℕ) (c : Core) → Goes (failed n c)
unfolding failed
failed_toward n c = none_toward c.path

pub off-toward : (c : Core) → Goes c → Goes (powered_off c)
unfolding powered_off
off-toward c h = by_if Goes (may_fail c.group.state) (failed 102 c) c (failed_toward 102 c) h

answered_toward : (error : ℕ) (c : Core) → Goes c → Goes (answered error c)
answered_toward error c h = by_if Goes (not (nat_eq error 0) && may_fail c.group.state)
    (failed error c) c (failed_toward error c) h

-- an owner that is taken away
detached_toward : (owner : ℕ) (active : Option Wanted) (p : Option OnPath) → IsToward active p →
    IsToward (active_without owner active) p
detached_toward owner None p h v on e line path = absurd (cc)
detached_toward owner (Some w) p h v on e line path =
    let same : record w { owner = v.owner } ≡ v = cc in
    let kind_is : w.kind ≡ kind.MoveLinearAbsolute = ap (λ (x : Wanted). x.kind) same ∙ line in
    h w on refl kind_is path ∙ ap (λ (x : Wanted). x.targets) same

pub detach-toward : (owner : ℕ) (g : Group) (p : Option OnPath) → IsToward g.active p →
    IsToward (group_without owner g).active p
unfolding group_without
detach-toward owner g p h = detached_toward owner g.active p h

-- a step along the path keeps its way and its limits
with_same : (o : Option Wanted) (way : Way) (m : Motion) →
    IsSameWay (record { way = way; motion = m })
    (record { way = way; motion = (advanced_with o m).motion })
with_same None way m = record { way = refl; limits = refl; previous = refl }
with_same (Some w) way m = record { way = refl; limits = refl; previous = refl }

step_same : (g : Group) (p : OnPath) →
    IsSameWay p (record p { motion = (advanced g p.motion).motion })
unfolding advanced
step_same g p = by_if (λ (x : Advance). IsSameWay p (record p { motion = x.motion }))
    (is_error_stop g.state) _ _
    (record { way = refl; limits = refl; previous = refl })
    (let s = with_same g.active p.way p.motion in
    record { way = refl; limits = s.limits; previous = s.previous })

after_toward : (g : Group) (active : Option Wanted) (p : Option OnPath) → IsToward active p →
    IsToward active (path_after g p)
after_toward g active None h w on e line path = absurd (cc)
after_toward g active (Some p) h w on e line path =
    let same : record p { motion = (advanced g p.motion).motion } ≡ on = cc in
    sym (ap (λ (x : OnPath). x.way.targets) same) ∙ h w p e line refl

taken_toward : (members : GroupLook) (setpoints : List ℤ) (ws : List Wanted) (c : Core) →
    c.group.active ≡ None → Goes (taken_over members setpoints ws c)
taken_toward members setpoints [] c none = subst (λ o. IsToward o (settled_on c).path) (sym none)
    (none_toward (settled_on c).path)
taken_toward members setpoints (w ∷ ws) c none = begun_toward w _ members.count setpoints

ended_toward : (members : GroupLook) (setpoints : List ℤ) (o : Option Finish) (c : Core) → Goes c →
    Goes (ended_by members setpoints o c)
unfolding ended
ended_toward members setpoints None c h = h
ended_toward members setpoints (Some f) c h = taken_toward members setpoints c.waiting _ refl

moved_toward : (members : GroupLook) (c : Core) → Goes c → Goes (moved members c)
moved_toward members c h =
    ended_toward members _ _ (record c { path = path_after c.group c.path })
    (after_toward c.group c.group.active c.path h)

released_toward : (held : Bool) (c : Core) → Goes c → Goes (released held c)
released_toward held c h =
    subst (λ o. IsToward o (path_released held c.group c.path))
    (sym (released-active held c.group c.path))
    (by_if (IsToward c.group.active) (leaves_stopping held c.group c.path) None c.path
    (off_toward c.group.active) h)

over_toward : (c : Core) → Goes c → Goes (over_at_rest c)
over_toward c h = by_if (IsToward c.group.active)
    (is_error_stop c.group.state && not (is_moving c.path)) None c.path
    (off_toward c.group.active) h

pub cycle-toward : (members : GroupLook) (c : Core) → Goes c → Goes (cycled members c)
unfolding cycled
cycle-toward members c h =
    let first = answered members.error c in
    let second = moved members first in
    over_toward (released members.stop_held second)
    (released_toward members.stop_held second
    (moved_toward members first (answered_toward members.error c h)))

pub opens-toward : (axes : ℕ) → Goes (opening axes)
opens-toward axes = none_toward None

-- the path on which the axes take their places in a cycle
taken_way : (g : Group) (o : Option OnPath) (p q : OnPath) → o ≡ Some p → path_after g o ≡ Some q →
    IsSameWay p q
taken_way g None p q e f = absurd (cc)
taken_way g (Some r) p q e f =
    let here : r ≡ p = cc in
    let there : record r { motion = (advanced g r.motion).motion } ≡ q = cc in
    subst (λ x. IsSameWay x q) here (subst (IsSameWay r) there (step_same g r))

pub takes-way : (members : GroupLook) (c : Core) (p q : OnPath) → c.path ≡ Some p →
    path_taken members c ≡ Some q → IsSameWay p q
takes-way members c p q e f =
    let first = answered members.error c in
    taken_way first.group first.path p q (same-path members.error c ∙ e) f

-- at the end of a path each axis stands at its target
pub ends-at-targets : (limits : List Limits) (axes : ℕ) (p : OnPath) → IsPathOf axes limits p →
    EndsAtTargets axes p
ends-at-targets limits axes p k axis l =
    let hi : p.motion.limits.hi ≡ pos (longest_way_of p.way.count p.way.starts p.way.targets) =
    ap (λ (x : Limits). x.hi) k.limits_are ∙ line_limits_to p.way.count p.way.starts
    p.way.targets limits in
    let same = k.count in
    ap (λ z. place_between (coordinate_of p.way.starts axis) (coordinate_of p.way.targets axis)
    (longest_way_of p.way.count p.way.starts p.way.targets) (unsigned_abs z)) hi
    ∙ line_ends p.way.count p.way.starts p.way.targets axis (omega (arith, l, same))

-- where the axes take their places
pub at-places : (members : GroupLook) (c : Core) (q : OnPath) (axis : ℕ) →
    path_taken members c ≡ Some q → axis < q.way.count → q.way.count ≤ 6 →
    length members.setpoints ≡ 6 → coordinate_of (step_of members c).places axis ≡ place_on q.way
    axis q.motion.place
unfolding step_of
at-places members c q axis e l few six =
    ap (λ o. coordinate_of (places_at o members.setpoints) axis) e
    ∙ place-of-axis q.way.count (place_on q.way) q.motion.place members.setpoints axis
    (omega (arith, few, six)) l

-- a command that is done
replaced_done : (n : ℕ) (o : Option Wanted) →
    (replaced (finish.Error n) o None).ends ≡ Some finish.Done → ⊥
replaced_done n None e = absurd (cc)
replaced_done n (Some w) e = absurd (cc)

ending_done : (o : Option Finish) (ws : List Wanted) → (ending_fate o ws).ends ≡ Some finish.Done →
    o ≡ Some finish.Done
ending_done None ws e = absurd (cc)
ending_done (Some f) ws e = e

if_else : {X : Type 0} (P : X → Type 0) (b : Bool) (x y : X) → P (if b then x else y) → (P x → ⊥) →
    (b ≡ false) × P y
if_else P true x y h out = absurd (out h)
if_else P false x y h out = (refl, h)

is_done : (members : GroupLook) (c : Core) → (cycle_fate members c).ends ≡ Some finish.Done →
    (is_failing members c ≡ false) × (ending_of c.group c.path ≡ Some finish.Done)
unfolding cycle_fate
is_done members c e =
    let both = if_else (λ (f : Fate). f.ends ≡ Some finish.Done) (is_failing members c) _ _ e
    (replaced_done members.error c.group.active) in
    (both.0, ending_done (ending_of c.group c.path) c.waiting both.1)

-- what its step was
record IsLast (w : Wanted) (m : Motion) (after : Motion) : Type 0 where
  rests : after.place ≡ after.previous
  ends : w.kind ≡ kind.MoveLinearAbsolute → after.place ≡ m.limits.hi

no_step : (z step : ℤ) → step ≡ pos 0 → z +ℤ step ≡ z
no_step z step e = omega (arith, ints, e)

line_last : (w : Wanted) (m : Motion) (step : ℤ) (at rests : Bool) →
    int_eq m.place m.limits.hi ≡ at → int_eq step (pos 0) ≡ rests →
    (if at && rests then Some finish.Done else None) ≡ Some finish.Done →
    IsLast w m (moved_by step m)
line_last w m step true true a r e =
    let zero = int-same step (pos 0) r in
    record {
      rests = no_step m.place step zero;
      ends = λ line. no_step m.place step zero
          ∙ int-same m.place m.limits.hi a;
    }
line_last w m step true false a r e = absurd (cc)
line_last w m step false rests a r e = absurd (cc)

-- whether a kind is a line
abbrev is_line : BlockKind → Bool
is_line kind.MoveLinearAbsolute = true
is_line k = false

halt_last : (w : Wanted) (m : Motion) (step : ℤ) (rests : Bool) →
    (w.kind ≡ kind.MoveLinearAbsolute → ⊥) → int_eq step (pos 0) ≡ rests →
    (if rests then Some finish.Done else None) ≡ Some finish.Done → IsLast w m (moved_by step m)
halt_last w m step true other r e =
    record {
      rests = no_step m.place step (int-same step (pos 0) r);
      ends =
          λ line. absurd (other line);
    }
halt_last w m step false other r e = absurd (cc)

not_line : (k : BlockKind) → is_line k ≡ false → k ≡ kind.MoveLinearAbsolute → ⊥
not_line k is e = absurd (let x : true ≡ false = sym (ap is_line e) ∙ is in cc)

last_by : (k : BlockKind) (w : Wanted) (m : Motion) (step : ℤ) → w.kind ≡ k →
    ending_by k m step ≡ Some finish.Done → IsLast w m (moved_by step m)
last_by kind.MoveLinearAbsolute w m step is e = line_last w m step (int_eq m.place m.limits.hi)
    (int_eq step (pos 0)) refl refl e
last_by other w m step is e = halt_last w m step (int_eq step (pos 0))
    (λ line. not_line other refl (sym is ∙ line)) refl e

last_with : (o : Option Wanted) (w : Wanted) (m : Motion) → o ≡ Some w →
    (advanced_with o m).ending ≡ Some finish.Done → IsLast w m (advanced_with o m).motion
last_with None w m a e = absurd (cc)
last_with (Some v) w m a e = let same : v ≡ w =
    cc in subst (λ x. IsLast x m (advanced_with (Some v) m).motion) same
    (last_by v.kind v m _ refl e)

last_if : (b : Bool) (g : Group) (w : Wanted) (m : Motion) → g.active ≡ Some w →
    (if b then record { motion = moved_by (braking_step_of m.limits.dmax m) m; ending = None } else
    advanced_with g.active m).ending ≡ Some finish.Done →
    IsLast w m (if b then record {
      motion = moved_by (braking_step_of m.limits.dmax m) m;
      ending =
          None;
    } else advanced_with g.active m).motion
last_if true g w m a e = absurd (cc)
last_if false g w m a e = last_with g.active w m a e

last_step : (g : Group) (w : Wanted) (m : Motion) → g.active ≡ Some w →
    (advanced g m).ending ≡ Some finish.Done → IsLast w m (advanced g m).motion
unfolding advanced
last_step g w m a e = last_if (is_error_stop g.state) g w m a e

-- an active command has a group that lives
pub lives-active : (s : GroupState) (p : Option OnPath) (active : Option Wanted) (w : Wanted) →
    IsInState s p active → active ≡ Some w → (is_within s ≡ true) × (may_fail s ≡ true)
lives-active state.GroupDisabled p active w h a =
    absurd (let n = h.idle in let x : None ≡ Some w = sym n ∙ a in cc)
lives-active state.GroupStandby p active w h a =
    absurd (let n = h.idle in let x : None ≡ Some w = sym n ∙ a in cc)
lives-active state.GroupMoving p active w h a = (refl, refl)
lives-active state.GroupHoming p active w h a = elim h [ ]
lives-active state.GroupStopping p active w h a = (refl, refl)
lives-active state.GroupErrorStop p active w h a = absurd (let x : None ≡ Some w = sym h ∙ a in cc)

pub no-error : (error : ℕ) (none may : Bool) → nat_eq error 0 ≡ none → may ≡ true →
    (not none && may) ≡ false → error ≡ 0
no-error error true may z m e = eqb-true error 0 z
no-error error false true z m e = absurd (cc)
no-error error false false z m e = absurd (cc)

done_on : (members : GroupLook) (c : Core) (w : Wanted) (o : Option OnPath) → c.path ≡ o →
    IsCoreKept (limits_in members) c → c.group.active ≡ Some w →
    is_failing members c ≡ false → ending_of c.group o ≡ Some finish.Done → IsDoneOn members c w
done_on members c w None at kept active fine done = absurd (cc)
done_on members c w (Some p) at kept active fine done =
    let q : OnPath = record p { motion = (advanced c.group p.motion).motion } in
    let last = last_step c.group w p.motion active done in
    let lives = lives-active c.group.state c.path c.group.active w kept.state active in
    record {
      before = p;
      after = q;
      path = at;
      takes = ap (λ (x : Core). path_after x.group x.path) (not-failing members c fine) ∙ ap
          (path_after c.group) at;
      same = step_same c.group p;
      rests = last.rests;
      ends = last.ends;
      fine = no-error members.error (nat_eq members.error 0) (may_fail c.group.state) refl lives.1
          fine;
      within = lives.0;
    }

pub done-on : (members : GroupLook) (c : Core) (w : Wanted) → IsCoreKept (limits_in members) c →
    c.group.active ≡ Some w →
    (cycle_fate members c).ends ≡ Some finish.Done → IsDoneOn members c w
done-on members c w kept active e =
    let both = is_done members c e in
    done_on members c w c.path refl kept active both.0 both.1
