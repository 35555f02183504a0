-- Commands of a group come to their end in time.
-- for: courses_end_in_time
use Rattle.std.specs.Prelude.{◌≡◌, refl, ℕ, zero, suc, ◌+◌, ◌/◌, ◌≤◌, Bool, true, false, not, ◌||◌, nat_eq, ℤ, pos, ◌≤ℤ◌, ◌-ℤ◌, unsigned_abs, Option, Some, None, is_none, is_some, List, if◌then◌else◌}
use Rattle.std.specs.Int.{int_min}
use Rattle.std.specs.Ordering.{int_eq}
use Rattle.std.proofs.Common.{◌∙◌, sym, ap, subst, arith, inl, inr}
use Rattle.std.proofs.lemmas.Bool.{and_parts, and_right}
use Rattle.std.proofs.lemmas.Int.{ints, clamps}
use Rattle.buffer_modes.specs.Queue.{is_aborting}
use Rattle.command_pool.specs.Rates.{AreRates}
use Rattle.command_pool.specs.Waiting as pool
use Rattle.command_pool.specs.declared.ending.Finish.{Finish}
use Rattle.command_pool.specs.declared.ending.Finish.TheVariants as finish
use Rattle.plc_types.specs.declared.kind.BlockKind.{BlockKind}
use Rattle.plc_types.specs.declared.kind.BlockKind.TheVariants as kind
use Rattle.command_pool.specs.declared.rates.Rates.{Rates}
use Rattle.command_pool.specs.declared.wanted.Wanted.{Wanted}
use Rattle.plc_types.specs.declared.group.GroupState.{GroupState}
use Rattle.plc_types.specs.declared.group.GroupState.TheVariants as state
use Rattle.plc_types.specs.Limits.{AreLimits}
use Rattle.kin_core.specs.Admissible.{IsKept}
use Rattle.plc_types.specs.declared.limits.Limits.{Limits}
use Rattle.motion_numbers.specs.declared.TheConstants.{MOST_WAY}
use Rattle.trapezoid_plan.specs.CyclesBound.{cycles_bound_of}
use Rattle.trapezoid_plan.specs.MoveRun.{IsAtRestWithin, IsDoneWithin, IsMoveWithin}
use Rattle.buffer_modes.specs.Owners.{active_without}
use Rattle.group_core.specs.Calls.{admitted_by, asked_in, braked_for, commanded, commanded_by, disowned, group_without, powered_off, queued, waits_for_rest}
use Rattle.group_core.specs.Cores.{Core, ended_by, failed, line_begun}
use Rattle.group_core.specs.Courses.{Braked, BrakesOn, Carried, Course, GoesOn, IsAtEnd, IsBraking, IsEnd, IsUnderWay, RunsWithin, along, bound_of, course_by, course_of, is_line_done, slowing}
use Rattle.group_core.specs.Cycles.{Advance, advanced, answered, cycled, ending_of, moved, over_at_rest, path_after, path_over, path_taken, released, reset_cycled}
use Rattle.buffer_modes.specs.Fates.{Fate, goes_on, replaced}
use Rattle.group_core.specs.Fates.{admitted_fate, asked_fate, command_fate, cycle_fate, is_failing, power_off_fate}
use Rattle.group_core.specs.GroupKept.{AreNumbers, IsCoreKept, IsDeceleration, IsLook, IsMade}
use Rattle.group_core.specs.Kinds.{ending_by, step_by, tests_of}
use Rattle.group_core.specs.Refusals.{holds, limits_in, refusal_of}
use Rattle.group_core.specs.States.{is_error_stop, is_stopping, may_fail}
use Rattle.group_core.specs.Tracks.{OnPath, braking_step_of, cut, is_moving, is_running, line_step_of, moved_by, places_at}
use Rattle.group_core.specs.blocks.Line.{braking_for}
use Rattle.group_core.specs.declared.group.Group.{Group}
use Rattle.group_core.specs.declared.group.Motion.{Motion}
use Rattle.group_core.specs.declared.look.GroupLook.{GroupLook}
use Rattle.group_core.specs.declared.reason.Reason.{Reason}
use Rattle.buffer_modes.proofs.Queue.{later_active}
use Rattle.group_core.proofs.Ends.{either, reset-active-same}
use Rattle.group_core.proofs.KeptCalls.{IsAsked, disable-none, of_kind}
use Rattle.group_core.proofs.KeptCycles.{int-same, same-int}
use Rattle.group_core.proofs.KeptParts.{stepping-of}
use Rattle.group_core.proofs.NoneHolds.{NoneHolds, none-holds}
use Rattle.group_core.proofs.StepLaws.{active-runs, advanced-by, cycle-ends, goes-on, path-by}

-- the laws of the plans
pub record Plans : Type 0 where
  pub arrive : (limits : Limits) (rates : Rates) (target before now : ℤ) → AreLimits limits → (limits.hi -ℤ limits.lo) ≤ℤ pos MOST_WAY → AreRates rates →
      IsMoveWithin limits rates target → IsKept limits before now → IsDoneWithin (cycles_bound_of (target -ℤ now) (now -ℤ before) rates) limits rates target before now
  pub rest : (limits : Limits) (d before now : ℤ) → AreLimits limits → pos 1 ≤ℤ d → d ≤ℤ limits.dmax → IsKept limits before now →
      IsAtRestWithin (unsigned_abs (now -ℤ before) / unsigned_abs d + 1) limits d before now

-- rates that are cut are in their ranges, and within the limits
cut-rates : (l : Limits) (r : Rates) → AreLimits l → AreRates r → AreRates (cut l r)
cut-rates l r are rates = record {
  least_velocity = omega (arith, ints, clamps);
  most_velocity = omega (arith, ints, clamps);
  least_acceleration = omega (arith, ints, clamps);
  most_acceleration = omega (arith, ints, clamps);
  least_deceleration = omega (arith, ints, clamps);
  most_deceleration = omega (arith, ints, clamps);
}

cut-within : (l : Limits) (r : Rates) → AreLimits l → IsMoveWithin l (cut l r) l.hi
cut-within l r are = record {
  above = are.ordered;
  below = omega (arith, ints);
  velocity = omega (arith, ints, clamps);
  acceleration = omega (arith, ints, clamps);
  deceleration = omega (arith, ints, clamps);
}

-- a course from where the group is
line-begins : Plans → (m : Motion) (r : Rates) → AreLimits m.limits → m.limits.lo ≡ pos 0 → IsKept m.limits m.previous m.place → AreRates r → RunsWithin (bound_of (along r) m) (along r) m
line-begins plans m r are lo k rates =
    let hi = are.hi_in_range in
    plans.arrive m.limits (cut m.limits r) m.limits.hi m.previous m.place are (omega (arith, ints, lo, hi)) (cut-rates m.limits r are rates) (cut-within m.limits r are) k

halt-begins : Plans → (m : Motion) (d : ℤ) → AreLimits m.limits → IsKept m.limits m.previous m.place → IsDeceleration d → RunsWithin (bound_of (slowing d) m) (slowing d) m
halt-begins plans m d are k of-d =
    let positive = are.amax_positive in
    let within = are.amax_within_dmax in
    let least = of-d.least in
    plans.rest m.limits (int_min d m.limits.dmax) m.previous m.place are (omega (arith, ints, clamps, positive, within, least)) (omega (arith, ints, clamps)) k

course-begins : Plans → (k : BlockKind) (w : Wanted) (course : Course) (m : Motion) → AreLimits m.limits → m.limits.lo ≡ pos 0 → IsKept m.limits m.previous m.place → AreNumbers k w →
    course_by k w ≡ Some course → RunsWithin (bound_of course m) course m
course-begins plans kind.MoveLinearAbsolute w course m are lo k n h =
    let same : along w.rates ≡ course = cc in
    subst (λ (c : Course). RunsWithin (bound_of c m) c m) same (line-begins plans m w.rates are lo k n)
course-begins plans kind.GroupHalt w course m are lo k n h =
    let same : slowing w.rates.d ≡ course = cc in
    subst (λ (c : Course). RunsWithin (bound_of c m) c m) same (halt-begins plans m w.rates.d are k n)
course-begins plans kind.GroupStop w course m are lo k n h =
    let same : slowing w.rates.d ≡ course = cc in
    subst (λ (c : Course). RunsWithin (bound_of c m) c m) same (halt-begins plans m w.rates.d are k n)
course-begins plans _ w course m are lo k n h = absurd (cc)

pub begins-under-way : Plans → (course : Course) (limits : List Limits) (c : Core) (w : Wanted) (p : OnPath) → IsCoreKept limits c → c.group.active ≡ Some w → c.path ≡ Some p →
    course_of w ≡ Some course → IsUnderWay (bound_of course p.motion) course c
begins-under-way plans course limits c w p k e on h =
    let q = k.path p on in
    let s = stepping-of c.group.axes limits p k.axes k.limits_are q in
    record {
      command = w;
      active = e;
      leads = h;
      on = p;
      path = on;
      run = course-begins plans w.kind w course p.motion s.motion.limits s.motion.from q.kept (k.active w e).numbers h;
    }

-- it takes a cycle at least
at-least : (n : ℕ) (course : Course) (m : Motion) → RunsWithin n course m → 1 ≤ n
at-least zero (along r) m h = absurd h
at-least zero (slowing d) m h = absurd h
at-least (suc n) course m h = omega arith

-- where it goes on, and where it is replaced
pub carried-on : (n : ℕ) (course : Course) (c : Core) (p : Option OnPath) → IsUnderWay n course c → Carried n 0 course None p c
carried-on n course c p u = record { left = n; sum = omega arith; under_way = u }

pub carried-off : (n : ℕ) (course : Course) (before next : Option Wanted) (w : Wanted) (p : Option OnPath) (c : Core) → before ≡ Some w →
    Carried n 0 course (replaced finish.Aborted before next).ends p c
carried-off n course None next w p c e = absurd (cc)
carried-off n course (Some v) next w p c e = (omega arith, tt)

carried-fault : (n m number : ℕ) (course : Course) (before next : Option Wanted) (w : Wanted) (p : Option OnPath) (c : Core) → before ≡ Some w → m ≤ n →
    Carried n m course (replaced (finish.Error number) before next).ends p c
carried-fault n m number course None next w p c e h = absurd (cc)
carried-fault n m number course (Some v) next w p c e h = (h, tt)

-- a Power off of a member
pub off-carries : (n : ℕ) (course : Course) (c : Core) → IsUnderWay n course c → Carried n 0 course (power_off_fate c).ends (powered_off c).path (powered_off c)
unfolding power_off_fate powered_off
off-carries n course c u =
    either (λ (f : Fate) (x : Core). Carried n 0 course f.ends x.path x) (may_fail c.group.state) (replaced (finish.Error 102) c.group.active None) goes_on (failed 102 c) c
    (λ h. carried-fault n 0 102 course c.group.active None u.command (failed 102 c).path (failed 102 c) u.active (omega arith))
    (λ h. carried-on n course c c.path u)

-- an owner that is taken away
owned-course : (k : BlockKind) (w : Wanted) (owner : ℕ) → course_by k (record w { owner = pool.without owner w.owner }) ≡ course_by k w
owned-course kind.MoveLinearAbsolute w owner = refl
owned-course _ w owner = refl

pub detach-carries : (n : ℕ) (course : Course) (owner : ℕ) (c : Core) → IsUnderWay n course c → IsUnderWay n course (disowned owner c)
unfolding group_without
detach-carries n course owner c u = record {
  command = record u.command { owner = pool.without owner u.command.owner };
  active = ap (active_without owner) u.active;
  leads = owned-course u.command.kind u.command owner ∙ u.leads;
  on = u.on;
  path = u.path;
  run = u.run;
}

-- a GroupReset
pub reset-carries : (n : ℕ) (course : Course) (members : GroupLook) (c : Core) → IsUnderWay n course c → IsUnderWay n course (reset_cycled members c)
reset-carries n course members c u = record {
  command = u.command;
  active = reset-active-same members (is_some c.path) c.group ∙ u.active;
  leads = u.leads;
  on = u.on;
  path = u.path;
  run = u.run;
}

-- the same command under way on the same path
same-way : (n : ℕ) (course : Course) (c x : Core) → x.group.active ≡ c.group.active → x.path ≡ c.path → IsUnderWay n course c → IsUnderWay n course x
same-way n course c x e f u = record { command = u.command; active = e ∙ u.active; leads = u.leads; on = u.on; path = f ∙ u.path; run = u.run }

-- a line that is asked
abbrev Carries : ℕ → Course → Fate → Core → Type 0
Carries n course f x = Carried n 0 course f.ends x.path x

line-carries : (n : ℕ) (course : Course) (members : GroupLook) (w : Wanted) (c : Core) → IsUnderWay n course c →
    Carries n course (admitted_fate kind.MoveLinearAbsolute w c) (admitted_by kind.MoveLinearAbsolute members w c)
line-carries n course members w c u =
    either (Carries n course) (waits_for_rest w c.path) (replaced finish.Aborted c.group.active (braking_for c.group.active)) _ (braked_for w c) _
    (λ h. carried-off n course c.group.active (braking_for c.group.active) u.command _ _ u.active)
    (λ h. either (Carries n course) (is_aborting w.mode || is_none c.group.active) (replaced finish.Aborted c.group.active (Some w)) goes_on
    (line_begun members members.setpoints w (queued w c)) (queued w c)
    (λ g. carried-off n course c.group.active (Some w) u.command _ _ u.active)
    (λ g. carried-on n course (queued w c) (queued w c).path
    (same-way n course c (queued w c) (later_active (is_aborting w.mode) c.group.active c.waiting w g) refl u)))

command-carries-by : (k : BlockKind) (n : ℕ) (course : Course) (members : GroupLook) (w : Wanted) (jerk : ℤ) (c : Core) → IsAsked members c → IsMade c.group.axes (of_kind k w) →
    NoneHolds (asked_in c (of_kind k w) jerk members) (tests_of k) → IsUnderWay n course c → Carries n course (admitted_fate k (of_kind k w) c) (admitted_by k members (of_kind k w) c)
unfolding holds
command-carries-by kind.GroupEnable n course members w jerk c a m none u =
    (let after : Core = admitted_by kind.GroupEnable members (of_kind kind.GroupEnable w) c in
    carried-on n course after after.path (same-way n course c after refl refl u))
command-carries-by kind.GroupDisable n course members w jerk c a m none u =
    absurd (let f : None ≡ Some u.command = sym (disable-none members c a none.0) ∙ u.active in cc)
command-carries-by kind.GroupReset n course members w jerk c a m none u =
    (let after : Core = admitted_by kind.GroupReset members (of_kind kind.GroupReset w) c in
    carried-on n course after after.path (same-way n course c after refl refl u))
command-carries-by kind.GroupStop n course members w jerk c a m none u = carried-off n course c.group.active (Some (of_kind kind.GroupStop w)) u.command _ _ u.active
command-carries-by kind.GroupHalt n course members w jerk c a m none u = carried-off n course c.group.active (Some (of_kind kind.GroupHalt w)) u.command _ _ u.active
command-carries-by kind.MoveLinearAbsolute n course members w jerk c a m none u = line-carries n course members (of_kind kind.MoveLinearAbsolute w) c u
command-carries-by _ n course members w jerk c a m none u = carried-on n course c c.path u

asked-carries : (n : ℕ) (course : Course) (members : GroupLook) (w : Wanted) (jerk : ℤ) (c : Core) (o : Option Reason) → IsAsked members c → IsMade c.group.axes w →
    refusal_of (asked_in c w jerk members) ≡ o → IsUnderWay n course c → Carries n course (asked_fate o w c) (commanded_by o members w c)
unfolding refusal_of
asked-carries n course members w jerk c None a m h u = command-carries-by w.kind n course members w jerk c a m (none-holds (asked_in c w jerk members) (tests_of w.kind) h) u
asked-carries n course members w jerk c (Some r) a m h u = carried-on n course c c.path u

pub command-carries : (n : ℕ) (course : Course) (w : Wanted) (jerk : ℤ) (members : GroupLook) (c : Core) → IsLook c.group members → IsMade c.group.axes w →
    IsCoreKept (limits_in members) c → IsUnderWay n course c →
    Carried n 0 course (command_fate w jerk members c).ends (commanded w jerk members c).path (commanded w jerk members c)
unfolding command_fate commanded
command-carries n course w jerk members c l m k u =
    asked-carries n course members w jerk c (refusal_of (asked_in c w jerk members)) (record { look = l; kept = k }) m refl u

-- a cycle: the command is done at the end of its course, or one cycle nearer to it
abbrev DoneIf : Bool → Option Finish
DoneIf b = if b then Some finish.Done else None

-- a step of a course: it is done at its end, or has one cycle less to go
record IsStep (course : Course) (m after : Motion) (n : ℕ) (done : Bool) : Type 0 where
  ends : done ≡ true → (1 ≤ n) × IsAtEnd course after
  left : ℕ
  sum : done ≡ false → 1 + left ≡ n
  run : done ≡ false → RunsWithin left course after

line-step : (n : ℕ) (r : Rates) (m : Motion) → RunsWithin n (along r) m →
    IsStep (along r) m (moved_by (line_step_of r m) m) n (is_line_done m (line_step_of r m))
line-step zero r m h = absurd h
line-step (suc n) r m h =
    let step : ℤ = line_step_of r m in
    record {
      ends = λ d.
          (let parts = and_parts (int_eq m.place m.limits.hi) (int_eq step (pos 0)) d in
          let at : m.place ≡ m.limits.hi = int-same m.place m.limits.hi parts.0 in
          let none : step ≡ pos 0 = int-same step (pos 0) parts.1 in
          (omega arith, (omega (arith, ints, at, none), at)));
      left = n;
      sum = λ d. omega arith;
      run = λ d. elim h [
        | inl both ↦ absurd (let all : is_line_done m step ≡ true = rw (same-int m.place m.limits.hi both.0, same-int step (pos 0) both.1) refl in cc)
        | inr later ↦ later
      ];
    }

halt-step : (n : ℕ) (d : ℤ) (m : Motion) → RunsWithin n (slowing d) m →
    IsStep (slowing d) m (moved_by (braking_step_of d m) m) n (int_eq (braking_step_of d m) (pos 0))
halt-step zero d m h = absurd h
halt-step (suc n) d m h =
    let step : ℤ = braking_step_of d m in
    record {
      ends = λ e. (let none : step ≡ pos 0 = int-same step (pos 0) e in (omega arith, omega (arith, ints, none)));
      left = n;
      sum = λ e. omega arith;
      run = λ e. elim h [
        | inl rest ↦ absurd (let all : int_eq step (pos 0) ≡ true = same-int step (pos 0) rest in cc)
        | inr later ↦ later
      ];
    }

-- the step of a command of this course, and where it is done
record Steps (course : Course) (k : BlockKind) (w : Wanted) (m : Motion) (n : ℕ) : Type 0 where
  done : Bool
  ending : ending_by k m (step_by k w m) ≡ DoneIf done
  step : IsStep course m (moved_by (step_by k w m) m) n done

steps-by : (k : BlockKind) (w : Wanted) (course : Course) (m : Motion) (n : ℕ) → course_by k w ≡ Some course → RunsWithin n course m → Steps course k w m n
steps-by kind.MoveLinearAbsolute w course m n h run =
    let same : course ≡ along w.rates = cc in
    subst (λ (c : Course). Steps c kind.MoveLinearAbsolute w m n) (sym same)
    (record { done = is_line_done m (line_step_of w.rates m); ending = refl; step = line-step n w.rates m (subst (λ (c : Course). RunsWithin n c m) same run) })
steps-by kind.GroupHalt w course m n h run =
    let same : course ≡ slowing w.rates.d = cc in
    subst (λ (c : Course). Steps c kind.GroupHalt w m n) (sym same)
    (record { done = int_eq (braking_step_of w.rates.d m) (pos 0); ending = refl; step = halt-step n w.rates.d m (subst (λ (c : Course). RunsWithin n c m) same run) })
steps-by kind.GroupStop w course m n h run =
    let same : course ≡ slowing w.rates.d = cc in
    subst (λ (c : Course). Steps c kind.GroupStop w m n) (sym same)
    (record { done = int_eq (braking_step_of w.rates.d m) (pos 0); ending = refl; step = halt-step n w.rates.d m (subst (λ (c : Course). RunsWithin n c m) same run) })
steps-by _ w course m n h run = absurd (cc)

-- the path after the step of the command
stepped-path : (members : GroupLook) (c : Core) (p : OnPath) (w : Wanted) → is_error_stop c.group.state ≡ false → c.path ≡ Some p → c.group.active ≡ Some w →
    path_after c.group c.path ≡ Some (record p { motion = moved_by (step_by w.kind w p.motion) p.motion })
stepped-path members c p w runs on e =
    ap (path_after c.group) on ∙ ap (λ (a : Advance). Some (record p { motion = a.motion })) (advanced-by c.group p.motion w runs e)

-- the fate of a command that an error of a member ends
failing-fate : (members : GroupLook) (c : Core) → is_failing members c ≡ true → cycle_fate members c ≡ replaced (finish.Error members.error) c.group.active None
unfolding cycle_fate
failing-fate members c h = rw h refl

going-carries : (n : ℕ) (course : Course) (members : GroupLook) (c : Core) (u : IsUnderWay n course c) → is_error_stop c.group.state ≡ false → is_failing members c ≡ false →
    (s : Steps course u.command.kind u.command u.on.motion n) → (b : Bool) → s.done ≡ b → Carried n 1 course (cycle_fate members c).ends (path_taken members c) (cycled members c)
going-carries n course members c u runs sound s true e =
    let ends : (cycle_fate members c).ends ≡ Some finish.Done = cycle-ends members c u.on u.command sound runs u.path u.active ∙ s.ending ∙ ap DoneIf e in
    let path = path-by members c u.on u.command sound runs u.path u.active in
    subst (λ (f : Option Finish). Carried n 1 course f (path_taken members c) (cycled members c)) (sym ends)
    (subst (λ (p : Option OnPath). (1 ≤ n) × IsEnd finish.Done course p) (sym path) (s.step.ends e))
going-carries n course members c u runs sound s false e =
    let none : ending_by u.command.kind u.on.motion (step_by u.command.kind u.command u.on.motion) ≡ None = s.ending ∙ ap DoneIf e in
    let ends : (cycle_fate members c).ends ≡ None = cycle-ends members c u.on u.command sound runs u.path u.active ∙ none in
    let after = goes-on members c u.on u.command sound runs u.path u.active none in
    let moved : OnPath = record u.on { motion = moved_by (step_by u.command.kind u.command u.on.motion) u.on.motion } in
    let path : path_after c.group c.path ≡ Some moved = stepped-path members c u.on u.command runs u.path u.active in
    subst (λ (f : Option Finish). Carried n 1 course f (path_taken members c) (cycled members c)) (sym ends)
    (subst (GoesOn n 1 course) (sym after) (record {
      left = s.step.left;
      sum = s.step.sum e;
      under_way = record { command = u.command; active = u.active; leads = u.leads; on = moved; path = path; run = s.step.run e };
    }))

cycle-carries-by : (b : Bool) (n : ℕ) (course : Course) (members : GroupLook) (c : Core) → IsCoreKept (limits_in members) c → IsUnderWay n course c → is_failing members c ≡ b →
    Carried n 1 course (cycle_fate members c).ends (path_taken members c) (cycled members c)
unfolding cycle_fate
cycle-carries-by true n course members c k u h =
    subst (λ (f : Fate). Carried n 1 course f.ends (path_taken members c) (cycled members c)) (sym (failing-fate members c h))
    (carried-fault n 1 members.error course c.group.active None u.command (path_taken members c) (cycled members c) u.active (at-least n course u.on.motion u.run))
cycle-carries-by false n course members c k u h =
    let s = steps-by u.command.kind u.command course u.on.motion n u.leads u.run in
    going-carries n course members c u (active-runs (limits_in members) c u.command k u.active) h s s.done refl

pub cycle-carries : (n : ℕ) (course : Course) (members : GroupLook) (c : Core) → IsCoreKept (limits_in members) c → IsUnderWay n course c →
    Carried n 1 course (cycle_fate members c).ends (path_taken members c) (cycled members c)
cycle-carries n course members c k u = cycle-carries-by (is_failing members c) n course members c k u refl

-- in GroupErrorStop: where the braking begins
pub braking-begins : Plans → (limits : List Limits) (c : Core) (p : OnPath) → IsCoreKept limits c → is_error_stop c.group.state ≡ true → c.path ≡ Some p →
    IsBraking (bound_of (slowing p.motion.limits.dmax) p.motion) c
braking-begins plans limits c p k h on =
    let q = k.path p on in
    let are = (stepping-of c.group.axes limits p k.axes k.limits_are q).motion.limits in
    let positive = are.amax_positive in
    let within = are.amax_within_dmax in
    let d : ℤ = int_min p.motion.limits.dmax p.motion.limits.dmax in
    record {
      stopped = h;
      on = p;
      path = on;
      run = plans.rest p.motion.limits d p.motion.previous p.motion.place are (omega (arith, ints, clamps, positive, within)) (omega (arith, ints, clamps)) q.kept;
    }

-- no error of a member changes it
never-fails : (s : GroupState) → is_error_stop s ≡ true → may_fail s ≡ false
never-fails state.GroupErrorStop h = refl
never-fails _ h = absurd (cc)

same-answered : (members : GroupLook) (c : Core) → is_error_stop c.group.state ≡ true → answered members.error c ≡ c
same-answered members c h = rw (never-fails c.group.state h, and_right (not (nat_eq members.error 0)) false refl) refl

-- it doesn't leave GroupStopping, where it isn't
never-leaves : (s : GroupState) → is_error_stop s ≡ true → is_stopping s ≡ false
never-leaves state.GroupErrorStop h = refl
never-leaves _ h = absurd (cc)

abbrev braked-on : OnPath → OnPath
braked-on p = record p { motion = moved_by (braking_step_of p.motion.limits.dmax p.motion) p.motion }

abbrev braked-by : Motion → Advance
braked-by m = record { motion = moved_by (braking_step_of m.limits.dmax m) m; ending = None }

braked-advance : (g : Group) (m : Motion) → is_error_stop g.state ≡ true → advanced g m ≡ braked-by m
unfolding advanced
braked-advance g m h = rw h refl

braked-path : (c : Core) (p : OnPath) → is_error_stop c.group.state ≡ true → c.path ≡ Some p → path_after c.group c.path ≡ Some (braked-on p)
braked-path c p h on =
    ap (path_after c.group) on ∙ ap (λ (a : Advance). Some (record p { motion = a.motion })) (braked-advance c.group p.motion h)

braked-ending : (c : Core) (p : OnPath) → is_error_stop c.group.state ≡ true → c.path ≡ Some p → ending_of c.group c.path ≡ None
braked-ending c p h on = ap (ending_of c.group) on ∙ ap (λ (a : Advance). a.ending) (braked-advance c.group p.motion h)

-- the group after the cycle
abbrev with-path : Core → Option OnPath → Core
with-path c o = record c { path = o }

abbrev on-braked : Core → OnPath → Core
on-braked c p = with-path c (Some (braked-on p))

braked-moved : (members : GroupLook) (c : Core) (p : OnPath) → is_error_stop c.group.state ≡ true → c.path ≡ Some p → moved members c ≡ on-braked c p
braked-moved members c p h on =
    let path = path_after c.group c.path in
    ap (λ (o : Option Finish). ended_by members (places_at path members.setpoints) o (record c { path = path })) (braked-ending c p h on)
    ∙ ap (with-path c) (braked-path c p h on)

braked-released : (held : Bool) (c : Core) → is_error_stop c.group.state ≡ true → released held c ≡ c
braked-released held c h = rw (never-leaves c.group.state h) refl

braked-cycle : (members : GroupLook) (c : Core) (p : OnPath) → is_error_stop c.group.state ≡ true → c.path ≡ Some p → cycled members c ≡ over_at_rest (on-braked c p)
unfolding cycled
braked-cycle members c p h on =
    ap (λ (x : Core). over_at_rest (released members.stop_held (moved members x))) (same-answered members c h)
    ∙ ap (λ (x : Core). over_at_rest (released members.stop_held x)) (braked-moved members c p h on)
    ∙ ap over_at_rest (braked-released members.stop_held (on-braked c p) h)

-- a path at rest is over, another brakes on
over-rests : (c : Core) (p : OnPath) (b : Bool) → is_error_stop c.group.state ≡ true → c.path ≡ Some p → is_moving (Some p) ≡ b → (over_at_rest c).path ≡ (if not b then None else Some p)
over-rests c p b h on e = ap (path_over c.group) on ∙ rw (h, e) refl

runs-not : (m : Motion) → m.place ≡ m.previous → is_running m ≡ true → ⊥
runs-not m same h = (let none : is_running m ≡ false = ap not (same-int m.place m.previous same) in cc)

brakes-done : (n : ℕ) (c : Core) (p : OnPath) → is_error_stop c.group.state ≡ true → is_moving (Some (braked-on p)) ≡ true → (d : Bool) →
    IsStep (slowing p.motion.limits.dmax) p.motion (braked-on p).motion n d → (d ≡ true → ⊥) → BrakesOn n (over_at_rest (on-braked c p))
brakes-done n c p h e true s f = absurd (f refl)
brakes-done n c p h e false s f = record {
  left = s.left;
  sum = s.sum refl;
  braking = record {
    stopped = h;
    on = braked-on p;
    path = over-rests (on-braked c p) (braked-on p) true h refl e;
    run = s.run refl;
  };
}

brakes-by : (n : ℕ) (c : Core) (p : OnPath) → is_error_stop c.group.state ≡ true → RunsWithin n (slowing p.motion.limits.dmax) p.motion →
    (b : Bool) → is_moving (Some (braked-on p)) ≡ b → Braked n (over_at_rest (on-braked c p))
brakes-by n c p h run false e = inl (over-rests (on-braked c p) (braked-on p) false h refl e)
brakes-by n c p h run true e =
    let s = halt-step n p.motion.limits.dmax p.motion run in
    inr (brakes-done n c p h e (int_eq (braking_step_of p.motion.limits.dmax p.motion) (pos 0)) s (λ d. runs-not (braked-on p).motion (s.ends d).1 e))

pub braking-carries : (n : ℕ) (members : GroupLook) (c : Core) → IsBraking n c → Braked n (cycled members c)
braking-carries n members c k =
    subst (Braked n) (sym (braked-cycle members c k.on k.stopped k.path)) (brakes-by n c k.on k.stopped k.run (is_moving (Some (braked-on k.on))) refl)
