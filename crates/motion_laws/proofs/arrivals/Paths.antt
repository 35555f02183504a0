-- The active commands of groups come to their end in time.
-- for: machines_can_stand, paths_end_in_time, rows_follow_lines
use Rattle.std.specs.Prelude.{◌≡◌, refl, ℕ, zero, suc, ◌+◌, ◌<◌, ◌≤◌, ℤ, Option, Some, None, List, [], ◌∷◌, length, is_some, slice_get}
use Rattle.std.proofs.Common.{arith, sym, subst, ◌∙◌, inl, inr}
use Rattle.std.proofs.lemmas.Bool.{cases_eq}
use Rattle.plc_types.specs.declared.drive.DriveIn.{DriveIn}
use Rattle.command_changes.specs.Fates.{AreGroupFates}
use Rattle.buffer_modes.specs.Owners.{IsSame}
use Rattle.command_pool.specs.declared.ending.Finish.{Finish}
use Rattle.command_pool.specs.declared.wanted.Wanted.{Wanted}
use Rattle.plc_types.specs.declared.inputs.Inputs.{Inputs}
use Rattle.group_core.specs.Calls.{commanded, disowned, group_without, powered_off}
use Rattle.group_core.specs.Cores.{Core}
use Rattle.group_core.specs.Courses.{Carried, Course, GoesOn, IsUnderWay, along, bound_of, course_of, slowing}
use Rattle.group_core.specs.Cycles as group
use Rattle.group_core.specs.Cycles.{path_taken, reset_cycled}
use Rattle.buffer_modes.specs.Fates.{Fate, IsFate}
use Rattle.group_core.specs.Fates.{command_fate, cycle_fate, power_off_fate}
use Rattle.group_core.specs.GroupKept.{IsCoreKept, IsLook, IsMade}
use Rattle.group_core.specs.Refusals.{limits_in}
use Rattle.group_core.specs.Tracks.{OnPath}
use Rattle.group_core.specs.declared.look.GroupLook.{GroupLook}
use Rattle.plc_types.specs.declared.limits.Limits.{Limits}
use Rattle.motion_history.specs.Calls.{IsCall}
use Rattle.motion_history.specs.Entries.{Entry, call, cycle, cycle_count, cycles_of, end_of}
use Rattle.motion_history.specs.Setup.{Setup}
use Rattle.motion_history.specs.declared.config.BlockDef.{BlockDef}
use Rattle.motion_kernel.specs.calls.Calls.{with_axis_core, with_execute, with_group_core}
use Rattle.motion_kernel.specs.looks.AxisLooks.{Surroundings}
use Rattle.motion_kernel.specs.cycles.Cycles.{after_cycle, around_in, cycled, stepped_in, look_of_group}
use Rattle.motion_kernel.specs.cycles.AxisCycles.{axes_cycled, core_in_cycle}
use Rattle.motion_kernel.specs.cycles.GroupResets.{core_after_reset, groups_reset}
use Rattle.motion_kernel.specs.cycles.Showing.{with_found}
use Rattle.motion_laws.specs.arrivals.Paths.{Ended, IsEndedWithin, ended_by, ended_in}
use Rattle.motion_laws.specs.arrivals.GroupFates.{group_fate, path_in}
use Rattle.motion_kernel.specs.Histories.{Follows, IsOf, after, inputs_of}
use Rattle.motion_kernel.specs.looks.GroupLooks.{group_look}
use Rattle.motion_kernel.specs.Machine.{Machine, group_at, group_core_at}
use Rattle.motion_kernel.specs.kept.Machine.{AreWhole, IsMachineKept}
use Rattle.motion_kernel.specs.kept.Ready.{MayCall}
use Rattle.motion_laws.proofs.arrivals.MoveEvents.{as_it_is, chained, stays}
use Rattle.motion_kernel.proofs.cycles.Rows.{axes_count}
use Rattle.motion_laws.proofs.walk.GroupCalls.{IsByFate, IsThere, by_call}
use Rattle.motion_kernel.proofs.kept.Events.{IsAsLarge, axis_event_size, group_beside_axis, group_beside_group, group_event_size, group_written}
use Rattle.motion_kernel.proofs.kept.GroupSteps.{IsLooking, have_stepped, larger}
use Rattle.motion_kernel.proofs.kept.Machine.{MachinesStayKept}
use Rattle.motion_laws.proofs.Histories.{replay_kept}

-- group_core's courses_end_in_time
pub record CoursesEnd : Type 0 where
  pub begins : (course : Course) (limits : List Limits) (c : Core) (w : Wanted) (p : OnPath) →
      IsCoreKept limits c → c.group.active ≡ Some w →
      c.path ≡ Some p → course_of w ≡ Some course → IsUnderWay (bound_of course p.motion) course c
  pub command : (n : ℕ) (course : Course) (w : Wanted) (jerk : ℤ) (members : GroupLook) (c : Core) →
      IsLook c.group members →
      IsMade c.group.axes w → IsCoreKept (limits_in members) c → IsUnderWay n course c →
      Carried n 0 course (command_fate w jerk members c).ends (commanded w jerk members c).path
      (commanded w jerk members c)
  pub power_off : (n : ℕ) (course : Course) (c : Core) → IsUnderWay n course c →
      Carried n 0 course (power_off_fate c).ends (powered_off c).path (powered_off c)
  pub detach : (n : ℕ) (course : Course) (owner : ℕ) (c : Core) → IsUnderWay n course c →
      IsUnderWay n course (disowned owner c)
  pub cycle : (n : ℕ) (course : Course) (members : GroupLook) (c : Core) →
      IsCoreKept (limits_in members) c → IsUnderWay n course c →
      Carried n 1 course (cycle_fate members c).ends (path_taken members c) (group.cycled members c)
  pub reset : (n : ℕ) (course : Course) (members : GroupLook) (c : Core) → IsUnderWay n course c →
      IsUnderWay n course (reset_cycled members c)

-- what may be called of a kept machine
abbrev pub MayBeCalled : Type 0
MayBeCalled = (s : Setup) (k : ℕ) (b : BlockDef) (i : Inputs) (m : Machine) → AreWhole s →
    slice_get s.blocks k ≡ Some b → IsCall s k i →
    IsMachineKept s m → MayCall s k b i (with_execute k i m)

-- the laws on which it rests that paths come to their end
pub record GroupLaws : Type 0 where
  pub machines : MachinesStayKept
  pub may_call : MayBeCalled
  pub fates : AreGroupFates
  pub courses : CoursesEnd

-- the fate of every event of a group is what its active command shows
fates_by : GroupLaws → (c : Core) → IsByFate c (λ f x. IsFate f c.group.active x.group.active)
fates_by laws c = record {
  rests = stays c.group.active c.group.active (as_it_is c.group.active);
  untold = λ f x h. h;
  detach = λ owner. stays c.group.active (group_without owner c.group).active
      (laws.fates.detach owner c.group);
  power_off = (laws.fates.power_off c).shown;
  command = λ owner w jerk members x e looks made kept.
      let same = subst (λ (d : Core). IsSame c.group.active d.group.active) (sym e)
      (laws.fates.detach owner c.group) in
      chained (command_fate w jerk members x) c.group.active x.group.active
      (commanded w jerk members x).group.active same (laws.fates.command w jerk members x).shown;
}

-- a command that is under way is carried on by every event of its group
on_it : (n : ℕ) (course : Course) (c : Core) → IsUnderWay n course c → GoesOn n 0 course c
on_it n course c h = record { left = n; sum = omega arith; under_way = h }

untold_way : (n : ℕ) (course : Course) (c : Core) → IsUnderWay n course c →
    IsUnderWay n course (record c { notes = [] })
untold_way n course c h = record {
  command = h.command;
  active = h.active;
  leads = h.leads;
  on =
      h.on;
  path = h.path;
  run = h.run;
}

untold_carried : (n cycles : ℕ) (course : Course) (o : Option Finish) (p : Option OnPath)
    (c : Core) → Carried n cycles course o p c →
    Carried n cycles course o p (record c { notes = [] })
untold_carried n cycles course (Some f) p c h = h
untold_carried n cycles course None p c h =
    record { left = h.left; sum = h.sum; under_way = untold_way h.left course c h.under_way }

reset_carried : GroupLaws → (n cycles : ℕ) (course : Course) (o : Option Finish) (p : Option OnPath)
    (look : GroupLook) (c : Core) →
    Carried n cycles course o p c → Carried n cycles course o p (reset_cycled look c)
reset_carried laws n cycles course (Some f) p look c h = h
reset_carried laws n cycles course None p look c h =
    record {
      left = h.left;
      sum = h.sum;
      under_way =
          laws.courses.reset h.left course look c h.under_way;
    }

carried_by : GroupLaws → (n : ℕ) (course : Course) (c : Core) → IsUnderWay n course c →
    IsByFate c (λ f x. Carried n 0 course f.ends x.path x)
carried_by laws n course c h = record {
  rests = on_it n course c h;
  untold = λ f x g. untold_carried n 0 course f.ends x.path x g;
  detach = λ owner. on_it n course (disowned owner c) (laws.courses.detach n course owner c h);
  power_off = laws.courses.power_off n course c h;
  command = λ owner w jerk members x e looks made kept.
      laws.courses.command n course w jerk members x looks made kept
      (subst (IsUnderWay n course) (sym e) (laws.courses.detach n course owner c h));
}

-- the cycles of the axes leave the groups
cycles_leave : (s : Setup) (n : ℕ) (around : Surroundings) (m : Machine) (j : ℕ) →
    n ≤ length m.axes →
    group_core_at (axes_cycled s n around m).machine j ≡ group_core_at m j
unfolding axes_cycled
cycles_leave s zero around m j l = refl
cycles_leave s (suc n) around m j l =
    let so_far = (axes_cycled s n around m).machine in
    let count = axes_count s n around m in
    group_beside_axis so_far n j (core_in_cycle s around n so_far) (omega arith)
    ∙ cycles_leave s n around m j (omega arith)

-- pending Resets
resets_size : (s : Setup) (n : ℕ) (m : Machine) → IsAsLarge m (groups_reset s n m).machine
unfolding groups_reset
resets_size s zero m = record { axes = refl; groups = refl; queues = refl; instances = refl }
resets_size s (suc n) m =
    let so_far = (groups_reset s n m).machine in
    larger m so_far (with_group_core so_far n (core_after_reset s n so_far)) (resets_size s n m)
    (group_event_size so_far n (core_after_reset s n so_far))

-- a property of a group that a GroupReset and reporting its notes keep
pub record IsLasting (Q : Core → Type 0) : Type 0 where
  pub untold : (c : Core) → Q c → Q (record c { notes = [] })
  pub reset : (look : GroupLook) (c : Core) → Q c → Q (reset_cycled look c)

resets_keep : (Q : Core → Type 0) → IsLasting Q → (s : Setup) (n : ℕ) (m : Machine) (j : ℕ) →
    n ≤ length m.groups → length m.axes + length m.groups ≤ length m.queues →
    Q (group_core_at m j) → Q (group_core_at (groups_reset s n m).machine j)
unfolding groups_reset
resets_keep Q lasts s zero m j l k h = h
resets_keep Q lasts s (suc n) m j l k h =
    let so_far = (groups_reset s n m).machine in
    let size = resets_size s n m in
    let s1 = size.axes in
    let s2 = size.groups in
    let s3 = size.queues in
    let before = resets_keep Q lasts s n m j (omega arith) k h in
    let c = core_after_reset s n so_far in
    elim (cases_eq j n) [
      | inl e ↦
          let here : Q (group_core_at so_far n) =
          subst (λ x. Q (group_core_at so_far x)) e before in
          let is = group_written so_far n c (omega arith) (omega arith) in
          subst (λ x. Q (group_core_at (with_group_core so_far n c) x)) (sym e)
          (subst Q (sym is)
          (lasts.untold c
          (lasts.reset (group_look s so_far n 0) (group_core_at so_far n) here)))
      | inr d ↦ subst Q (sym (group_beside_group so_far n j c d)) before
    ]

-- the axes' cycles keep the sizes
moved_size : (s : Setup) (n : ℕ) (around : Surroundings) (m : Machine) →
    IsAsLarge m (axes_cycled s n around m).machine
unfolding axes_cycled
moved_size s zero around m = record { axes = refl; groups = refl; queues = refl; instances = refl }
moved_size s (suc n) around m =
    let so_far = (axes_cycled s n around m).machine in
    larger m so_far (with_axis_core so_far n (core_in_cycle s around n so_far))
    (moved_size s n around m) (axis_event_size so_far n (core_in_cycle s around n so_far))

found_leave : (s : Setup) (m : Machine) (j : ℕ) →
    group_core_at (with_found s m) j ≡ group_core_at m j
unfolding with_found
found_leave s m j = refl

-- what a cycle makes of a group of a kept machine
pub by_cycle : (Q : Core → Type 0) → IsLasting Q →
    (s : Setup) (m : Machine) (ins : List DriveIn) (j : ℕ) → IsMachineKept s m →
    j < length m.groups →
    (IsLooking s m j (look_of_group s m ins j) →
    Q (group.cycled (look_of_group s m ins j) (group_core_at m j))) →
    Q (group_core_at (after_cycle s m ins) j)
unfolding cycled
by_cycle Q lasts s m ins j h l made =
    let g = (stepped_in s ins m).machine in
    let stepped = have_stepped s m ins (length m.groups) h (omega arith) in
    let size = stepped.size in
    let s1 = size.axes in
    let s2 = size.groups in
    let s3 = size.queues in
    let sizes = h.sized in
    let t1 = sizes.axes in
    let t2 = sizes.groups in
    let t3 = sizes.queues in
    let one = stepped.each j l in
    let moved = (axes_cycled s (length g.axes) (around_in s ins m) g).machine in
    let looking = subst (IsLooking s m j) one.is one.looking in
    let first = subst (λ x. Q (group.cycled x (group_core_at m j))) (sym one.is) (made looking) in
    let here : Q (group_core_at g j) = subst Q (sym one.core) (lasts.untold _ first) in
    let then : Q (group_core_at moved j) =
    subst Q (sym (cycles_leave s (length g.axes) (around_in s ins m) g j (omega arith))) here in
    let more = moved_size s (length g.axes) (around_in s ins m) g in
    let u1 = more.axes in
    let u2 = more.groups in
    let u3 = more.queues in
    subst Q (sym (found_leave s (groups_reset s (length moved.groups) moved).machine j))
    (resets_keep Q lasts s (length moved.groups) moved j (omega arith) (omega arith) then)

-- the group and its list are there in a kept machine
pub there : (s : Setup) (m : Machine) (j : ℕ) → IsMachineKept s m → j < length m.groups → IsThere m j
there s m j h l =
    let sizes = h.sized in
    let t1 = sizes.axes in
    let t2 = sizes.groups in
    let t3 = sizes.queues in
    record { group = l; list = omega arith }

-- what an entry makes of a group goes with its fate
fate_lasts : GroupLaws → (f : Fate) (before : Option Wanted) →
    IsLasting (λ x. IsFate f before x.group.active)
fate_lasts laws f before = record {
  untold = λ c h. h;
  reset = λ look c h. subst (IsFate f before) (sym (laws.fates.reset look (is_some c.path) c.group))
      h;
}

pub fate_shown : GroupLaws → (s : Setup) (cycles : ℕ) (m : Machine) (e : Entry) (j : ℕ) → AreWhole s →
    IsMachineKept s m → IsOf s cycles m e → j < length m.groups →
    IsFate (group_fate s m e j) (group_at m j).group.active (group_at (after s m e) j).group.active
fate_shown laws s cycles m (call k i reply) j whole h is l =
    by_call (λ f x. IsFate f (group_at m j).group.active x.group.active) s m k i j
    (fates_by laws (group_core_at m j)) (there s m j h l)
    (λ b e. laws.may_call s k b i m whole e is.0 h) h
fate_shown laws s cycles m (cycle c rows grows) j whole h is l =
    let look = look_of_group s m (inputs_of rows) j in
    by_cycle (λ x. IsFate (cycle_fate look (group_core_at m j))
    (group_at m j).group.active x.group.active)
    (fate_lasts laws (cycle_fate look (group_core_at m j)) (group_at m j).group.active) s m
    (inputs_of rows) j h l
    (λ looking. (laws.fates.cycle look (group_core_at m j)).shown)
fate_shown laws s cycles m (end_of task) j whole h is l = stays (group_at m j).group.active
    (group_at m j).group.active (as_it_is (group_at m j).group.active)

way_lasts : GroupLaws →
    (most cycles : ℕ) (course : Course) (o : Option Finish) (p : Option OnPath) →
    IsLasting (Carried most cycles course o p)
way_lasts laws most cycles course o p = record {
  untold = λ c h. untold_carried most cycles course o p c h;
  reset = λ look c h. reset_carried laws most cycles course o p look c h;
}

carried_on : GroupLaws → (s : Setup) (cycles : ℕ) (m : Machine) (e : Entry) (j most : ℕ)
    (course : Course) → AreWhole s → IsMachineKept s m → IsOf s cycles m e →
    j < length m.groups → IsUnderWay most course (group_core_at m j) →
    Carried most (cycle_count e) course (group_fate s m e j).ends (path_in s m e j)
    (group_core_at (after s m e) j)
carried_on laws s cycles m (call k i reply) j most course whole h is l u =
    by_call (λ f x. Carried most 0 course f.ends x.path x) s m k i j
    (carried_by laws most course (group_core_at m j) u) (there s m j h l)
    (λ b e. laws.may_call s k b i m whole e is.0 h) h
carried_on laws s cycles m (cycle c rows grows) j most course whole h is l u =
    let look = look_of_group s m (inputs_of rows) j in
    let x = group_core_at m j in
    by_cycle (Carried most 1 course (cycle_fate look x).ends (path_taken look x))
    (way_lasts laws most 1 course (cycle_fate look x).ends (path_taken look x)) s m
    (inputs_of rows) j h l
    (λ looking. laws.courses.cycle most course look x looking.kept u)
carried_on laws s cycles m (end_of task) j most course whole h is l u =
    on_it most course (group_core_at m j) u

-- an end later
later_on : (c left most : ℕ) (course : Course) (p : Option OnPath) (later : Option Ended) →
    c + left ≡ most → IsEndedWithin left course later →
    IsEndedWithin most course (ended_by None c p later)
later_on c left most course p None sum h = h
later_on c left most course p (Some t) sum h = let l = h.0 in (omega arith, h.1)

ends : (most c : ℕ) (course : Course) (m : Core) (p : Option OnPath) (later : Option Ended)
    (o : Option Finish) → Carried most c course o p m →
    ((left : ℕ) → c + left ≡ most → IsUnderWay left course m → IsEndedWithin left course later) →
    IsEndedWithin most course (ended_by o c p later)
ends most c course m p later (Some f) h more = h
ends most c course m p later None h more = later_on c h.left most course p later h.sum
    (more h.left h.sum h.under_way)

-- no course has no cycles to go
runs : (course : Course) (c : Core) → IsUnderWay 0 course c → ⊥
runs (along rates) c h = h.run
runs (slowing d) c h = h.run

pub kept_after : GroupLaws → (s : Setup) (cycles : ℕ) (m : Machine) (e : Entry) → AreWhole s →
    IsMachineKept s m → IsOf s cycles m e → IsMachineKept s (after s m e)
kept_after laws s cycles m e whole h is = replay_kept laws.machines s cycles m (e ∷ []) whole h
    (is, tt)

-- a command that is under way ends in time
pub arrives : GroupLaws → (s : Setup) (cycles : ℕ) (m : Machine) (es : List Entry) (j most : ℕ)
    (course : Course) → AreWhole s → IsMachineKept s m →
    Follows s cycles m es → j < length s.groups → IsUnderWay most course (group_core_at m j) →
    most ≤ cycles_of es → IsEndedWithin most course (ended_in s j m es)
arrives laws s cycles m [] j zero course whole h f l u b =
    absurd (runs course (group_core_at m j) u)
arrives laws s cycles m [] j (suc most) course whole h f l u b = absurd (omega arith)
arrives laws s cycles m (e ∷ es) j most course whole h f l u b =
    let sizes = h.sized in
    let size = sizes.groups in
    let next = kept_after laws s cycles m e whole h f.0 in
    ends most (cycle_count e) course (group_core_at (after s m e) j) (path_in s m e j)
    (ended_in s j (after s m e) es) (group_fate s m e j).ends
    (carried_on laws s cycles m e j most course whole h f.0 (omega arith) u)
    (λ left sum under. arrives laws s (cycles + cycle_count e) (after s m e) es j left course whole
    next f.1 l under (omega arith))
