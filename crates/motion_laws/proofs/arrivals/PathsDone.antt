-- The axes of a group rest where its command is Done, those of a line at its targets.
-- for: machines_can_stand, paths_end_in_time, rows_follow_lines
use Rattle.std.specs.Prelude.{◌≡◌, refl, ℕ, ◌+◌, ◌<◌, ◌≤◌, true, ℤ, nat_eq, Option, Some, None, List, [], ◌∷◌, length, map}
use Rattle.std.proofs.Common.{arith, ap, sym, subst, ◌∙◌}
use Rattle.std.proofs.lemmas.List.{get_or-map}
use Rattle.axis_core.specs.Along.{GoesAlong}
use Rattle.axis_core.specs.AxisKept as axis
use Rattle.axis_core.specs.Cores as axis_cores
use Rattle.axis_core.specs.Cycles.{core_after_cycle}
use Rattle.axis_core.specs.Drives.{answer_error_of}
use Rattle.axis_core.specs.blocks.Path.{is_on_path}
use Rattle.axis_core.specs.declared.axis.Axis.{Axis}
use Rattle.axis_core.specs.declared.look.AxisLook.{AxisLook}
use Rattle.plc_types.specs.declared.drive.DriveIn.{DriveIn}
use Rattle.command_pool.specs.declared.ending.Finish.TheVariants as finish
use Rattle.plc_types.specs.declared.kind.BlockKind.TheVariants as kind
use Rattle.command_pool.specs.declared.wanted.Wanted.{Wanted}
use Rattle.group_core.specs.Calls.{commanded, group_without, powered_off}
use Rattle.group_core.specs.Cores.{Core}
use Rattle.group_core.specs.Cycles as group
use Rattle.group_core.specs.Cycles.{path_taken, step_of}
use Rattle.group_core.specs.Fates.{cycle_fate}
use Rattle.group_core.specs.GroupKept.{IsCoreKept, IsPathOf, is_within}
use Rattle.group_core.specs.Refusals.{limits_in}
use Rattle.group_core.specs.Targets.{EndsAtTargets, IsDoneOn, IsToward}
use Rattle.group_core.specs.Tracks.{OnPath, place_on}
use Rattle.group_core.specs.declared.group.Group.{Group}
use Rattle.group_core.specs.declared.look.GroupLook.{GroupLook}
use Rattle.plc_types.specs.declared.limits.Limits.{Limits}
use Rattle.linear_path.specs.Line.{coordinate_of}
use Rattle.motion_history.specs.Entries.{Entry, call, cycle, cycle_count, end_of}
use Rattle.motion_history.specs.Setup.{Setup, IsSetup}
use Rattle.motion_history.specs.declared.config.GroupDef.{GroupDef}
use Rattle.motion_kernel.specs.cycles.Cycles.{look_of_axis, look_of_group, after_cycle, around_in}
use Rattle.motion_kernel.specs.looks.AxisLooks.{Surroundings, axis_look, place_asked, step_at}
use Rattle.motion_kernel.specs.cycles.GroupSteps.{error_of_group}
use Rattle.motion_kernel.specs.Histories.{Follows, IsOf, after, inputs_of, replay}
use Rattle.motion_kernel.specs.Machine.{Machine, axis_at, axis_core_at, group_at, group_at_opening, group_core_at, machine_at_opening, no_group}
use Rattle.motion_kernel.specs.kept.Machine.{AreWhole, IsMachineKept, limits_of}
use Rattle.motion_kernel.specs.members.Members.{member_at, members_at, membership_of}
use Rattle.motion_kernel.proofs.kept.AxisCycles.{none_fails}
use Rattle.motion_kernel.proofs.kept.AxesEnter.{led_on_path}
use Rattle.motion_kernel.proofs.kept.Ready.{member_kept}
use Rattle.motion_kernel.proofs.kept.GroupSteps.{have_stepped}
use Rattle.motion_kernel.proofs.cycles.OneAxis.{goes_through}
use Rattle.motion_kernel.proofs.cycles.Rows.{look_input}
use Rattle.motion_laws.specs.arrivals.Paths.{AreAtEnd}
use Rattle.motion_laws.specs.arrivals.GroupFates.{group_fate}
use Rattle.motion_laws.proofs.walk.GroupCalls.{IsByFate, by_call}
use Rattle.motion_laws.proofs.results.outcomes.NotDone.{group_not_done}
use Rattle.motion_laws.proofs.arrivals.Paths.{GroupLaws, IsLasting, by_cycle, kept_after, there}

-- group_core's lines_lead_to_their_targets
pub record LinesLead : Type 0 where
  pub command : (w : Wanted) (jerk : ℤ) (members : GroupLook) (c : Core) →
      IsToward c.group.active c.path →
      IsToward (commanded w jerk members c).group.active (commanded w jerk members c).path
  pub power_off : (c : Core) → IsToward c.group.active c.path →
      IsToward (powered_off c).group.active (powered_off c).path
  pub detach : (owner : ℕ) (g : Group) (p : Option OnPath) → IsToward g.active p →
      IsToward (group_without owner g).active p
  pub cycle : (members : GroupLook) (c : Core) → IsToward c.group.active c.path →
      IsToward (group.cycled members c).group.active (group.cycled members c).path
  pub places : (members : GroupLook) (c : Core) (q : OnPath) (axis : ℕ) →
      path_taken members c ≡ Some q → axis < q.way.count → q.way.count ≤ 6 →
      length members.setpoints ≡ 6 → coordinate_of (step_of members c).places axis ≡ place_on q.way
      axis q.motion.place
  pub done : (members : GroupLook) (c : Core) (w : Wanted) → IsCoreKept (limits_in members) c →
      c.group.active ≡ Some w →
      (cycle_fate members c).ends ≡ Some finish.Done → IsDoneOn members c w
  pub ends : (limits : List Limits) (axes : ℕ) (p : OnPath) → IsPathOf axes limits p →
      EndsAtTargets axes p

-- axis_core's paths_are_followed, on a path that goes on
abbrev pub PathsAreFollowed : Type 0
PathsAreFollowed = (look : AxisLook) (c : axis_cores.Core) → axis.IsCoreKept c →
    axis.IsLook c.axis look → is_on_path c.axis ≡ true →
    nat_eq (answer_error_of c.axis look.input) 0 ≡ true →
    GoesAlong c.axis look (core_after_cycle look c)

pub record DoneLaws : Type 0 where
  pub groups : GroupLaws
  pub lines : LinesLead
  pub follows : PathsAreFollowed

-- a group goes toward the targets of its line, after every entry
abbrev pub IsGoing : Core → Type 0
IsGoing c = IsToward c.group.active c.path

toward_by : DoneLaws → (c : Core) → IsGoing c → IsByFate c (λ f x. IsGoing x)
toward_by laws c h = record {
  rests = h;
  untold = λ f x g. g;
  detach = λ owner. laws.lines.detach owner c.group c.path h;
  power_off = laws.lines.power_off c h;
  command = λ owner w jerk members x e looks made kept.
      laws.lines.command w jerk members x
      (subst IsGoing (sym e) (laws.lines.detach owner c.group c.path h));
}

toward_lasts : DoneLaws → IsLasting IsGoing
toward_lasts laws = record {
  untold = λ c h. h;
  reset = λ look c h. subst (λ o. IsToward o c.path) (sym (laws.groups.fates.reset look _ c.group))
      h;
}

toward_after : DoneLaws → (s : Setup) (cycles : ℕ) (m : Machine) (e : Entry) (j : ℕ) → AreWhole s →
    IsMachineKept s m → IsOf s cycles m e → j < length m.groups →
    IsGoing (group_core_at m j) → IsGoing (group_core_at (after s m e) j)
toward_after laws s cycles m (call k i reply) j whole h is l goes =
    by_call (λ f x. IsGoing x) s m k i j (toward_by laws (group_core_at m j) goes) (there s m j h l)
    (λ b e. laws.groups.may_call s k b i m whole e is.0 h) h
toward_after laws s cycles m (cycle c rows grows) j whole h is l goes =
    by_cycle IsGoing (toward_lasts laws) s m (inputs_of rows) j h l
    (λ looking. laws.lines.cycle (look_of_group s m (inputs_of rows) j)
    (group_core_at m j) goes)
toward_after laws s cycles m (end_of task) j whole h is l goes = goes

toward_kept : DoneLaws → (s : Setup) (cycles : ℕ) (m : Machine) (es : List Entry) (j : ℕ) →
    AreWhole s → IsMachineKept s m → Follows s cycles m es → j < length s.groups →
    IsGoing (group_core_at m j) → IsGoing (group_core_at (replay s m es) j)
toward_kept laws s cycles m [] j whole h f l goes = goes
toward_kept laws s cycles m (e ∷ es) j whole h f l goes =
    let sizes = h.sized in
    let size = sizes.groups in
    toward_kept laws s (cycles + cycle_count e) (after s m e) es j whole
    (kept_after laws.groups s cycles m e whole h f.0) f.1 l
    (toward_after laws s cycles m e j whole h f.0 (omega arith) goes)

pub nowhere : (active : Option Wanted) (o : Option OnPath) → o ≡ None → IsToward active o
nowhere active o none w on e k path = absurd (let x : None ≡ Some on = sym none ∙ path in cc)

no_def : GroupDef
no_def = record { name = []; count = 0; axes = [] }

pub toward_here : DoneLaws → (s : Setup) (es : List Entry) (j : ℕ) → IsSetup s → AreWhole s →
    Follows s 0 (machine_at_opening s) es → j < length s.groups →
    IsGoing (group_core_at (replay s (machine_at_opening s) es) j)
toward_here laws s es j setup whole f l =
    let m = machine_at_opening s in
    let off : (group_at m j).path ≡ None =
    ap (λ g. g.path) (get_or-map group_at_opening s.groups j no_def no_group l) in
    toward_kept laws s 0 m es j whole (laws.groups.machines.opened s setup whole) f l
    (nowhere (group_at m j).group.active (group_at m j).path off)

look_path : (s : Setup) (around : Surroundings) (m : Machine) (n : ℕ) →
    (axis_look s around m n).path ≡ place_asked (membership_of s n) around.steps
unfolding axis_look
look_path s around m n = refl

-- a group takes a path in a cycle: its axes bring no error, and stand on the path within their
-- limits
pub record IsTakenOn (members : GroupLook) (c : Core) (before after : OnPath) : Type 0 where
  pub path : c.path ≡ Some before
  pub takes : path_taken members c ≡ Some after
  pub way : after.way ≡ before.way
  pub fine : members.error ≡ 0
  pub within : is_within c.group.state ≡ true

-- one of its axes stood on the path, and goes on to its next place there
pub record GoesBy (before after : OnPath) (place : ℕ) (a z : Axis) : Type 0 where
  pub was : a.previous ≡ place_on before.way place before.motion.previous
  pub is : a.setpoint ≡ place_on before.way place before.motion.place
  pub previous : z.previous ≡ a.setpoint
  pub goes : z.setpoint ≡ place_on after.way place after.motion.place

pub goes_by : DoneLaws → (s : Setup) (m : Machine) (ins : List DriveIn) (j place : ℕ)
    (before after : OnPath) → IsMachineKept s m → j < length m.groups →
    place < length (members_at s j) →
    IsTakenOn (look_of_group s m ins j) (group_core_at m j) before after →
    let n = member_at (members_at s j) place in
    GoesBy before after place (axis_at m n) (axis_at (after_cycle s m ins) n)
goes_by laws s m ins j place before after h l k t =
    let members = members_at s j in
    let n = member_at members place in
    let x = group_core_at m j in
    let seen = look_of_group s m ins j in
    let stepped = have_stepped s m ins (length m.groups) h (omega arith) in
    let one = stepped.each j l in
    let looking = one.looking in
    let fits = looking.fits in
    let is = one.is in
    let g = h.groups j l in
    let path = g.core.path before t.path in
    let count = path.count in
    let axes = g.count in
    let few = g.core.axes in
    let most = few.most in
    let a = member_kept s m j place h l k in
    let look = look_of_axis s m ins n in
    let through = goes_through s m ins n h (laws.groups.machines.may_go_on s m ins h) a.there in
    let led = a.placed.led t.within in
    let on = led_on_path (group_at m j) before (axis_core_at m n) t.path led in
    let stands = (a.placed.on on).stands in
    let fine : error_of_group s m ins j ≡ 0 = sym one.error ∙ ap (λ (y : GroupLook). y.error) is
    ∙ t.fine in
    let none = none_fails m.axes ins members place fine k in
    let alright : nat_eq (answer_error_of (axis_at m n) look.input) 0 ≡ true =
    subst (λ y. nat_eq (answer_error_of (axis_at m n) y) 0 ≡ true)
    (sym (look_input s (around_in s ins m) _ n)) none in
    let along = laws.follows look (axis_core_at m n) through.kept through.fits on alright in
    let step : step_at (around_in s ins m).steps j ≡ step_of seen x =
    one.step ∙ ap (λ y. step_of y x) is in
    let asked : look.path ≡ Some (coordinate_of (step_of seen x).places place) =
    look_path s (around_in s ins m) _ n ∙ ap (λ o. place_asked o (around_in s ins m).steps) a.found
    ∙ ap (λ y. Some (coordinate_of y.places place)) step in
    let six : length seen.setpoints ≡ 6 = ap (λ (y : GroupLook). length y.setpoints) (sym is)
    ∙ fits.six in
    let wide : after.way.count ≡ before.way.count = ap (λ y. y.count) t.way in
    let at = laws.lines.places seen x after place t.takes (omega arith) (omega arith) six in
    let there_is : Some (core_after_cycle look (axis_core_at m n)).axis.setpoint ≡ Some
    (coordinate_of (step_of seen x).places place) = sym along.place ∙ asked in
    let now : (core_after_cycle look (axis_core_at m n)).axis.setpoint ≡ coordinate_of
    (step_of seen x).places place = cc in
    let before_is : Some (a.placed.on on).path ≡ Some before = sym (a.placed.on on).on ∙ t.path in
    let it : (a.placed.on on).path ≡ before = cc in
    record {
      was = stands.before_is ∙ ap (λ (p : OnPath). place_on p.way place p.motion.previous) it;
      is = stands.now_is ∙ ap (λ (p : OnPath). place_on p.way place p.motion.place) it;
      previous = ap (λ (y : Axis). y.previous) through.after ∙ along.previous;
      goes = ap (λ (y : Axis). y.setpoint) through.after ∙ now ∙ at;
    }

-- one axis, where the command is done
at_end : DoneLaws → (s : Setup) (m : Machine) (ins : List DriveIn) (j place : ℕ) (w : Wanted) →
    IsMachineKept s m → j < length m.groups → place < length (members_at s j) →
    IsGoing (group_core_at m j) → (group_at m j).group.active ≡ Some w →
    IsDoneOn (look_of_group s m ins j) (group_core_at m j) w →
    let a = axis_at (after_cycle s m ins) (member_at (members_at s j) place) in
    (a.previous ≡ a.setpoint) × (w.kind ≡ kind.MoveLinearAbsolute →
    a.setpoint ≡ coordinate_of w.targets place)
at_end laws s m ins j place w h l k goes active done =
    let same = done.same in
    let way = same.way in
    let g = h.groups j l in
    let path = g.core.path done.before done.path in
    let count = path.count in
    let axes = g.count in
    let by = goes_by laws s m ins j place done.before done.after h l k (record {
      path = done.path;
      takes = done.takes;
      way = way;
      fine = done.fine;
      within = done.within;
    }) in (
      by.previous ∙ by.is ∙ ap (λ y. place_on y place done.before.motion.place) (sym way)
          ∙ ap (place_on done.after.way place) (sym same.previous ∙ sym done.rests) ∙ sym by.goes,
      λ line. by.goes ∙ ap (λ y. place_on y place done.after.motion.place) way ∙ ap
          (place_on done.before.way place) (done.ends line)
          ∙ laws.lines.ends (map (limits_of s) (members_at s j)) (group_at m j).group.axes done.before
          path place (omega arith)
          ∙ ap (λ ts. coordinate_of ts place) (goes w done.before active line done.path),
    )

-- and so all
pub done_there : DoneLaws →
    (s : Setup) (cycles : ℕ) (m : Machine) (e : Entry) (j : ℕ) (w : Wanted) → AreWhole s →
    IsMachineKept s m → IsOf s cycles m e → j < length m.groups →
    IsGoing (group_core_at m j) → (group_at m j).group.active ≡ Some w →
    (group_fate s m e j).ends ≡ Some finish.Done → AreAtEnd s (after s m e) j w
done_there laws s cycles m (call k i reply) j w whole h is l goes active done =
    absurd (group_not_done laws.groups.fates s m k i j done)
done_there laws s cycles m (cycle c rows grows) j w whole h is l goes active done =
    let ins = inputs_of rows in
    let stepped = have_stepped s m ins (length m.groups) h (omega arith) in
    let one = stepped.each j l in
    let kept = subst (λ y. IsCoreKept (limits_in y) (group_core_at m j)) one.is one.looking.kept in
    λ place b. at_end laws s m ins j place w h l b goes active
    (laws.lines.done (look_of_group s m ins j) (group_core_at m j) w kept active done)
done_there laws s cycles m (end_of task) j w whole h is l goes active done =
    absurd (cc)
