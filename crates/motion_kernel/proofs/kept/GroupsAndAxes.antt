-- A machine is kept once its groups and its axes went through a cycle.
-- for: machines_stay_kept
use Rattle.std.specs.Prelude.{◌≡◌, refl, ℕ, ◌<◌, true, false, nat_eq, Option, Some, None, is_some, List, [], length, map, if◌then◌else◌}
use Rattle.std.proofs.Common.{arith, ap, sym, subst, ◌∙◌}
use Rattle.axis_core.specs.Along.{HasFollowed}
use Rattle.axis_core.specs.AxisKept as axis
use Rattle.axis_core.specs.Cores as cores
use Rattle.axis_core.specs.Cycles.{core_after_cycle}
use Rattle.axis_core.specs.Drives.{answer_error_of}
use Rattle.axis_core.specs.blocks.Path.{is_on_path}
use Rattle.axis_core.specs.declared.look.AxisLook.{AxisLook}
use Rattle.plc_types.specs.Counts.{IsCount}
use Rattle.plc_types.specs.declared.axis_state.AxisState.TheVariants.{Standstill, SynchronizedMotion}
use Rattle.plc_types.specs.declared.drive.DriveIn.{DriveIn}
use Rattle.group_core.specs.Cores as group_cores
use Rattle.group_core.specs.Cycles.{cycled, step_of}
use Rattle.group_core.specs.GroupKept as group
use Rattle.group_core.specs.GroupKept.{is_within}
use Rattle.group_core.specs.Tracks.{OnPath}
use Rattle.group_core.specs.declared.look.GroupLook.{GroupLook}
use Rattle.group_core.specs.declared.look.GroupStep.{GroupStep}
use Rattle.linear_path.specs.Line.{coordinate_of}
use Rattle.motion_history.specs.Setup.{Setup}
use Rattle.motion_kernel.specs.cycles.GroupSteps.{GroupsStepped}
use Rattle.motion_kernel.specs.looks.DriveAnswers.{answer_at}
use Rattle.motion_kernel.specs.looks.AxisLooks.{end_asked, place_asked}
use Rattle.motion_kernel.specs.Machine.{Machine, PlacedGroup, axis_at, axis_core_at, group_at, group_core_at}
use Rattle.motion_kernel.specs.kept.Machine.{IsAxisKept, IsGroupKept, IsLed, IsMachineKept, IsMember, IsOnItsPath, IsPlaced, limits_of}
use Rattle.motion_kernel.specs.members.Members.{members_at, membership_of}
use Rattle.motion_kernel.specs.declared.memberships.Membership.{Membership}
use Rattle.motion_kernel.proofs.kept.AxisCalls.{stays_off}
use Rattle.motion_kernel.proofs.kept.AxisCycles.{CycleLaws, HasCycled, HaveCycled, none_fails}
use Rattle.motion_kernel.proofs.kept.Events.{sized_as, untold, untold_placed}
use Rattle.motion_kernel.proofs.kept.AxesEnter.{led_on_path}
use Rattle.motion_kernel.proofs.kept.Standstill.{stands_still}
use Rattle.motion_kernel.proofs.kept.AxisLooks.{IsAsked, IsOf, axis_may_look, is_of}
use Rattle.motion_kernel.proofs.kept.GroupSteps.{HasStepped, HaveStepped, IsLooking}

-- an axis of a group, with what both look at in a cycle
pub record Goes (s : Setup) (m : Machine) (n : ℕ) (at : Membership) (seen : GroupLook) (look : AxisLook) : Type 0 where
  pub of : IsOf s m n at
  pub kept : axis.IsCoreKept (axis_core_at m n)
  pub fits : axis.IsLook (axis_at m n) look
  pub looking : IsLooking s m at.group seen
  pub place : look.path ≡ Some (coordinate_of (step_of seen (group_core_at m at.group)).places at.place)
  pub ends : look.path_ends ≡ (step_of seen (group_core_at m at.group)).ends
  pub alright : seen.error ≡ 0 → nat_eq (answer_error_of (axis_at m n) look.input) 0 ≡ true

abbrev pub after_step : GroupLook → group_cores.Core → PlacedGroup
after_step seen c = record { group = (cycled seen c).group; path = (cycled seen c).path }

stands_by : CycleLaws → (s : Setup) (m : Machine) (n : ℕ) (at : Membership) (seen : GroupLook) (look : AxisLook) (o : Option OnPath) → Goes s m n at seen look →
    (cycled seen (group_core_at m at.group)).path ≡ o → IsOnItsPath (group_at m at.group) at.place (axis_core_at m n) →
    HasFollowed (axis_at m n) look (core_after_cycle look (axis_core_at m n)).axis →
    IsOnItsPath (after_step seen (group_core_at m at.group)) at.place (core_after_cycle look (axis_core_at m n))
stands_by laws s m n at seen look None goes e before f =
    let ends = laws.paths.ends seen (group_core_at m at.group) before.path before.on e in
    let goes_on = f.goes_on in
    let all = goes.ends in
    absurd (cc)
stands_by laws s m n at seen look (Some q) goes e before f =
    let d = group_core_at m at.group in
    let after = (core_after_cycle look (axis_core_at m n)).axis in
    let asked = coordinate_of (step_of seen d).places at.place in
    let looking = goes.looking in
    let stands = laws.members.stands seen d before.path q at.place (axis_at m n).previous (axis_at m n).setpoint looking.fits looking.kept before.on goes.of.few before.stands e in
    let is : Some after.setpoint ≡ Some asked = sym f.place ∙ goes.place in
    let same : after.setpoint ≡ asked = cc in
    record {
      path = q;
      on = e;
      stands = record { before_is = f.previous ∙ stands.before_is; now_is = same ∙ stands.now_is };
    }

-- an axis on the path stands on the one that goes on
stays_on : CycleLaws → (s : Setup) (m : Machine) (n : ℕ) (at : Membership) (seen : GroupLook) (look : AxisLook) (o : Option OnPath) → Goes s m n at seen look →
    (cycled seen (group_core_at m at.group)).path ≡ o → is_on_path (core_after_cycle look (axis_core_at m n)).axis ≡ true →
    IsOnItsPath (after_step seen (group_core_at m at.group)) at.place (core_after_cycle look (axis_core_at m n))
stays_on laws s m n at seen look o goes e on =
    let c = axis_core_at m n in
    let d = group_core_at m at.group in
    let was = (laws.led.cycle look c goes.kept).path on in
    let before = goes.of.member.on was in
    let f = laws.follows.follows look c goes.kept goes.fits was on in
    stands_by laws s m n at seen look o goes e before f

-- and a group that is led after it was led before, and has no error
led_by : CycleLaws → (s : Setup) (m : Machine) (n : ℕ) (at : Membership) (seen : GroupLook) (look : AxisLook) (before after : Option OnPath) → Goes s m n at seen look →
    (group_at m at.group).path ≡ before → (cycled seen (group_core_at m at.group)).path ≡ after →
    axis.IsCoreKept (core_after_cycle look (axis_core_at m n)) → IsLed (group_at m at.group) (axis_core_at m n) → seen.error ≡ 0 →
    IsLed (after_step seen (group_core_at m at.group)) (core_after_cycle look (axis_core_at m n))
led_by laws s m n at seen look None after goes e f kept led fine =
    let c = axis_core_at m n in
    let d = group_core_at m at.group in
    let state : c.axis.state ≡ Standstill = led.state ∙ ap (λ (p : Option OnPath). if is_some p then SynchronizedMotion else Standstill) e in
    let stays = laws.standing look c goes.kept state (goes.alright fine) in
    let still = stands_still (core_after_cycle look c) kept stays in
    let off = laws.members.stays_off seen d e in
    record {
      idle = still.idle;
      alone = still.alone;
      state = stays ∙ ap (λ (p : Option OnPath). if is_some p then SynchronizedMotion else Standstill) (sym off);
    }
led_by laws s m n at seen look (Some p) None goes e f kept led fine =
    let c = axis_core_at m n in
    let d = group_core_at m at.group in
    let on = led_on_path (group_at m at.group) p c e led in
    let along = laws.follows.goes_on look c goes.kept goes.fits on (goes.alright fine) in
    let ends = laws.paths.ends seen d p e f in
    record {
      idle = along.idle;
      alone = along.waiting;
      state = along.stands (goes.ends ∙ ends) ∙ ap (λ (x : Option OnPath). if is_some x then SynchronizedMotion else Standstill) (sym f);
    }
led_by laws s m n at seen look (Some p) (Some q) goes e f kept led fine =
    let c = axis_core_at m n in
    let d = group_core_at m at.group in
    let on = led_on_path (group_at m at.group) p c e led in
    let along = laws.follows.goes_on look c goes.kept goes.fits on (goes.alright fine) in
    let goes_on = laws.paths.goes_on seen d q f in
    record {
      idle = along.idle;
      alone = along.waiting;
      state = along.follows (goes.ends ∙ goes_on) ∙ ap (λ (x : Option OnPath). if is_some x then SynchronizedMotion else Standstill) (sym f);
    }

-- an axis of a group after the cycle
member_cycled : CycleLaws → (s : Setup) (m : Machine) (n : ℕ) (at : Membership) (seen : GroupLook) (look : AxisLook) → Goes s m n at seen look →
    axis.IsCoreKept (core_after_cycle look (axis_core_at m n)) →
    IsMember (after_step seen (group_core_at m at.group)) at.place (core_after_cycle look (axis_core_at m n))
member_cycled laws s m n at seen look goes kept = record {
  on = λ on. stays_on laws s m n at seen look (cycled seen (group_core_at m at.group)).path goes refl on;
  led = λ within.
      let d = group_core_at m at.group in
      let alive = laws.alive.cycle seen d goes.looking.kept within in
      led_by laws s m n at seen look (group_at m at.group).path (cycled seen d).path goes refl refl kept (goes.of.member.led alive.0) alive.1;
}

-- a group after its step is kept
group_cycled : CycleLaws → (s : Setup) (m after : Machine) (ins : List DriveIn) (g : GroupsStepped) (j : ℕ) → IsMachineKept s m → j < length m.groups →
    HasStepped s m ins g j → group_core_at after j ≡ group_core_at g.machine j → IsGroupKept s after j
group_cycled laws s m after ins g j h l one same =
    let limits = map (limits_of s) (members_at s j) in
    let c = group_core_at m j in
    let looking = one.looking in
    let is : group_core_at after j ≡ record (cycled one.seen c) { notes = [] } = same ∙ one.core in
    let kept = laws.groups.cycle one.seen c looking.fits looking.kept in
    let here : group.IsCoreKept limits (cycled one.seen c) = subst (λ ls. group.IsCoreKept ls (cycled one.seen c)) looking.limits kept in
    record {
      core = subst (group.IsCoreKept limits) (sym is) here;
      count = ap (λ (x : group_cores.Core). x.group.axes) is ∙ laws.counts.cycle one.seen c ∙ (h.groups j l).count;
    }

-- what an axis of a group and the group look at
goes_with : CycleLaws → (s : Setup) (m : Machine) (ins : List DriveIn) (g : GroupsStepped) (n : ℕ) (at : Membership) (look : AxisLook) →
    IsMachineKept s m → n < length m.axes → membership_of s n ≡ Some at → HaveStepped s m ins (length m.groups) g → IsAsked s ins g.steps n look →
    (one : HasStepped s m ins g at.group) → Goes s m n at one.seen look
goes_with laws s m ins g n at look h l e stepped asked one =
    let of = is_of s m n at h l e in
    let step = one.step in
    record {
      of = of;
      kept = (h.axes n l).core;
      fits = axis_may_look laws.members s m ins n look g h l stepped asked;
      looking = one.looking;
      place = asked.path ∙ ap (λ o. place_asked o g.steps) e ∙ ap (λ (x : GroupStep). Some (coordinate_of x.places at.place)) step;
      ends = asked.ends ∙ ap (λ o. end_asked o g.steps) e ∙ ap (λ (x : GroupStep). x.ends) step;
      alright = λ fine.
          let none = none_fails m.axes ins (members_at s at.group) at.place (sym one.error ∙ fine) of.among in
          let here = subst (λ k. nat_eq (answer_error_of (axis_at m k) (answer_at ins k)) 0 ≡ true) of.axis none in
          subst (λ x. nat_eq (answer_error_of (axis_at m n) x) 0 ≡ true) (sym asked.input) here;
    }

placed_cycled : CycleLaws → (s : Setup) (m after : Machine) (ins : List DriveIn) (g : GroupsStepped) (n : ℕ) (look : AxisLook) (o : Option Membership) →
    IsMachineKept s m → n < length m.axes → membership_of s n ≡ o → HaveStepped s m ins (length m.groups) g → IsAsked s ins g.steps n look →
    ((j : ℕ) → group_core_at after j ≡ group_core_at g.machine j) →
    axis.IsCoreKept (core_after_cycle look (axis_core_at m n)) → IsPlaced o after (core_after_cycle look (axis_core_at m n))
placed_cycled laws s m after ins g n look None h l e stepped asked groups kept =
    let off : is_on_path (axis_at m n) ≡ false = subst (λ o. IsPlaced o m (axis_core_at m n)) e (h.axes n l).placed in
    let c = axis_core_at m n in
    stays_off (axis_at m n) (core_after_cycle look c).axis (laws.led.cycle look c (h.axes n l).core).path off
placed_cycled laws s m after ins g n look (Some at) h l e stepped asked groups kept =
    let of = is_of s m n at h l e in
    let one = stepped.each at.group of.there in
    let goes = goes_with laws s m ins g n at look h l e stepped asked one in
    let c = core_after_cycle look (axis_core_at m n) in
    let is = groups at.group ∙ one.core in
    let there : group_at after at.group ≡ after_step one.seen (group_core_at m at.group) =
    ap (λ (x : group_cores.Core). record { group = x.group; path = x.path }) is in
    subst (λ (p : PlacedGroup). IsMember p at.place c) (sym there) (member_cycled laws s m n at one.seen look goes kept)

axis_cycled_kept : CycleLaws → (s : Setup) (m after : Machine) (ins : List DriveIn) (g : GroupsStepped) (n : ℕ) → IsMachineKept s m → n < length m.axes →
    HaveStepped s m ins (length m.groups) g → ((j : ℕ) → group_core_at after j ≡ group_core_at g.machine j) → HasCycled s m ins g.steps after n →
    IsCount (answer_at ins n).actual → IsAxisKept s after n
axis_cycled_kept laws s m after ins g n h l stepped groups one count =
    let c = axis_core_at m n in
    let a = h.axes n l in
    let look = one.seen in
    let d = core_after_cycle look c in
    let asked = one.asked in
    let fits = axis_may_look laws.members s m ins n look g h l stepped asked in
    let kept = laws.axes.cycle look c a.core fits (subst (λ (x : DriveIn). IsCount x.actual) (sym asked.input) count) in
    let placed = placed_cycled laws s m after ins g n look (membership_of s n) h l refl stepped asked groups kept in
    let is = one.core in
    record {
      core = subst axis.IsCoreKept (sym is) (untold d kept);
      limits = ap (λ (x : cores.Core). x.axis.limits) is ∙ (laws.definitions.cycle look c).limits ∙ a.limits;
      placed = subst (λ (x : cores.Core). IsPlaced (membership_of s n) after x) (sym is) (untold_placed (membership_of s n) after d placed);
    }

-- the machine is kept once its groups took their steps and its axes went through the cycle
pub moved_machine_kept : CycleLaws → (s : Setup) (m after : Machine) (ins : List DriveIn) (g : GroupsStepped) → IsMachineKept s m →
    HaveStepped s m ins (length m.groups) g → HaveCycled s m ins g (length m.axes) after →
    ((n : ℕ) → n < length m.axes → IsCount (answer_at ins n).actual) → IsMachineKept s after
moved_machine_kept laws s m after ins g h stepped cycled_all counts =
    let size = cycled_all.size in
    let t1 = size.axes in
    let t2 = size.groups in
    record {
      sized = sized_as s m after h.sized size;
      axes = λ n b.
          let l : n < length m.axes = omega arith in
          axis_cycled_kept laws s m after ins g n h l stepped cycled_all.groups (cycled_all.each n l) (counts n l);
      groups = λ j b.
          let l : j < length m.groups = omega arith in
          group_cycled laws s m after ins g j h l (stepped.each j l) (cycled_all.groups j);
    }
