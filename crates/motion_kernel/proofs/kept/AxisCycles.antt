-- What the axes of a kept machine make of it in a cycle, after its groups' steps.
-- for: machines_stay_kept
use Rattle.std.specs.Prelude.{◌≡◌, refl, ℕ, zero, suc, ◌<◌, ◌≤◌, ℤ, true, nat_eq, List, [], ◌∷◌, length, if◌then◌else◌}
use Rattle.std.proofs.Common.{arith, ap, sym, subst, ◌∙◌, inl, inr}
use Rattle.std.proofs.lemmas.Bool.{cases_Bool, cases_eq}
use Rattle.axis_core.specs.AxisKept as axis
use Rattle.axis_core.specs.Cores as cores
use Rattle.axis_core.specs.Cycles.{core_after_cycle}
use Rattle.axis_core.specs.Drives.{answer_error_of}
use Rattle.axis_core.specs.declared.axis.Axis.{Axis}
use Rattle.axis_core.specs.declared.look.AxisLook.{AxisLook}
use Rattle.plc_types.specs.declared.drive.DriveIn.{DriveIn}
use Rattle.group_core.specs.declared.look.GroupStep.{GroupStep}
use Rattle.motion_history.specs.Setup.{Setup}
use Rattle.motion_kernel.specs.cycles.GroupSteps.{GroupsStepped}
use Rattle.motion_kernel.specs.looks.AxisLooks.{Surroundings, axis_look}
use Rattle.motion_kernel.specs.cycles.AxisCycles.{after_axis_cycle, axes_cycled, core_in_cycle}
use Rattle.motion_kernel.specs.looks.DriveAnswers.{answer_at, first_error}
use Rattle.motion_kernel.specs.Machine.{Machine, axis_among, axis_at, axis_core_at, group_core_at}
use Rattle.motion_kernel.specs.kept.Machine.{IsMachineKept}
use Rattle.motion_kernel.specs.members.Members.{member_at}
use Rattle.motion_kernel.specs.kept.Ready.{MayGoOn}
use Rattle.motion_kernel.proofs.kept.Events.{IsAsLarge, axis_beside_axis, axis_event_size, axis_written, group_beside_axis}
use Rattle.motion_kernel.proofs.kept.Laws.{AxesKeepDefinitions, AxesStayKept, AxesStayLed, CamsInRange, GroupsComeAlive, GroupsKeepAxes, GroupsStayKept, MembersKeepLimits, PathsAreFollowed, PathsChange, StandingStay}
use Rattle.motion_kernel.proofs.kept.AxisLooks.{IsAsked, axis_may_look, is_asked}
use Rattle.motion_kernel.proofs.kept.GroupSteps.{HaveStepped, larger}

-- the laws on which a cycle rests
pub record CycleLaws : Type 0 where
  pub cams : CamsInRange
  pub axes : AxesStayKept
  pub definitions : AxesKeepDefinitions
  pub led : AxesStayLed
  pub follows : PathsAreFollowed
  pub standing : StandingStay
  pub groups : GroupsStayKept
  pub counts : GroupsKeepAxes
  pub alive : GroupsComeAlive
  pub members : MembersKeepLimits
  pub paths : PathsChange

-- an axis after the cycle
pub record HasCycled (s : Setup) (m : Machine) (ins : List DriveIn) (steps : List GroupStep) (after : Machine) (k : ℕ) : Type 0 where
  pub seen : AxisLook
  pub asked : IsAsked s ins steps k seen
  pub core : axis_core_at after k ≡ record (core_after_cycle seen (axis_core_at m k)) { notes = [] }

-- the first n axes of a kept machine have gone through the cycle
pub record HaveCycled (s : Setup) (m : Machine) (ins : List DriveIn) (g : GroupsStepped) (n : ℕ) (after : Machine) : Type 0 where
  pub size : IsAsLarge m after
  pub groups : (j : ℕ) → group_core_at after j ≡ group_core_at g.machine j
  pub later : (k : ℕ) → n ≤ k → k < length m.axes → axis_core_at after k ≡ axis_core_at m k
  pub each : (k : ℕ) → k < n → HasCycled s m ins g.steps after k

cycled_none : (s : Setup) (m : Machine) (ins : List DriveIn) (n : ℕ) (g : GroupsStepped) → HaveStepped s m ins n g → HaveCycled s m ins g 0 g.machine
cycled_none s m ins n g h = record {
  size = h.size;
  groups = λ j. refl;
  later = λ k l b.
      let axes = h.axes in
      let queues = h.queues k b in
      λ i. record { axis = axis_among (axes i) k; waiting = queues i; notes = [] };
  each = λ k b. absurd (omega arith);
}

cycled_more : CamsInRange → (s : Setup) (m : Machine) (ins : List DriveIn) (g : GroupsStepped) (pairs : List (ℤ × ℤ)) (n : ℕ) (after : Machine) →
    IsMachineKept s m → n < length m.axes → HaveCycled s m ins g n after →
    HaveCycled s m ins g (suc n) (after_axis_cycle s (record { answers = ins; pairs = pairs; steps = g.steps }) n after)
cycled_more cams s m ins g pairs n after h l so_far =
    let around : Surroundings = record { answers = ins; pairs = pairs; steps = g.steps } in
    let look = axis_look s around after n in
    let c = core_in_cycle s around n after in
    let sizes = h.sized in
    let s1 = sizes.axes in
    let s3 = sizes.queues in
    let size = so_far.size in
    let t1 = size.axes in
    let t3 = size.queues in
    let same = so_far.later n (omega arith) l in
    let here : HasCycled s m ins g.steps (after_axis_cycle s around n after) n = record {
      seen = look;
      asked = is_asked cams s around after n sizes.setup;
      core = axis_written after n c (omega arith) (omega arith) ∙ ap (λ d. record (core_after_cycle look d) { notes = [] }) same;
    } in
    record {
      size = larger m after (after_axis_cycle s around n after) size (axis_event_size after n c);
      groups = λ j. group_beside_axis after n j c (omega arith) ∙ so_far.groups j;
      later = λ k b x. axis_beside_axis after n k c (λ e. omega arith) ∙ so_far.later k (omega arith) x;
      each = λ k b. elim (cases_eq k n) [
        | inl e ↦ subst (HasCycled s m ins g.steps (after_axis_cycle s around n after)) (sym e) here
        | inr d ↦
            let one = so_far.each k (omega arith) in
            record { seen = one.seen; asked = one.asked; core = axis_beside_axis after n k c d ∙ one.core }
      ];
    }

-- the axes of a kept machine go through the cycle one after another
pub have_cycled : CamsInRange → (s : Setup) (m : Machine) (ins : List DriveIn) (g : GroupsStepped) (pairs : List (ℤ × ℤ)) (n : ℕ) →
    IsMachineKept s m → n ≤ length m.axes → HaveStepped s m ins (length m.groups) g →
    HaveCycled s m ins g n (axes_cycled s n (record { answers = ins; pairs = pairs; steps = g.steps }) g.machine).machine
unfolding axes_cycled
have_cycled cams s m ins g pairs zero h l stepped = cycled_none s m ins (length m.groups) g stepped
have_cycled cams s m ins g pairs (suc n) h l stepped =
    cycled_more cams s m ins g pairs n (axes_cycled s n (record { answers = ins; pairs = pairs; steps = g.steps }) g.machine).machine h (omega arith)
    (have_cycled cams s m ins g pairs n h (omega arith) stepped)

-- each may go through it
pub may_go_on : CamsInRange → MembersKeepLimits → (s : Setup) (m : Machine) (ins : List DriveIn) (g : GroupsStepped) (pairs : List (ℤ × ℤ)) →
    IsMachineKept s m → HaveStepped s m ins (length m.groups) g → MayGoOn s (record { answers = ins; pairs = pairs; steps = g.steps }) g.machine
may_go_on cams members s m ins g pairs h stepped n l =
    let around : Surroundings = record { answers = ins; pairs = pairs; steps = g.steps } in
    let size = stepped.size in
    let t1 = size.axes in
    let b : n < length m.axes = omega arith in
    let after = (axes_cycled s n around g.machine).machine in
    let so_far = have_cycled cams s m ins g pairs n h (omega arith) stepped in
    let same = so_far.later n (omega arith) b in
    let kept = (h.axes n b).core in
    let queue : axis.IsQueueKept (axis_at m n) (axis_core_at m n).waiting = record { numbers = kept.waiting; place = kept.queue } in
    let look = axis_look s around after n in
    let may = axis_may_look members s m ins n look g h b stepped (is_asked cams s around after n h.sized.setup) in
    record {
      queue = subst (λ (c : cores.Core). axis.IsQueueKept c.axis c.waiting) (sym same) queue;
      look = subst (λ (c : cores.Core). axis.IsLook c.axis look) (sym same) may;
    }

-- where no axis of a group has an error
none_fails_in : (axes : List Axis) (ins : List DriveIn) (n : ℕ) (ns : List ℕ) (i : ℕ) → nat_eq (answer_error_of (axis_among axes n) (answer_at ins n)) 0 ≡ true →
    ((k : ℕ) → first_error axes ins ns ≡ 0 → k < length ns → nat_eq (answer_error_of (axis_among axes (member_at ns k)) (answer_at ins (member_at ns k))) 0 ≡ true) →
    first_error axes ins ns ≡ 0 → i < length (n ∷ ns) →
    nat_eq (answer_error_of (axis_among axes (member_at (n ∷ ns) i)) (answer_at ins (member_at (n ∷ ns) i))) 0 ≡ true
none_fails_in axes ins n ns zero none more e l = none
none_fails_in axes ins n ns (suc i) none more e l = more i e (omega arith)

pub none_fails : (axes : List Axis) (ins : List DriveIn) (ns : List ℕ) (i : ℕ) → first_error axes ins ns ≡ 0 → i < length ns →
    nat_eq (answer_error_of (axis_among axes (member_at ns i)) (answer_at ins (member_at ns i))) 0 ≡ true
none_fails axes ins [] i e l = absurd (omega arith)
none_fails axes ins (n ∷ ns) i e l = elim (cases_Bool (nat_eq (answer_error_of (axis_among axes n) (answer_at ins n)) 0)) [
  | inl none ↦
      let more : first_error axes ins ns ≡ 0 = sym (ap (λ b. if b then first_error axes ins ns else answer_error_of (axis_among axes n) (answer_at ins n)) none) ∙ e in
      none_fails_in axes ins n ns i none (none_fails axes ins ns) more l
  | inr some ↦
      let is : answer_error_of (axis_among axes n) (answer_at ins n) ≡ 0 =
      sym (ap (λ b. if b then first_error axes ins ns else answer_error_of (axis_among axes n) (answer_at ins n)) some) ∙ e in
      absurd (let x = ap (λ b. nat_eq b 0) is in cc)
]
