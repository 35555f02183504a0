-- What brings an axis or a group its error in a cycle of the machine.
-- for: errors_have_causes
use Rattle.std.specs.Prelude.{◌≡◌, ℕ, ℤ, refl, ◌+ℤ◌, ◌<◌, true, false, nat_eq, List, length}
use Rattle.std.proofs.Common.{arith, ap, subst, sym, inl, inr, ◌∙◌}
use Rattle.axis_core.specs.AxisKept as kept
use Rattle.axis_core.specs.Drives.{answer_error_of}
use Rattle.axis_core.specs.declared.axis.Axis.{Axis}
use Rattle.axis_state.specs.States as axis
use Rattle.plc_types.specs.declared.drive.DriveIn.{DriveIn}
use Rattle.group_core.specs.States.{is_error_stop}
use Rattle.group_core.specs.declared.look.GroupLook.{GroupLook}
use Rattle.plc_types.specs.Limits.{AreLimits}
use Rattle.kin_core.specs.Admissible.{IsKept, IsSafe}
use Rattle.kin_core.specs.Taken.{taken_step_of}
use Rattle.plc_types.specs.declared.limits.Limits.{Limits}
use Rattle.motion_history.specs.Setup.{Setup}
use Rattle.motion_kernel.proofs.cycles.OneAxis.{goes_through}
use Rattle.motion_kernel.proofs.kept.GroupSteps.{have_stepped}
use Rattle.motion_kernel.proofs.kept.Machine.{MachinesStayKept}
use Rattle.motion_kernel.specs.Machine.{Machine, axis_at, axis_core_at, group_at, group_core_at}
use Rattle.motion_kernel.specs.cycles.Cycles.{after_cycle, look_of_axis, look_of_group}
use Rattle.motion_kernel.specs.kept.Machine.{IsMachineKept}
use Rattle.motion_kernel.specs.looks.DriveAnswers.{answer_at, first_error}
use Rattle.motion_kernel.specs.members.Members.{member_at, members_at}
use Rattle.motion_laws.proofs.causes.Answers.{answer_brings, answer_running}
use Rattle.motion_laws.proofs.causes.AxisCycles.{cycle_caused}
use Rattle.motion_laws.proofs.causes.Exactly.{none_brings}
use Rattle.motion_laws.proofs.causes.Wishes.{TakesSafe}
use Rattle.motion_laws.proofs.entries.numbers.Cycles.{IsFirst, first_in, group_kept}
use Rattle.motion_laws.proofs.entries.numbers.Groups.{has_failed}
use Rattle.motion_laws.specs.causes.Axis.{AnswerBrings, CycleBrings}
use Rattle.motion_laws.specs.causes.Group.{FailsByAxis}

-- what is taken of a safe step is that step. kin_core's taken_steps_keep
abbrev pub TakesExactly : Type 0
TakesExactly = (limits : Limits) (before now wanted : ℤ) → AreLimits limits →
    IsKept limits before now → IsSafe limits before now (now +ℤ wanted) →
    taken_step_of limits before now wanted ≡ wanted

-- of an axis that is kept
pub takes_safe : TakesExactly → (a : Axis) → kept.IsAxisKept a → a.driven ≡ true → TakesSafe a
takes_safe exact a h driven step safe =
    let base = h.base in
    let set : IsKept a.limits a.previous a.setpoint =
    subst (λ b. kept.IsSet b a.limits a.previous a.setpoint) driven base.set in
    exact a.limits a.previous a.setpoint step base.limits set safe

pub axis_brought : TakesExactly → MachinesStayKept → (s : Setup) (m : Machine)
    (ins : List DriveIn) (n : ℕ) → IsMachineKept s m → n < length m.axes →
    axis.is_error_stop (axis_at m n).state ≡ false →
    axis.is_error_stop (axis_at (after_cycle s m ins) n).state ≡ true →
    CycleBrings (look_of_axis s m ins n) (axis_core_at m n)
    (axis_at (after_cycle s m ins) n).setpoint (axis_at (after_cycle s m ins) n).error
axis_brought exact laws s m ins n h l running stopped =
    let look = look_of_axis s m ins n in
    let core = axis_core_at m n in
    let goes = goes_through s m ins n h (laws.may_go_on s m ins h) l in
    let is = goes.after in
    let core_kept = goes.kept in
    subst (λ (a : Axis). CycleBrings look core a.setpoint a.error) (sym is)
    ((cycle_caused look core refl (takes_safe exact (axis_at m n) core_kept.axis) running).axis
    (ap (λ (a : Axis). axis.is_error_stop a.state) (sym is) ∙ stopped))

-- an error of a member is that of its first axis whose drive brings one
axis_first : (s : Setup) (m : Machine) (ins : List DriveIn) (j : ℕ) →
    IsFirst m.axes ins (members_at s j) → (error : ℕ) →
    nat_eq (first_error m.axes ins (members_at s j)) 0 ≡ false →
    first_error m.axes ins (members_at s j) ≡ error → FailsByAxis s m ins j error
axis_first s m ins j first error fails same =
    let n = member_at (members_at s j) first.place in
    let is = first.is in
    let some : nat_eq (answer_error_of (axis_at m n) (answer_at ins n)) 0 ≡ false =
    ap (λ x. nat_eq x 0) is ∙ fails in
    record {
      place = first.place;
      there = first.there;
      running = answer_running (axis_at m n) (answer_at ins n) some;
      brings = subst (AnswerBrings (axis_at m n) (answer_at ins n)) (is ∙ same)
          (answer_brings (axis_at m n) (answer_at ins n) some);
      first = λ p b runs x brings. none_brings (axis_at m (member_at (members_at s j) p))
          (answer_at ins (member_at (members_at s j) p)) (first.before p b) runs x brings;
    }

pub fails_by : (s : Setup) (m : Machine) (ins : List DriveIn) (j : ℕ) → IsMachineKept s m →
    j < length m.groups → nat_eq (look_of_group s m ins j).error 0 ≡ false →
    FailsByAxis s m ins j (look_of_group s m ins j).error
fails_by s m ins j h l fails =
    let look = look_of_group s m ins j in
    let steps = have_stepped s m ins (length m.groups) h (omega arith) in
    let one = steps.each j l in
    let read : look.error ≡ first_error m.axes ins (members_at s j) =
    subst (λ (y : GroupLook). y.error ≡ first_error m.axes ins (members_at s j)) one.is one.error in
    let none = ap (λ x. nat_eq x 0) (sym read) ∙ fails in
    axis_first s m ins j (first_in m.axes ins (members_at s j) none) look.error none (sym read)

pub group_failed : (s : Setup) (m : Machine) (ins : List DriveIn) (j : ℕ) → IsMachineKept s m →
    j < length m.groups → is_error_stop (group_at m j).group.state ≡ false →
    is_error_stop (group_at (after_cycle s m ins) j).group.state ≡ true →
    FailsByAxis s m ins j (group_at (after_cycle s m ins) j).group.error
group_failed s m ins j h l before now =
    let look = look_of_group s m ins j in
    let left = group_kept s m ins j h l in
    let failed = has_failed look (group_core_at m j) before (left.state now) in
    let after = (group_at (after_cycle s m ins) j).group in
    let error : look.error ≡ after.error = elim left.error [
      | inl same ↦ sym (same ∙ failed.error)
      | inr out ↦ absurd (cc)
    ] in
    subst (FailsByAxis s m ins j) error (fails_by s m ins j h l failed.is)
