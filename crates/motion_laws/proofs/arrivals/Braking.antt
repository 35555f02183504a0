-- The axes of a group slow down along its path under a GroupHalt and a GroupStop.
-- for: rows_follow_lines
use Rattle.std.specs.Prelude.{◌≡◌, ◌≢◌, refl, ℕ, ◌<◌, ℤ, ◌≤ℤ◌, ◌+ℤ◌, pos, Bool, true, false, nat_eq, if◌then◌else◌, Some, None, List, ◌∷◌, length, slice_get}
use Rattle.std.specs.Int.{int_min}
use Rattle.std.proofs.Common.{arith, ap, subst, ◌∙◌}
use Rattle.std.proofs.lemmas.Int.{ints, clamps}
use Rattle.plc_types.specs.declared.axis.AxisRow.{AxisRow}
use Rattle.buffer_modes.specs.Fates.{replaced}
use Rattle.command_pool.specs.declared.ending.Finish.TheVariants as finish
use Rattle.plc_types.specs.declared.kind.BlockKind.{BlockKind}
use Rattle.plc_types.specs.declared.kind.BlockKind.TheVariants as kind
use Rattle.command_pool.specs.declared.wanted.Wanted.{Wanted}
use Rattle.group_core.proofs.KeptParts.{stepping-of}
use Rattle.group_core.proofs.StepLaws.{active-runs, braking-step-is, path-by}
use Rattle.group_core.proofs.TargetLaws.{lives-active, no-error}
use Rattle.group_core.specs.Cores.{Core}
use Rattle.group_core.specs.Courses.{course_by, course_of, slowing}
use Rattle.group_core.specs.Cycles.{ending_of}
use Rattle.group_core.specs.Fates.{cycle_fate, ending_fate, is_failing}
use Rattle.group_core.specs.GroupKept.{AreNumbers, IsCoreKept, IsDeceleration}
use Rattle.group_core.specs.Kinds.{step_by}
use Rattle.group_core.specs.Refusals.{limits_in}
use Rattle.group_core.specs.States.{may_fail}
use Rattle.group_core.specs.Tracks.{OnPath, braking_step_of, moved_by, old_step_of}
use Rattle.group_core.specs.declared.group.Motion.{Motion}
use Rattle.group_core.specs.declared.look.GroupLook.{GroupLook}
use Rattle.plc_types.specs.declared.group.GroupRow.{GroupRow}
use Rattle.plc_types.specs.Limits.{AreLimits}
use Rattle.kin_core.specs.Admissible.{IsKept}
use Rattle.kin_core.specs.Laws.{AreBrakingSteps}
use Rattle.kin_core.specs.Taken.{taken_step_of}
use Rattle.kin_core.specs.Toward.{toward_zero}
use Rattle.motion_history.specs.Entries.{Entry, cycle}
use Rattle.motion_history.specs.Setup.{Setup, IsSetup}
use Rattle.motion_kernel.proofs.kept.GroupSteps.{have_stepped}
use Rattle.motion_kernel.specs.Histories.{IsPast, after, inputs_of, machine_after, replay}
use Rattle.motion_kernel.specs.Machine.{Machine, axis_at, group_at, group_core_at, machine_at_opening}
use Rattle.motion_kernel.specs.cycles.Cycles.{look_of_group}
use Rattle.motion_kernel.specs.kept.Machine.{AreWhole, IsMachineKept}
use Rattle.motion_kernel.specs.members.Members.{member_at, members_at}
use Rattle.motion_laws.proofs.Histories.{past_kept, past_so_far}
use Rattle.motion_laws.proofs.arrivals.Along.{AlongLaws}
use Rattle.motion_laws.proofs.arrivals.PathsDone.{GoesBy, IsTakenOn, goes_by}
use Rattle.motion_laws.proofs.arrivals.Slowing.{slows_by}
use Rattle.motion_laws.specs.arrivals.Braking.{GroupHaltsSlow, SlowsAlong}
use Rattle.motion_laws.specs.arrivals.Slowing.{Slows}

-- what slows brakes the path by its deceleration, which is in its range
halts_by : (k : BlockKind) (w : Wanted) (d : ℤ) → course_by k w ≡ Some (slowing d) →
    AreNumbers k w → IsDeceleration d × ((m : Motion) → step_by k w m ≡ braking_step_of d m)
halts_by kind.GroupHalt w d h n =
    let e : w.rates.d ≡ d = cc in (subst IsDeceleration e n, λ m. ap (λ x. braking_step_of x m) e)
halts_by kind.GroupStop w d h n =
    let e : w.rates.d ≡ d = cc in (subst IsDeceleration e n, λ m. ap (λ x. braking_step_of x m) e)
halts_by kind.MoveLinearAbsolute w d h n = absurd (cc)
halts_by _ w d h n = absurd (cc)

-- the step that brakes a path slows down
brakes_along : AreBrakingSteps → (m : Motion) (d : ℤ) → AreLimits m.limits →
    IsKept m.limits m.previous m.place → IsDeceleration d →
    Slows (int_min d m.limits.dmax) m.previous m.place (m.place +ℤ braking_step_of d m)
brakes_along laws m d are k by =
    let positive = are.amax_positive in
    let within = are.amax_within_dmax in
    let least = by.least in
    let cut = int_min d m.limits.dmax in
    let some : pos 0 ≤ℤ cut = omega (arith, ints, clamps, positive, within, least) in
    let most : cut ≤ℤ m.limits.dmax = omega (arith, ints, clamps) in
    let step = taken_step_of m.limits m.previous m.place (toward_zero (old_step_of m) cut) in
    slows_by cut m.previous m.place (m.place +ℤ braking_step_of d m) step
    (ap (λ z. m.place +ℤ z) (braking-step-is d m))
    (laws.slower m.limits m.previous m.place cut are k some most)
    (λ h. laws.forward m.limits m.previous m.place cut are k some most h)
    (λ h. laws.backward m.limits m.previous m.place cut are k some most h)

-- a command that does not end by an error is one of a group whose axes bring none
none_fails : (members : GroupLook) (c : Core) (w : Wanted) → c.group.active ≡ Some w →
    ((error : ℕ) → (cycle_fate members c).ends ≢ Some (finish.Error error)) →
    is_failing members c ≡ false
unfolding cycle_fate
none_fails members c w active plain = by (is_failing members c) plain
  where
    by : (b : Bool) → ((error : ℕ) →
        (if b then replaced (finish.Error members.error) c.group.active None
        else ending_fate (ending_of c.group c.path) c.waiting).ends
        ≢ Some (finish.Error error)) → b ≡ false
    by true h = absurd (h members.error
        (ap (λ o. (replaced (finish.Error members.error) o None).ends) active))
    by false h = refl

-- the path that its axes take in a cycle
abbrev braked : ℤ → OnPath → OnPath
braked d p = record p { motion = moved_by (braking_step_of d p.motion) p.motion }

takes_on : (members : GroupLook) (c : Core) (w : Wanted) (d : ℤ) (p : OnPath) →
    IsCoreKept (limits_in members) c → c.group.active ≡ Some w → c.path ≡ Some p →
    ((m : Motion) → step_by w.kind w m ≡ braking_step_of d m) → is_failing members c ≡ false →
    IsTakenOn members c p (braked d p)
takes_on members c w d p kept active path step none =
    let lives = lives-active c.group.state c.path c.group.active w kept.state active in
    record {
      path = path;
      takes = path-by members c p w none (active-runs (limits_in members) c w kept active) path active
          ∙ ap (λ z. Some (record p { motion = moved_by z p.motion })) (step p.motion);
      way = refl;
      fine = no-error members.error (nat_eq members.error 0) (may_fail c.group.state) refl lives.1
          none;
      within = lives.0;
    }

-- the laws on which it rests
pub record BrakingLaws : Type 0 where
  pub along : AlongLaws
  pub braking : AreBrakingSteps

slows_along : BrakingLaws → (s : Setup) (m : Machine) (c j : ℕ) (rows : List AxisRow)
    (grows : List GroupRow) (w : Wanted) (d : ℤ) (p : OnPath) → IsMachineKept s m →
    j < length s.groups → (group_at m j).group.active ≡ Some w → course_of w ≡ Some (slowing d) →
    (group_at m j).path ≡ Some p →
    ((error : ℕ) → (cycle_fate (look_of_group s m (inputs_of rows) j) (group_core_at m j)).ends
    ≢ Some (finish.Error error)) →
    ((n : ℕ) (r : AxisRow) → slice_get rows n ≡ Some r →
    r.setpoint ≡ (axis_at (after s m (cycle c rows grows)) n).setpoint) →
    SlowsAlong s m c j rows grows p d
slows_along laws s m c j rows grows w d p h l active course path plain shown =
    let ins = inputs_of rows in
    let seen = look_of_group s m ins j in
    let x = group_core_at m j in
    let sizes = h.sized in
    let groups = sizes.groups in
    let here : j < length m.groups = omega arith in
    let stepped = have_stepped s m ins (length m.groups) h (omega arith) in
    let one = stepped.each j here in
    let kept = subst (λ y. IsCoreKept (limits_in y) x) one.is one.looking.kept in
    let command = kept.active w active in
    let by = halts_by w.kind w d course command.numbers in
    let its = stepping-of x.group.axes (limits_in seen) p kept.axes kept.limits_are
    (kept.path p path) in
    let motion = its.motion in
    let takes = takes_on seen x w d p kept active path by.1 (none_fails seen x w active plain) in
    record {
      takes = takes.takes;
      slows = brakes_along laws.braking p.motion d motion.limits motion.kept by.0;
      axes = λ place r k at.
          let n = member_at (members_at s j) place in
          let goes : GoesBy p (braked d p) place (axis_at m n)
          (axis_at (after s m (cycle c rows grows)) n) =
          goes_by laws.along.done s m ins j place p (braked d p) h here k takes in
          record { was = goes.was; is = goes.is; goes = shown n r at ∙ goes.goes };
    }

pub group_halts_slow : BrakingLaws → (s : Setup) (es : List Entry) → IsSetup s → AreWhole s →
    IsPast s es → GroupHaltsSlow s es
unfolding machine_after
group_halts_slow laws s es setup whole past made more c j rows grows w d p is l active course path
    plain =
    let e = cycle c rows grows in
    let here = subst (IsPast s) is past in
    let m = replay s (machine_at_opening s) made in
    let machines = laws.along.done.groups.machines in
    let h = past_kept machines s made setup whole (past_so_far s made (e ∷ more) here) in
    let shows = laws.along.rows s made more e setup whole here in
    slows_along laws s m c j rows grows w d p h l active course path plain
    (λ n r at. let shown = shows.axes n r at in shown.setpoint)
