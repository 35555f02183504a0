-- The rows of an axis under a Halt or a Stop slow down.
-- for: rows_slow_under_halts, rows_follow_lines
use Rattle.std.specs.Prelude.{◌≡◌, ◌≢◌, refl, ℕ, ◌<◌, ◌-◌, ◌≤◌, ℤ, ◌+ℤ◌, ◌-ℤ◌, ◌≤ℤ◌, pos, Bool, true, false, ◌&&◌, nat_eq, if◌then◌else◌, unsigned_abs, Option, Some, None, Result, Ok, Err, List, ◌∷◌, ◌++◌, length, slice_get}
use Rattle.std.proofs.Common.{arith, ap, subst, sym, ◌∙◌}
use Rattle.std.proofs.lemmas.Int.{ints}
use Rattle.axis_core.proofs.ArrivalLaws.{active-runs, advances-by, reset-alike, still-driven, stop-alike}
use Rattle.axis_core.proofs.KeptRows.{Place, place-ended_by}
use Rattle.axis_core.specs.AxisKept as kept
use Rattle.axis_core.specs.Arrivals.{course_by, course_in, course_of, slowing}
use Rattle.axis_core.specs.Cores.{Core, core_after_error}
use Rattle.axis_core.specs.Cycles.{Advance, advance_by_progress, advance_in_cycle, axis_after_braking, axis_moved_in, core_after_advance, core_after_answer, core_after_cycle, core_after_going_on, core_after_step, progress_by_step}
use Rattle.axis_core.specs.Drives.{answer_error_of, axis_at_drive, is_driven}
use Rattle.axis_core.specs.Fates.{cycle_fate, moved_fate}
use Rattle.axis_core.specs.Kinds.{wish_by, wish_in}
use Rattle.axis_core.specs.Motions.{is_slowing, slows_in}
use Rattle.axis_core.specs.Profiles.{profile_of}
use Rattle.axis_core.specs.Steps.{old_step_of, step_for_wish, taken_step_in}
use Rattle.axis_core.specs.blocks.Moves.{target_of}
use Rattle.axis_core.specs.blocks.Power.{is_powered}
use Rattle.axis_core.specs.declared.axis.Axis.{Axis}
use Rattle.axis_core.specs.declared.look.AxisLook.{AxisLook}
use Rattle.axis_core.specs.declared.profile.Manner.{Manner}
use Rattle.axis_core.specs.declared.profile.Manner.TheVariants as manner
use Rattle.axis_core.specs.declared.progress.Progress.{Progress}
use Rattle.plc_types.proofs.EveryKind.{every-kind-that}
use Rattle.plc_types.specs.Inputs.{takes}
use Rattle.plc_types.specs.declared.inputs.Input.TheVariants as input
use Rattle.plc_types.specs.declared.axis.AxisRow.{AxisRow}
use Rattle.buffer_modes.specs.Fates.{goes_on, replaced}
use Rattle.command_pool.specs.declared.ending.Finish.TheVariants as finish
use Rattle.plc_types.specs.declared.kind.BlockKind.{BlockKind}
use Rattle.command_pool.specs.declared.wanted.Wanted.{Wanted}
use Rattle.plc_types.specs.declared.group.GroupRow.{GroupRow}
use Rattle.kin_core.specs.Admissible.{IsKept}
use Rattle.kin_core.specs.Laws.{AreBrakingSteps}
use Rattle.kin_core.specs.Toward.{toward_zero}
use Rattle.plc_types.specs.declared.limits.Limits.{Limits}
use Rattle.motion_history.specs.Entries.{Entry, cycle}
use Rattle.motion_history.specs.Setup.{Setup, IsSetup}
use Rattle.motion_kernel.proofs.cycles.OneAxis.{goes_through}
use Rattle.motion_kernel.proofs.kept.Machine.{MachinesStayKept}
use Rattle.motion_kernel.proofs.owners.commands.Events.{there_where}
use Rattle.motion_kernel.specs.Histories.{IsPast, after, inputs_of, machine_after, replay}
use Rattle.motion_kernel.specs.Machine.{Machine, axis_at, axis_core_at, machine_at_opening}
use Rattle.motion_kernel.specs.cycles.Cycles.{after_cycle, look_of_axis}
use Rattle.motion_kernel.specs.kept.Machine.{AreWhole, IsMachineKept}
use Rattle.motion_laws.proofs.Histories.{past_kept, past_so_far}
use Rattle.motion_laws.proofs.entries.events.Histories.{entry_in}
use Rattle.motion_laws.specs.arrivals.AxisFates.{axis_fate}
use Rattle.motion_laws.specs.arrivals.Slowing.{HaltsSlow, Slows}
use Rattle.motion_laws.specs.entries.Rows.{RowsShow}

-- an axis in a cycle before its Reset: a driven spell goes on
abbrev run_axis : AxisLook → Core → Core
run_axis look c =
    core_after_step look (is_driven c.axis look.input) (core_after_answer look.input c)

if_true : {A : Type 0} (b : Bool) (x y : A) → b ≡ true → (if b then x else y) ≡ x
if_true true x y h = refl
if_true false x y h = absurd (cc)

going_run : (look : AxisLook) (c : Core) → nat_eq (answer_error_of c.axis look.input) 0 ≡ true →
    (is_driven c.axis look.input && c.axis.driven) ≡ true →
    run_axis look c ≡ core_after_going_on look c
going_run look c none goes =
    let n = answer_error_of c.axis look.input in
    let d = is_driven c.axis look.input in
    ap (core_after_step look d) (if_true (nat_eq n 0) c (core_after_error n c) none)
    ∙ if_true (d && c.axis.driven) (core_after_going_on look c)
    (record c { axis = axis_at_drive d look.input c.axis }) goes

-- the place of an axis after a cycle is that of its step
pub stepped_place : (look : AxisLook) (c : Core) → nat_eq (answer_error_of c.axis look.input) 0 ≡ true →
    (is_driven c.axis look.input && c.axis.driven) ≡ true →
    (core_after_cycle look c).axis.setpoint
    ≡ (advance_in_cycle (slice_get c.waiting 0) look c.axis).axis.setpoint
unfolding core_after_cycle
stepped_place look c none goes =
    let x = advance_in_cycle (slice_get c.waiting 0) look c.axis in
    let r = (run_axis look c).axis in
    let alike = reset-alike r.reset look.input r in
    let stop = stop-alike look (core_after_advance look c).axis in
    let place = place-ended_by x.ending (record c { axis = x.axis }) in
    alike.setpoint ∙ ap (λ (y : Core). y.axis.setpoint) (going_run look c none goes)
    ∙ stop.setpoint ∙ ap (λ (p : Place). p.setpoint) place

-- a Halt and a Stop want to slow down
abbrev step_of : Axis → ℤ → ℤ
step_of a d = taken_step_in a (toward_zero (old_step_of a) d)

slows_by_rate : (m : Manner) (w : Wanted) (d : ℤ) → course_in m w ≡ Some (slowing d) →
    (slows_in m ≡ true) × (w.rates.d ≡ d)
slows_by_rate manner.Slows w d h = (refl, let e : w.rates.d ≡ d = cc in e)
slows_by_rate _ w d h = absurd (cc)

-- where a progress leads a command that moves so
abbrev place_by : Manner → ℤ → Axis → Result Progress ℕ → ℤ
place_by m t a (Ok p) = (axis_moved_in m t p a).setpoint
place_by m t a (Err n) = (axis_after_braking a).setpoint

place_of_kind : (k : BlockKind) (t : ℤ) (a : Axis) (r : Result Progress ℕ) →
    (advance_by_progress k t a r).axis.setpoint ≡ place_by (profile_of k).manner t a r
place_of_kind k t a (Ok p) = refl
place_of_kind k t a (Err n) = refl

slowing_place : (m : Manner) (t : ℤ) (a : Axis) (w : Wanted) (next : Option Wanted)
    (look : AxisLook) → slows_in m ≡ true →
    place_by m t a (progress_by_step a w next look (step_for_wish a (wish_in m a w next look)))
    ≡ a.setpoint +ℤ step_of a w.rates.d
slowing_place manner.Slows t a w next look h = refl
slowing_place _ t a w next look h = absurd (cc)

slowing_step : (k : BlockKind) (t : ℤ) (a : Axis) (w : Wanted) (next : Option Wanted)
    (look : AxisLook) (d : ℤ) → course_by k w ≡ Some (slowing d) →
    (advance_by_progress k t a (progress_by_step a w next look
    (step_for_wish a (wish_by k a w next look)))).axis.setpoint ≡ a.setpoint +ℤ step_of a d
slowing_step k t a w next look d h =
    let slows = slows_by_rate (profile_of k).manner w d h in
    place_of_kind k t a _ ∙ slowing_place (profile_of k).manner t a w next look slows.0
    ∙ ap (λ x. a.setpoint +ℤ step_of a x) slows.1

-- their deceleration is within the limits
record IsRate (d : ℤ) (l : Limits) : Type 0 where
  least : pos 0 ≤ℤ d
  most : d ≤ℤ l.dmax

slowing_rate : (k : BlockKind) (l : Limits) (w : Wanted) (d : ℤ) →
    course_by k w ≡ Some (slowing d) → kept.AreNumbers k l w → IsRate d l
slowing_rate k l w d h n =
    let slows = slows_by_rate (profile_of k).manner w d h in
    let takes_it = every-kind-that is_slowing (λ x. takes x input.Deceleration) refl k slows.0 in
    let within = n.deceleration takes_it in
    let above = within.above in
    subst (λ x. IsRate x l) slows.1 (record { least = omega (arith, ints); most = within.below })

-- the step that is taken slows down
pub slows_by : (d before now next t : ℤ) → next ≡ now +ℤ t →
    unsigned_abs t ≤ unsigned_abs (now -ℤ before) - unsigned_abs d →
    (before ≤ℤ now → pos 0 ≤ℤ t) → (now ≤ℤ before → t ≤ℤ pos 0) → Slows d before now next
slows_by d before now next t same less up down =
    let size : unsigned_abs (next -ℤ now) ≡ unsigned_abs t = omega (arith, ints) in
    record {
      less = omega arith;
      up = λ h. let ahead = up h in omega (arith, ints);
      down = λ h. let back = down h in omega (arith, ints);
    }

axis_slows : AreBrakingSteps → (look : AxisLook) (c : Core) (w : Wanted) (d : ℤ) →
    kept.IsCoreKept c → c.axis.active ≡ Some w → course_of w ≡ Some (slowing d) →
    nat_eq (answer_error_of c.axis look.input) 0 ≡ true →
    Slows d c.axis.previous c.axis.setpoint (core_after_cycle look c).axis.setpoint
axis_slows laws look c w d k active course none =
    let a = c.axis in
    let next = slice_get c.waiting 0 in
    let axis = k.axis in
    let runs = active-runs a.state a.driven (is_powered a) a.was_off a.previous a.setpoint a.active w
    active axis.state in
    let goes = still-driven a look.input runs.0 runs.1 none in
    let base = axis.base in
    let on = runs.1.on in
    let pair : IsKept a.limits a.previous a.setpoint =
    subst (λ b. kept.IsSet b a.limits a.previous a.setpoint) on base.set in
    let command = axis.active w active in
    let rate = slowing_rate w.kind a.limits w d course command.numbers in
    let is : (core_after_cycle look c).axis.setpoint ≡ a.setpoint +ℤ step_of a d =
    stepped_place look c none goes
    ∙ ap (λ (x : Advance). x.axis.setpoint) (advances-by a w next look runs.0 active)
    ∙ slowing_step w.kind (target_of w) a w next look d course in
    slows_by d a.previous a.setpoint (core_after_cycle look c).axis.setpoint (step_of a d) is
    (laws.slower a.limits a.previous a.setpoint d base.limits pair rate.least rate.most)
    (λ h. laws.forward a.limits a.previous a.setpoint d base.limits pair rate.least rate.most h)
    (λ h. laws.backward a.limits a.previous a.setpoint d base.limits pair rate.least rate.most h)

-- a fate without an error is one of an answer without one
no_error : (look : AxisLook) (c : Core) (w : Wanted) → c.axis.active ≡ Some w →
    ((error : ℕ) → (cycle_fate look c).ends ≢ Some (finish.Error error)) →
    nat_eq (answer_error_of c.axis look.input) 0 ≡ true
unfolding cycle_fate
no_error look c w active plain = by (nat_eq (answer_error_of c.axis look.input) 0) plain
  where
    by : (b : Bool) → ((error : ℕ) → (if b
        then (if is_driven c.axis look.input && c.axis.driven then moved_fate look c else goes_on)
        else replaced (finish.Error (answer_error_of c.axis look.input)) c.axis.active None).ends
        ≢ Some (finish.Error error)) → b ≡ true
    by true h = refl
    by false h = absurd (h (answer_error_of c.axis look.input)
        (ap (λ o. (replaced (finish.Error (answer_error_of c.axis look.input)) o None).ends) active))

-- the laws on which it rests
pub record SlowLaws : Type 0 where
  pub machines : MachinesStayKept
  pub braking : AreBrakingSteps
  pub rows : (s : Setup) (made more : List Entry) (e : Entry) → IsSetup s → AreWhole s →
      IsPast s (made ++ e ∷ more) → RowsShow (after s (machine_after s made) e) e

machine_slows : SlowLaws → (s : Setup) (m : Machine) (c n : ℕ) (rows : List AxisRow)
    (grows : List GroupRow) (w : Wanted) (d : ℤ) → IsMachineKept s m → n < length m.axes →
    (axis_at m n).active ≡ Some w → course_of w ≡ Some (slowing d) →
    ((error : ℕ) → (axis_fate s m (cycle c rows grows) n).ends ≢ Some (finish.Error error)) →
    Slows d (axis_at m n).previous (axis_at m n).setpoint
    (axis_at (after_cycle s m (inputs_of rows)) n).setpoint
machine_slows laws s m c n rows grows w d h l active course plain =
    let ins = inputs_of rows in
    let look = look_of_axis s m ins n in
    let core = axis_core_at m n in
    let machines = laws.machines in
    let goes = goes_through s m ins n h (machines.may_go_on s m ins h) l in
    subst (λ (a : Axis). Slows d (axis_at m n).previous (axis_at m n).setpoint a.setpoint)
    (sym goes.after)
    (axis_slows laws.braking look core w d goes.kept active course
    (no_error look core w active plain))

pub halts_slow : SlowLaws → (s : Setup) (es : List Entry) → IsSetup s → AreWhole s →
    IsPast s es → HaltsSlow s es
unfolding machine_after
halts_slow laws s es setup whole past made more c n rows grows r w d is at active course plain =
    let e = cycle c rows grows in
    let here = subst (IsPast s) is past in
    let m = replay s (machine_at_opening s) made in
    let machines = laws.machines in
    let h = past_kept machines s made setup whole (past_so_far s made (e ∷ more) here) in
    let one = entry_in s 0 (machine_at_opening s) made more e here.follows in
    let entry = one.is in
    let answers = entry.1.answers in
    let there = there_where rows n r at in
    let shows = laws.rows s made more e setup whole here in
    let shown = shows.axes n r at in
    subst (λ z. Slows d (axis_at m n).previous (axis_at m n).setpoint z) (sym shown.setpoint)
    (machine_slows laws s m c n rows grows w d h (omega arith) active course plain)
