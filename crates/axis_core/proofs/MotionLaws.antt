-- A move and a halt lead the axis by the taken steps of their plans.
-- for: moves_go_on_by_their_steps
use Rattle.std.specs.Prelude.{◌≡◌, ◌↔◌, refl, Bool, true, false, ◌&&◌, nat_eq, ℤ, ◌+ℤ◌, Ok, Option, Some, None, List, slice_get, if◌then◌else◌}
use Rattle.std.proofs.Common.{◌∙◌, sym, ap, subst}
use Rattle.blend_plan.specs.BlendRun.{blend_taken_of}
use Rattle.command_pool.specs.declared.ending.Finish.{Finish}
use Rattle.command_pool.specs.declared.ending.Finish.TheVariants as finish
use Rattle.command_pool.specs.declared.wanted.Wanted.{Wanted}
use Rattle.kin_core.specs.Toward.{toward_zero}
use Rattle.trapezoid_plan.specs.MoveRun.{halt_taken_of, move_taken_of}
use Rattle.axis_core.specs.AxisKept.{IsCoreKept, IsRunning}
use Rattle.axis_core.specs.Calls.{core_after_command, core_after_verdict}
use Rattle.axis_core.specs.Cores.{Core, core_after_ending}
use Rattle.axis_core.specs.Cycles.{Advance, advance_by_progress, core_after_answer, core_after_cycle, axis_after_progress, axis_after_word, core_after_going_on, core_after_advance, progress_in_cycle, progress_by_step, core_after_step}
use Rattle.axis_core.specs.Drives.{answer_error_of, is_driven, axis_at_drive}
use Rattle.buffer_modes.specs.Fates.{Fate, goes_on, replaced}
use Rattle.axis_core.specs.Fates.{cycle_fate, ending_fate, is_blended, moved_fate}
use Rattle.axis_core.specs.Kinds.{ending_by}
use Rattle.axis_core.specs.Motions.{Leads, halt_step_taken, is_slowing, move_step_taken}
use Rattle.axis_core.specs.Refusals.{Asked, refusal_of}
use Rattle.axis_state.specs.States.{is_error_stop}
use Rattle.axis_core.specs.Steps.{ends_where, axis_after_step, old_step_of, step_for_wish, taken_step_in}
use Rattle.axis_core.specs.blocks.Halts.{is_rest, axis_after_stop}
use Rattle.axis_core.specs.blocks.Moves.{is_done_by, blended_with, is_move, move_step_with, target_of}
use Rattle.axis_core.specs.blocks.Power.{is_powered}
use Rattle.axis_core.specs.blocks.Reset.{reset_axis}
use Rattle.axis_core.specs.declared.axis.Axis.{Axis}
use Rattle.axis_core.specs.declared.blocks.moves.SecondMove.{SecondMove}
use Rattle.axis_core.specs.declared.look.AxisLook.{AxisLook}
use Rattle.axis_core.specs.declared.reason.Reason.{Reason}
use Rattle.axis_core.proofs.ArrivalLaws.{AreAlike, active-runs, advances-by, ending-halt, ending-move, followed-halt, followed-move, given-alike, only-true, progress_at, reset-alike, still-driven, stop-alike, wish-halt, wish-move}
use Rattle.axis_core.proofs.KeptRows.{Place, place-ended_by}
use Rattle.axis_core.specs.Profiles.{profile_of}

-- how a cycle goes on an axis with an active command, where the drive's answer brings no error: the
-- axis advances
by-advance : (R : Fate → Axis → Type 0) (look : AxisLook) (c : Core) (w : Wanted) → IsCoreKept c → c.axis.active ≡ Some w →
    nat_eq (answer_error_of c.axis look.input) 0 ≡ true →
    ((f : Fate) (a b : Axis) → AreAlike a b → R f a → R f b) →
    R (moved_fate look c) (core_after_advance look c).axis →
    R (cycle_fate look c) (core_after_cycle look c).axis
unfolding cycle_fate core_after_cycle
by-advance R look c w kept e none alike moves =
    let runs = active-runs c.axis.state c.axis.driven (is_powered c.axis) c.axis.was_off c.axis.previous c.axis.setpoint c.axis.active w e kept.axis.state in
    let after = core_after_step look (is_driven c.axis look.input) (core_after_answer look.input c) in
    let a = (core_after_advance look c).axis in
    let goes : R (moved_fate look c) (core_after_going_on look c).axis = alike (moved_fate look c) a (axis_after_stop look a) (stop-alike look a) moves in
    alike (cycle_fate look c) after.axis (axis_after_word look.input (reset_axis after.axis.reset look.input after.axis))
    (given-alike look.input after.axis (reset_axis after.axis.reset look.input after.axis) (reset-alike after.axis.reset look.input after.axis))
    (by (nat_eq (answer_error_of c.axis look.input) 0) refl none runs.0 runs.1 goes _)
  where
    by : (b : Bool) → nat_eq (answer_error_of c.axis look.input) 0 ≡ b → b ≡ true → is_error_stop c.axis.state ≡ false → IsRunning c.axis.driven (is_powered c.axis) →
        R (moved_fate look c) (core_after_going_on look c).axis → (failed : Core) →
        R (if b then (if is_driven c.axis look.input && c.axis.driven then moved_fate look c else goes_on) else replaced (finish.Error (answer_error_of c.axis look.input)) c.axis.active None)
        (core_after_step look (is_driven c.axis look.input) (if b then c else failed)).axis
    by true h t s r goes failed =
        only-true (is_driven c.axis look.input && c.axis.driven) (moved_fate look c) goes_on (core_after_going_on look c) (record c { axis = axis_at_drive (is_driven c.axis look.input) look.input c.axis })
        (λ (f : Fate) (d : Core). R f d.axis) (still-driven c.axis look.input s r h) goes
    by false h t s r goes failed = absurd (cc)

leads-alike : (step : ℤ) (done : Bool) (before : Axis) (f : Fate) (a b : Axis) → AreAlike a b → Leads step done before f a → Leads step done before f b
leads-alike step done before f a b s h = record { takes = record { setpoint = s.setpoint ∙ h.takes.setpoint; previous = s.previous ∙ h.takes.previous }; ends = h.ends }

fate-ends : (done blends : Bool) (ws : List Wanted) (a : Axis) → ((ending_fate blends (ends_where done finish.Done) ws a).ends ≡ Some finish.Done) ↔ (done ≡ true)
fate-ends true blends ws a = (λ h. refl, λ h. refl)
fate-ends false blends ws a = (λ h. absurd (cc), λ h. absurd (cc))

concludes : (done blends : Bool) (step : ℤ) (c : Core) (b : Axis) → AreAlike (axis_after_step (c.axis.setpoint +ℤ step) c.axis) b →
    Leads step done c.axis (ending_fate blends (ends_where done finish.Done) c.waiting b) (core_after_ending (ends_where done finish.Done) (record c { axis = b })).axis
concludes done blends step c b alike =
    let place = place-ended_by (ends_where done finish.Done) (record c { axis = b }) in
    record {
      takes = record { setpoint = ap (λ (p : Place). p.setpoint) place ∙ alike.setpoint; previous = ap (λ (p : Place). p.previous) place ∙ alike.previous };
      ends = fate-ends done blends c.waiting b;
    }

-- the taken step of a move in its plan's words
step-is : (o : Option SecondMove) (a : Axis) (w : Wanted) → taken_step_in a (move_step_with o a w) ≡ move_step_taken o a w
unfolding move_taken_of blend_taken_of
step-is None a w = refl
step-is (Some s) a w = refl

halt-is : (a : Axis) (w : Wanted) → taken_step_in a (toward_zero (old_step_of a) w.rates.d) ≡ halt_step_taken a w
unfolding halt_taken_of
halt-is a w = refl

-- from the step that a command takes, and how that ends it
by-progress : (step : ℤ) (done : Bool) (look : AxisLook) (c : Core) (w : Wanted) → c.axis.active ≡ Some w → is_error_stop c.axis.state ≡ false →
    progress_in_cycle c.axis w (slice_get c.waiting 0) look ≡ Ok (progress_at c.axis w (slice_get c.waiting 0) look step) →
    ending_by w.kind c.axis w (slice_get c.waiting 0) step look ≡ ends_where done finish.Done →
    AreAlike (axis_after_step (c.axis.setpoint +ℤ step) c.axis) (axis_after_progress w.kind (target_of w) (progress_at c.axis w (slice_get c.waiting 0) look step) c.axis) →
    Leads step done c.axis (moved_fate look c) (core_after_advance look c).axis
by-progress step done look c w e s made ends alike =
    let a = c.axis in
    let next = slice_get c.waiting 0 in
    let p = progress_at a w next look step in
    let b = axis_after_progress w.kind (target_of w) p a in
    let blends = is_blended c.axis.active c in
    let is = advances-by a w next look s e ∙ ap (advance_by_progress w.kind (target_of w) a) made in
    let P : Advance → Type 0 = λ x. Leads step done a (ending_fate blends x.ending c.waiting x.axis) (core_after_ending x.ending (record c { axis = x.axis })).axis in
    let Q : Option Finish → Type 0 = λ f. P (record { axis = b; ending = f }) in
    subst P (sym is) (subst Q (sym ends) (concludes done blends step c b alike))

moved-leads : (look : AxisLook) (c : Core) (w : Wanted) → c.axis.active ≡ Some w → is_move w.kind ≡ true → is_error_stop c.axis.state ≡ false →
    Leads (taken_step_in c.axis (move_step_with (blended_with c.axis w (slice_get c.waiting 0)) c.axis w))
    (is_done_by (blended_with c.axis w (slice_get c.waiting 0)) c.axis w (taken_step_in c.axis (move_step_with (blended_with c.axis w (slice_get c.waiting 0)) c.axis w)))
    c.axis (moved_fate look c) (core_after_advance look c).axis
moved-leads look c w e m s =
    let a = c.axis in
    let next = slice_get c.waiting 0 in
    let step = taken_step_in a (move_step_with (blended_with a w next) a w) in
    by-progress step _ look c w e s (ap (λ o. progress_by_step a w next look (step_for_wish a o)) (wish-move (profile_of w.kind).manner a w next look m))
    (ending-move w.kind a w next step look m) (followed-move w.kind (target_of w) (progress_at a w next look step) a m)

pub moves-lead : (look : AxisLook) (c : Core) (w : Wanted) → IsCoreKept c → c.axis.active ≡ Some w → is_move w.kind ≡ true → nat_eq (answer_error_of c.axis look.input) 0 ≡ true →
    Leads (move_step_taken (blended_with c.axis w (slice_get c.waiting 0)) c.axis w)
    (is_done_by (blended_with c.axis w (slice_get c.waiting 0)) c.axis w (move_step_taken (blended_with c.axis w (slice_get c.waiting 0)) c.axis w))
    c.axis (cycle_fate look c) (core_after_cycle look c).axis
moves-lead look c w kept e m none =
    let o = blended_with c.axis w (slice_get c.waiting 0) in
    let runs = (active-runs c.axis.state c.axis.driven (is_powered c.axis) c.axis.was_off c.axis.previous c.axis.setpoint c.axis.active w e kept.axis.state).0 in
    let P : ℤ → Type 0 = λ x. Leads x (is_done_by o c.axis w x) c.axis (moved_fate look c) (core_after_advance look c).axis in
    let step = move_step_taken o c.axis w in
    by-advance (Leads step (is_done_by o c.axis w step) c.axis) look c w kept e none (leads-alike step (is_done_by o c.axis w step) c.axis)
    (subst P (step-is o c.axis w) (moved-leads look c w e m runs))

halted-leads : (look : AxisLook) (c : Core) (w : Wanted) → c.axis.active ≡ Some w → is_slowing w.kind ≡ true → is_error_stop c.axis.state ≡ false →
    Leads (taken_step_in c.axis (toward_zero (old_step_of c.axis) w.rates.d)) (is_rest (taken_step_in c.axis (toward_zero (old_step_of c.axis) w.rates.d)))
    c.axis (moved_fate look c) (core_after_advance look c).axis
halted-leads look c w e m s =
    let a = c.axis in
    let next = slice_get c.waiting 0 in
    let step = taken_step_in a (toward_zero (old_step_of a) w.rates.d) in
    by-progress step _ look c w e s (ap (λ o. progress_by_step a w next look (step_for_wish a o)) (wish-halt (profile_of w.kind).manner a w next look m))
    (ending-halt w.kind a w next step look m) (followed-halt w.kind (target_of w) (progress_at a w next look step) a m)

pub halts-lead : (look : AxisLook) (c : Core) (w : Wanted) → IsCoreKept c → c.axis.active ≡ Some w → is_slowing w.kind ≡ true → nat_eq (answer_error_of c.axis look.input) 0 ≡ true →
    Leads (halt_step_taken c.axis w) (is_rest (halt_step_taken c.axis w)) c.axis (cycle_fate look c) (core_after_cycle look c).axis
halts-lead look c w kept e m none =
    let runs = (active-runs c.axis.state c.axis.driven (is_powered c.axis) c.axis.was_off c.axis.previous c.axis.setpoint c.axis.active w e kept.axis.state).0 in
    let P : ℤ → Type 0 = λ x. Leads x (is_rest x) c.axis (moved_fate look c) (core_after_advance look c).axis in
    let step = halt_step_taken c.axis w in
    by-advance (Leads step (is_rest step) c.axis) look c w kept e none (leads-alike step (is_rest step) c.axis)
    (subst P (halt-is c.axis w) (halted-leads look c w e m runs))

pub refused-stays : (q : Asked) (c : Core) (r : Reason) → refusal_of q ≡ Some r → core_after_command q c ≡ c
unfolding core_after_command
refused-stays q c r h = ap (λ o. core_after_verdict o q.wanted c) h
