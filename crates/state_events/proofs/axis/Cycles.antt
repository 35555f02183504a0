-- The events of a cycle of an axis lead it on.
-- for: axes_change_by_their_events
use Rattle.std.specs.Prelude.{◌≡◌, refl, ℕ, Bool, true, false, not, ◌&&◌, ◌||◌, nat_eq, Option, Some, None, is_some, List, [], ◌∷◌, ◌++◌, slice_get, if◌then◌else◌}
use Rattle.std.specs.Ordering.{int_eq}
use Rattle.std.proofs.Common.{◌∙◌, sym, ap, subst}
use Rattle.axis_core.proofs.ArrivalLaws.{both-true, same-int}
use Rattle.axis_core.proofs.Events.{error_from}
use Rattle.axis_core.proofs.KeptCycles.{may-go-on}
use Rattle.axis_core.proofs.KeptMoves.{Laws}
use Rattle.axis_core.specs.AxisKept.{IsCoreKept, IsLook}
use Rattle.axis_core.specs.Cores.{Core, MayTakeOver, core_after_error}
use Rattle.axis_core.specs.Cycles.{advance_in_cycle, core_after_advance, core_after_answer, core_after_cycle, core_after_going_on, core_after_step}
use Rattle.axis_core.specs.Drives.{answer_error_of, axis_at_drive, has_fault, is_driven}
use Rattle.axis_core.specs.Fates.{cycle_fate, moved_fate}
use Rattle.axis_core.specs.blocks.Halts.{is_at_rest, leaves_stopping}
use Rattle.axis_core.specs.blocks.Power.{state_when_driven}
use Rattle.axis_core.specs.blocks.Reset.{after_reset, may_reset, reset_axis, state_after_reset}
use Rattle.axis_core.specs.declared.axis.Axis.{Axis}
use Rattle.axis_core.specs.declared.look.AxisLook.{AxisLook}
use Rattle.axis_state.specs.Diagram.{next_of}
use Rattle.axis_state.specs.States.{is_error_stop, is_stopping}
use Rattle.axis_state.specs.declared.diagram.AxisEvent.{AxisEvent}
use Rattle.axis_state.specs.declared.diagram.AxisEvent.TheVariants as event
use Rattle.plc_types.specs.declared.axis_state.AxisState.{AxisState}
use Rattle.plc_types.specs.declared.axis_state.AxisState.TheVariants as state
use Rattle.buffer_modes.specs.Fates.{Fate, goes_on, replaced}
use Rattle.buffer_modes.specs.Owners.{is_released}
use Rattle.buffer_modes.specs.declared.reset.PendingReset.{PendingReset}
use Rattle.plc_types.specs.declared.drive.DriveIn.{DriveIn}
use Rattle.command_pool.specs.declared.ending.Finish.TheVariants as finish
use Rattle.state_events.proofs.axis.Ends.{Tail, moves-by, tail_of}
use Rattle.state_events.proofs.axis.Failing.{error-says, failed-run, leaves-says}
use Rattle.state_events.proofs.axis.Rows.{lead-on, led-to, stopping}
use Rattle.state_events.specs.Axis.{Lead, active_by, cycle_events, driven_events, event_where, reset_events, reset_row, rests_in, run_events, state_by, step_events}

-- the first row of a driven spell
enabled-by : (driven : Bool) (s : AxisState) → Lead s (driven_events driven s) (state_when_driven driven s)
enabled-by true state.Disabled = ((state.Standstill, (refl, refl)), refl)
enabled-by true s = refl
enabled-by false s = refl

-- the axis before its Reset and its word
abbrev run_axis : AxisLook → Core → Axis
run_axis look c = (core_after_step look (is_driven c.axis look.input) (core_after_answer look.input c)).axis

-- the events of a driven spell that goes on, by whether the axis rests after its step
abbrev goes : Bool → AxisLook → Core → Fate → List AxisEvent
goes rests look c f =
    let step = step_events look c f in
    step ++ event_where (is_stopping (state_by c.axis.state step) && not (is_some (active_by f c.axis.active)) && rests
    && is_released c.axis.hold look.stop_held) event.StopReleased

-- whether the axis rests after its step
abbrev rests_by : AxisLook → Core → Bool
rests_by look c = is_at_rest (advance_in_cycle (slice_get c.waiting 0) look c.axis).axis

-- what a cycle makes of an axis before its Reset
pub record Ran (driven : Bool) (es : List AxisEvent) (rests : Bool) (before a : Axis) : Type 0 where
  pub leads : Lead before.state es a.state
  pub reset : a.reset ≡ before.reset
  pub on : a.driven ≡ driven
  pub free : (not a.driven || is_at_rest a) ≡ rests

-- Stopping is left, or not
stops-by : (b : Bool) (a : Axis) → (b ≡ true → is_stopping a.state ≡ true) → Lead a.state (event_where b event.StopReleased) (if b then record a { state = next_of event.StopReleased; hold = None } else a).state
stops-by true a h = (stopping a.state (h refl), refl)
stops-by false a h = refl

stop-tail : (b : Bool) (a : Axis) → tail_of (if b then record a { state = next_of event.StopReleased; hold = None } else a) ≡ tail_of a
stop-tail true a = refl
stop-tail false a = refl

-- a driven spell goes on
gone-by : (driven : Bool) (look : AxisLook) (c : Core) → (driven && c.axis.driven) ≡ true → (is_error_stop c.axis.state ≡ false → MayTakeOver c.axis.state c.waiting) →
    Ran driven (goes (rests_by look c) look c (moved_fate look c)) (rests_by look c) c.axis (core_after_going_on look c).axis
gone-by driven look c h may =
    let a = (core_after_advance look c).axis in
    let f = moved_fate look c in
    let es = step_events look c f in
    let m = moves-by look c may in
    let at : a.state ≡ state_by c.axis.state es = led-to c.axis.state a.state es m.leads in
    let same : leaves_stopping look a ≡ (is_stopping (state_by c.axis.state es) && not (is_some (active_by f c.axis.active)) && rests_by look c && is_released c.axis.hold look.stop_held) =
    m.test ∙ (λ i. is_stopping (at i) && not (is_some (m.active i)) && (m.tail i).rest && is_released c.axis.hold look.stop_held) in
    let P : Bool → Type 0 = λ b. Lead a.state (event_where b event.StopReleased) (core_after_going_on look c).axis.state in
    let tail = stop-tail (leaves_stopping look a) a ∙ m.tail in
    let on = both-true driven c.axis.driven h in
    record {
      leads = lead-on c.axis.state a.state _ es _ m.leads (subst P same (stops-by (leaves_stopping look a) a (leaves-says look a)));
      reset = ap (λ (t : Tail). t.reset) tail;
      on = ap (λ (t : Tail). t.driven) tail ∙ on.1 ∙ sym on.0;
      free = ap (λ (t : Tail). not t.driven || t.rest) tail ∙ ap (λ b. not b || rests_by look c) on.1;
    }

or-true : (x y : Bool) → y ≡ true → (x || y) ≡ true
or-true true y h = refl
or-true false y h = h

-- it goes on, or the axis stands where its drive does
ran-by : (e driven : Bool) (look : AxisLook) (c : Core) → (driven && c.axis.driven) ≡ e → (e ≡ true → is_error_stop c.axis.state ≡ false → MayTakeOver c.axis.state c.waiting) →
    (let rests = if e then rests_by look c else true in
    Ran driven (if e then goes rests look c (if e then moved_fate look c else goes_on) else driven_events driven c.axis.state) rests c.axis
    (if e then core_after_going_on look c else record c { axis = axis_at_drive driven look.input c.axis }).axis)
ran-by true driven look c h may = gone-by driven look c h (may refl)
ran-by false driven look c h may =
    let place = (axis_at_drive driven look.input c.axis).setpoint in
    record { leads = enabled-by driven c.axis.state; reset = refl; on = refl; free = or-true (not driven) (int_eq place place) (same-int place place refl) }

-- after an error that the drive's answer brings
failed-ran : (n : ℕ) (driven : Bool) (look : AxisLook) (c : Core) → is_error_stop c.axis.state ≡ false →
    (let x = core_after_error n c in
    Ran driven (event.Error ∷ []) (if driven && x.axis.driven then rests_by look x else true) c.axis (core_after_step look driven x).axis)
unfolding core_after_error
failed-ran n driven look c h =
    let x : Core = core_after_error n c in
    let r = ran-by (driven && x.axis.driven) driven look x refl (λ e s. absurd (cc)) in
    record {
      leads = subst (Lead c.axis.state (event.Error ∷ [])) (sym (failed-run (driven && x.axis.driven) driven n look c)) (error_from c.axis.state h, refl);
      reset = r.reset;
      on = r.on;
      free = r.free;
    }

runs-by : Laws → (look : AxisLook) (c : Core) → IsLook c.axis look → IsCoreKept c →
    Ran (is_driven c.axis look.input) (run_events look c (cycle_fate look c)) (rests_in look c) c.axis (run_axis look c)
unfolding cycle_fate
runs-by g look c brought k = by (nat_eq (answer_error_of c.axis look.input) 0) refl (λ h. (may-go-on g look c brought k h).queue)
  where
    n : ℕ
    n = answer_error_of c.axis look.input

    driven : Bool
    driven = is_driven c.axis look.input

    read : Bool → Core
    read b = if b then c else core_after_error n c

    fate : Bool → Fate
    fate b = if b then (if driven && c.axis.driven then moved_fate look c else goes_on) else replaced (finish.Error n) c.axis.active None

    by : (b : Bool) → nat_eq n 0 ≡ b → ((driven && (read b).axis.driven) ≡ true → MayTakeOver (read b).axis.state (read b).waiting) →
        (let rests = if driven && (read b).axis.driven then rests_by look (read b) else true in
        Ran driven (if b then (if driven && c.axis.driven then goes rests look c (fate b) else driven_events driven c.axis.state) else event.Error ∷ []) rests c.axis
        (core_after_step look driven (read b)).axis)
    by true h may = ran-by (driven && c.axis.driven) driven look c refl (λ e s. may e)
    by false h may = failed-ran n driven look c (error-says c.axis look.input h)

-- a pending Reset is done, or not
resets-to : (driven : Bool) (s : AxisState) → Lead s (reset_row driven s) (state_after_reset driven s)
resets-to true state.ErrorStop = ((state.Standstill, (refl, refl)), refl)
resets-to false state.ErrorStop = ((state.Disabled, (refl, refl)), refl)
resets-to true s = refl
resets-to false s = refl

reset-in : (s : AxisState) (x driven : Bool) → Lead s (if x then reset_row driven s else []) (if not (is_error_stop s) || x then state_after_reset driven s else s)
reset-in state.ErrorStop true driven = resets-to driven state.ErrorStop
reset-in state.ErrorStop false driven = refl
reset-in _ true true = refl
reset-in _ true false = refl
reset-in _ false true = refl
reset-in _ false false = refl

state-of : (b : Bool) (a : Axis) → (if b then after_reset a else a).state ≡ (if b then state_after_reset a.driven a.state else a.state)
state-of true a = refl
state-of false a = refl

reset-by : (o : Option PendingReset) (input : DriveIn) (driven rests : Bool) (a : Axis) → a.driven ≡ driven → (not a.driven || is_at_rest a) ≡ rests →
    Lead a.state (if is_some o && (not (has_fault input) && rests) then reset_row driven a.state else []) (reset_axis o input a).state
reset-by None input driven rests a on free = refl
reset-by (Some p) input driven rests a on free =
    let may = not (has_fault input) && (not a.driven || is_at_rest a) in
    let after = (reset_axis (Some p) input a).state in
    let D : Bool → Type 0 = λ d. Lead a.state (if may then reset_row d a.state else []) after in
    let R : Bool → Type 0 = λ r. Lead a.state (if not (has_fault input) && r then reset_row driven a.state else []) after in
    subst R free (subst D on (subst (Lead a.state (if may then reset_row a.driven a.state else [])) (sym (state-of (may_reset input a) a)) (reset-in a.state may a.driven)))

-- each cycle changes the state by its events
pub cycles-by : Laws → (look : AxisLook) (c : Core) → IsLook c.axis look → IsCoreKept c →
    Lead c.axis.state (cycle_events look c) (core_after_cycle look c).axis.state
unfolding core_after_cycle cycle_events
cycles-by g look c brought k =
    let a = run_axis look c in
    let es = run_events look c (cycle_fate look c) in
    let r = runs-by g look c brought k in
    let at = led-to c.axis.state a.state es r.leads in
    let after = (reset_axis a.reset look.input a).state in
    let O : Option PendingReset → Type 0 = λ o.
    Lead a.state (if is_some o && (not (has_fault look.input) && rests_in look c) then reset_row (is_driven c.axis look.input) a.state else []) after in
    let S : AxisState → Type 0 = λ s. Lead a.state (reset_events look s c) after in
    lead-on c.axis.state a.state after es (reset_events look (state_by c.axis.state es) c) r.leads
    (subst S at (subst O r.reset (reset-by a.reset look.input (is_driven c.axis look.input) (rests_in look c) a r.on r.free)))
