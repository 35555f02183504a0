-- What the step of a cycle makes of an axis: its events lead it on, and what else is asked of it.
-- for: axes_change_by_their_events
use Rattle.std.specs.Prelude.{◌≡◌, IfSome, refl, ℕ, Bool, true, false, not, ◌&&◌, ℤ, ◌+ℤ◌, Option, Some, None, is_some, List, [], ◌∷◌, ◌++◌, slice_get, if◌then◌else◌, Result, Ok, Err}
use Rattle.std.proofs.Common.{sym, subst}
use Rattle.std.proofs.lemmas.Bool.{and_parts}
use Rattle.axis_state.specs.Diagram.{IsFrom}
use Rattle.axis_state.specs.declared.diagram.AxisEvent.{AxisEvent}
use Rattle.axis_state.specs.declared.diagram.AxisEvent.TheVariants as event
use Rattle.plc_types.specs.declared.axis_state.AxisState.{AxisState}
use Rattle.plc_types.specs.declared.axis_state.AxisState.TheVariants as state
use Rattle.buffer_modes.specs.Queue.{active_note}
use Rattle.command_pool.specs.declared.ending.Finish.{Finish}
use Rattle.command_pool.specs.declared.ending.Finish.TheVariants as finish
use Rattle.plc_types.specs.declared.kind.BlockKind.{BlockKind}
use Rattle.command_pool.specs.declared.notes.Note.{Note}
use Rattle.command_pool.specs.declared.wanted.Wanted.{Wanted}
use Rattle.axis_core.specs.Cores.{Core, MayBegin, MayTakeOver, axis_under, axis_under_by, core_after_end, core_after_ending, core_after_error, next_by, state_after_last, core_after_take_over, core_taken_in}
use Rattle.axis_core.specs.Cycles.{Advance, advance_by_command, advance_by_progress, advance_in_cycle, advance_without_error, axis_after_braking, progress_in_cycle}
use Rattle.state_events.specs.Axis.{Lead, active_by, event_where, events_by, fate_events, giving_events, last_events}
use Rattle.axis_core.specs.Kinds.{event_of}
use Rattle.axis_core.specs.Profiles.{profile_of}
use Rattle.axis_core.specs.Fates.{ending_fate, is_blended, taker_in, taker_of}
use Rattle.motion_numbers.specs.Ranges.{is_outside}
use Rattle.axis_state.specs.States.{is_error_stop, is_stopping, is_synchronized}
use Rattle.axis_core.specs.Steps.{axis_after_step}
use Rattle.axis_core.specs.blocks.Moves.{target_of, position_of, with_target}
use Rattle.axis_core.specs.blocks.Path.{is_on_path, axis_after_path, place_on_path}
use Rattle.axis_core.specs.declared.axis.Axis.{Axis}
use Rattle.axis_core.specs.declared.look.AxisLook.{AxisLook}
use Rattle.axis_core.specs.declared.profile.Goal.{Goal}
use Rattle.axis_core.specs.declared.profile.Goal.TheVariants.{FromBefore}
use Rattle.axis_core.specs.declared.progress.Progress.{Progress}
use Rattle.axis_core.specs.blocks.Halts.{is_at_rest, leaves_stopping}
use Rattle.buffer_modes.specs.Owners.{is_released}
use Rattle.buffer_modes.specs.declared.reset.PendingReset.{PendingReset}
use Rattle.axis_core.proofs.Events.{error_from}
use Rattle.state_events.proofs.axis.Rows.{synchronized}

-- whether Stopping is left, by who held it before
abbrev pub test-by : AxisLook → Option ℕ → Axis → Bool
test-by look hold a = is_stopping a.state && not (is_some a.active) && is_at_rest a && is_released hold look.stop_held

-- what a Reset and the end of a cycle look at
pub record Tail : Type 0 where
  pub rest : Bool
  pub reset : Option PendingReset
  pub driven : Bool

abbrev pub tail_of : Axis → Tail
tail_of a = record { rest = is_at_rest a; reset = a.reset; driven = a.driven }

-- what an axis is before its command ends: at rest or not, and not by which command
pub record Seen : Type 0 where
  pub state : AxisState
  pub hold : Option ℕ
  pub tail : Tail

abbrev pub seen_at : Bool → Axis → Seen
seen_at rest a = record { state = a.state; hold = a.hold; tail = record { rest = rest; reset = a.reset; driven = a.driven } }

abbrev seen : Axis → Seen
seen a = seen_at (is_at_rest a) a

-- what becomes of it: events lead it on, a command is active, and it leaves Stopping as before
pub record Becomes (look : AxisLook) (s : Seen) (es : List AxisEvent) (next : Option Wanted) (a : Axis) : Type 0 where
  pub leads : Lead s.state es a.state
  pub active : a.active ≡ next
  pub test : leaves_stopping look a ≡ test-by look s.hold a
  pub tail : tail_of a ≡ s.tail

pub begun-by : (o : Option AxisEvent) (s : AxisState) → IfSome o (IsFrom s) → Lead s (events_by o) (next_by o s)
begun-by None s h = refl
begun-by (Some e) s h = (h, refl)

not-idle : (s r x y : Bool) → (s && false && r && x) ≡ (s && false && r && y)
not-idle true r x y = refl
not-idle false r x y = refl

begun : (look : AxisLook) (w : Wanted) (a : Axis) → MayBegin w.kind a.state → Becomes look (seen a) (events_by (event_of w.kind)) (Some w) (axis_under w a)
unfolding axis_under_by
begun look w a h = record {
  leads = begun-by (event_of w.kind) a.state h;
  active = refl;
  test = not-idle (is_stopping (axis_under w a).state) (is_at_rest a) (is_released (axis_under w a).hold look.stop_held) (is_released a.hold look.stop_held);
  tail = refl;
}

failed : (look : AxisLook) (n : ℕ) (c : Core) → is_error_stop c.axis.state ≡ false → Becomes look (seen c.axis) (event.Error ∷ []) None (core_after_error n c).axis
unfolding core_after_error
failed look n c h = record { leads = (error_from c.axis.state h, refl); active = refl; test = refl; tail = refl }

settled : (s : AxisState) → Lead s (last_events s) (state_after_last s)
settled state.DiscreteMotion = ((state.Standstill, (refl, refl)), refl)
settled state.Homing = ((state.Standstill, (refl, refl)), refl)
settled s = refl

-- the first that waits takes over, or is an error
taken-from : (b : Bool) (look : AxisLook) (w : Wanted) (ws : List Wanted) (target : ℤ) (c : Core) → is_error_stop c.axis.state ≡ false → MayBegin w.kind c.axis.state →
    (let o = if b then None else Some (with_target (Some target) w) in
    Becomes look (seen c.axis) (giving_events o (w ∷ ws) c.axis.state) o
    (if b then core_after_error 106 (record c { axis = record c.axis { active = Some w } }) else record c { axis = axis_under (with_target (Some target) w) c.axis }).axis)
taken-from true look w ws target c s h = failed look 106 (record c { axis = record c.axis { active = Some w } }) s
taken-from false look w ws target c s h = begun look (with_target (Some target) w) c.axis h

-- what waits after the command that ends
abbrev idle : Core → List Wanted → List Note → Core
idle c ws notes = record c { axis = record c.axis { active = None; reached = false }; waiting = ws; notes = notes }

taken-by : (look : AxisLook) (g : Goal) (t : Option ℤ) (w : Wanted) (ws : List Wanted) (notes : List Note) (c : Core) → is_error_stop c.axis.state ≡ false → MayBegin w.kind c.axis.state →
    Becomes look (seen c.axis) (giving_events (taker_in g t w c.axis) (w ∷ ws) c.axis.state) (taker_in g t w c.axis) (core_taken_in g t w (idle c ws notes)).axis
taken-by look (FromBefore base) None w ws notes c s h =
    taken-from (is_outside c.axis.limits.lo (c.axis.setpoint +ℤ position_of w) c.axis.limits.hi) look w ws (c.axis.setpoint +ℤ position_of w) (idle c ws notes) s h
taken-by look (FromBefore base) (Some t) w ws notes c s h = begun look w (idle c ws notes).axis h
taken-by look _ t w ws notes c s h = begun look w (idle c ws notes).axis h

taken : (look : AxisLook) (ws : List Wanted) (notes : List Note) (c : Core) → is_error_stop c.axis.state ≡ false → MayTakeOver c.axis.state ws →
    Becomes look (seen c.axis) (giving_events (taker_of ws c.axis) ws c.axis.state) (taker_of ws c.axis) (core_after_take_over ws (idle c ws notes)).axis
taken look [] notes c s h = record { leads = settled c.axis.state; active = refl; test = refl; tail = refl }
taken look (w ∷ ws) notes c s h = taken-by look (profile_of w.kind).goal w.target w ws notes c s h.0

ended : (look : AxisLook) (f : Finish) (c : Core) → is_error_stop c.axis.state ≡ false → MayTakeOver c.axis.state c.waiting →
    Becomes look (seen c.axis) (giving_events (taker_of c.waiting c.axis) c.waiting c.axis.state) (taker_of c.waiting c.axis) (core_after_end f c).axis
unfolding core_after_end
ended look f c s h = taken look c.waiting (c.notes ++ active_note f c.axis.active) c s h

ended-by : (look : AxisLook) (blends : Bool) (o : Option Finish) (c : Core) → is_error_stop c.axis.state ≡ false → MayTakeOver c.axis.state c.waiting →
    (let f = ending_fate blends o c.waiting c.axis in
    Becomes look (seen c.axis) (fate_events f c.waiting c.axis.state) (active_by f c.axis.active) (core_after_ending o c).axis)
ended-by look blends None c s h = record { leads = refl; active = refl; test = refl; tail = refl }
ended-by look blends (Some (finish.Error n)) c s h = failed look n c s
ended-by look blends (Some finish.Done) c s h = ended look finish.Done c s h
ended-by look blends (Some finish.Aborted) c s h = ended look finish.Aborted c s h

-- the step of a command leaves the axis as it is but for its place
abbrev with_place : Axis → Axis → Axis
with_place x a = record a { previous = x.previous; setpoint = x.setpoint; offset = x.offset; reached = x.reached }

stepped-made : (k : BlockKind) (t : ℤ) (a : Axis) (made : Result Progress ℕ) → (let x = (advance_by_progress k t a made).axis in x ≡ with_place x a)
stepped-made k t a (Ok p) = refl
stepped-made k t a (Err n) = refl

stepped : (o next : Option Wanted) (look : AxisLook) (a : Axis) → (let x = (advance_by_command o next look a).axis in x ≡ with_place x a)
stepped None next look a = refl
stepped (Some w) next look a = stepped-made w.kind (target_of w) a (progress_in_cycle a w next look)

-- what becomes of the axis by its step, and by how its command ends with it
abbrev pub Moves : AxisLook → Core → Option ℤ → Advance → Type 0
Moves look c o x =
    let f = ending_fate (is_blended c.axis.active c) x.ending c.waiting x.axis in
    Becomes look (seen_at (is_at_rest x.axis) c.axis) (event_where (is_some o && look.path_ends) event.PathRest ++ fate_events f c.waiting c.axis.state)
    (active_by f c.axis.active) (core_after_ending x.ending (record c { axis = x.axis })).axis

left : (b : Bool) (look : AxisLook) (a : Axis) → is_synchronized a.state ≡ true →
    Becomes look (seen_at (is_at_rest (axis_after_path b a)) a) (event_where b event.PathRest ++ []) a.active (axis_after_path b a)
left true look a h = record { leads = (synchronized a.state h, refl); active = refl; test = refl; tail = refl }
left false look a h = record { leads = refl; active = refl; test = refl; tail = refl }

moved-from : (o : Option ℤ) (look : AxisLook) (c : Core) → ((place : ℤ) → o ≡ Some place → is_synchronized c.axis.state ≡ true) →
    is_error_stop c.axis.state ≡ false → MayTakeOver c.axis.state c.waiting → Moves look c o (advance_without_error o (slice_get c.waiting 0) look c.axis)
moved-from (Some place) look c on h may = left look.path_ends look (axis_after_step place c.axis) (on place refl)
moved-from None look c on h may =
    let x = advance_by_command c.axis.active (slice_get c.waiting 0) look c.axis in
    let f = ending_fate (is_blended c.axis.active c) x.ending c.waiting x.axis in
    let same : x.axis ≡ with_place x.axis c.axis = stepped c.axis.active (slice_get c.waiting 0) look c.axis in
    let P : Axis → Type 0 = λ y. Becomes look (seen y) (fate_events f c.waiting y.state) (active_by f y.active) (core_after_ending x.ending (record c { axis = x.axis })).axis in
    let Q : Axis → Type 0 = λ y. (is_error_stop y.state ≡ false) × MayTakeOver y.state c.waiting in
    let q : Q x.axis = subst Q (sym same) (h, may) in
    subst P same (ended-by look (is_blended c.axis.active c) x.ending (record c { axis = x.axis }) q.0 q.1)

on-path : (b : Bool) (path : Option ℤ) (place : ℤ) → (if b then path else None) ≡ Some place → b ≡ true
on-path true path place h = refl
on-path false path place h = absurd (cc)

off-path : (s : AxisState) (b : Bool) → is_error_stop s ≡ true → (is_synchronized s && b) ≡ false
off-path state.ErrorStop b h = refl
off-path _ b h = absurd (cc)

no-place : (b : Bool) (path : Option ℤ) (ends : Bool) → b ≡ false → event_where (is_some (if b then path else None) && ends) event.PathRest ≡ []
no-place true path ends h = absurd (cc)
no-place false path ends h = refl

-- the step of a cycle
pub moves-by : (look : AxisLook) (c : Core) → (is_error_stop c.axis.state ≡ false → MayTakeOver c.axis.state c.waiting) →
    Moves look c (place_on_path c.axis look) (advance_in_cycle (slice_get c.waiting 0) look c.axis)
unfolding advance_in_cycle
moves-by look c may =
    elim (is_error_stop c.axis.state) as (λ b. is_error_stop c.axis.state ≡ b → Moves look c (place_on_path c.axis look)
    (if b then record { axis = axis_after_braking c.axis; ending = None } else advance_without_error (place_on_path c.axis look) (slice_get c.waiting 0) look c.axis)) [
      | true ↦ λ e. let P : List AxisEvent → Type 0 = λ es. Becomes look (seen_at (is_at_rest (axis_after_braking c.axis)) c.axis) (es ++ []) c.axis.active (axis_after_braking c.axis) in
          subst P (sym (no-place (is_on_path c.axis) look.path look.path_ends (off-path c.axis.state (not (is_some c.axis.active)) e)))
          (record { leads = refl; active = refl; test = refl; tail = refl })
      | false ↦ λ e. moved-from (place_on_path c.axis look) look c (λ place h. (and_parts (is_synchronized c.axis.state) (not (is_some c.axis.active)) (on-path (is_on_path c.axis) look.path place h)).0) e (may e)
    ] refl
