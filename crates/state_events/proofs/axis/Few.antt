-- At most one event comes by a call on an axis, and at most three in a cycle.
-- for: events_are_few
use Rattle.std.specs.Prelude.{◌≡◌, refl, ◌≤◌, Bool, true, false, not, ◌&&◌, nat_eq, ℤ, Option, Some, None, is_some, List, [], ◌∷◌, ◌++◌, length, slice_get, if◌then◌else◌}
use Rattle.std.proofs.Common.{arith, length-append, subst, sym}
use Rattle.axis_state.specs.States.{is_error_stop}
use Rattle.axis_state.specs.declared.diagram.AxisEvent.{AxisEvent}
use Rattle.axis_state.specs.declared.diagram.AxisEvent.TheVariants as event
use Rattle.plc_types.specs.declared.axis_state.AxisState.{AxisState}
use Rattle.plc_types.specs.declared.axis_state.AxisState.TheVariants as state
use Rattle.axis_core.specs.Cores.{Core}
use Rattle.axis_core.specs.Cycles.{Advance, advance_in_cycle, advance_without_error}
use Rattle.axis_core.specs.Drives.{answer_error_of, has_fault, is_driven}
use Rattle.axis_core.specs.Fates.{command_fate, cycle_fate, ending_fate, is_blended, moved_fate}
use Rattle.axis_core.specs.Kinds.{event_of}
use Rattle.axis_core.specs.Profiles.{profile_of}
use Rattle.axis_core.specs.Refusals.{Asked}
use Rattle.axis_core.specs.blocks.Path.{place_on_path}
use Rattle.axis_core.specs.declared.axis.Axis.{Axis}
use Rattle.axis_core.specs.declared.look.AxisLook.{AxisLook}
use Rattle.axis_core.specs.declared.profile.Entry.{Entry}
use Rattle.axis_core.specs.declared.profile.Entry.TheVariants.{Leaves}
use Rattle.buffer_modes.specs.Fates.{Fate, goes_on, replaced}
use Rattle.command_pool.specs.declared.ending.Finish.{Finish}
use Rattle.command_pool.specs.declared.ending.Finish.TheVariants as finish
use Rattle.command_pool.specs.declared.wanted.Wanted.{Wanted}
use Rattle.group_core.proofs.KeptCalls.{by-if}
use Rattle.state_events.specs.Axis.{begin_events, command_events, cycle_events, driven_events, ending_events, event_where, events_by, giving_events, going_events, last_events, path_events, power_events, release_events, reset_events, reset_row, rests_in, run_events, state_by, step_events}

where_few : (b : Bool) (e : AxisEvent) → length (event_where b e) ≤ 1
where_few true e = omega arith
where_few false e = omega arith

by_few : (o : Option AxisEvent) → length (events_by o) ≤ 1
by_few None = omega arith
by_few (Some e) = omega arith

-- a call
begin_few : (x : Entry) (o : Option Wanted) → length (begin_events x o) ≤ 1
begin_few Leaves None = omega arith
begin_few Leaves (Some w) = omega arith
begin_few _ None = omega arith
begin_few _ (Some w) = by_few (event_of w.kind)

pub command_few : (q : Asked) (c : Core) → length (command_events q c) ≤ 1
unfolding command_events
command_few q c = begin_few (profile_of q.wanted.kind).entry (command_fate q c).begins

pub power_few : (enable : Bool) (s : AxisState) → length (power_events enable s) ≤ 1
power_few enable s = where_few (not enable && not (is_error_stop s)) event.PowerOff

pub path_few : (on : Bool) (s : AxisState) → length (path_events on s) ≤ 1
path_few true state.Standstill = omega arith
path_few false state.SynchronizedMotion = omega arith
path_few true _ = omega arith
path_few false _ = omega arith

-- the end of a command
last_few : (s : AxisState) → length (last_events s) ≤ 1
last_few state.DiscreteMotion = omega arith
last_few state.Homing = omega arith
last_few _ = omega arith

giving_few : (begins : Option Wanted) (ws : List Wanted) (s : AxisState) → length (giving_events begins ws s) ≤ 1
giving_few (Some w) ws s = by_few (event_of w.kind)
giving_few None [] s = last_few s
giving_few None (w ∷ ws) s = omega arith

ending_few : (o : Option Finish) (begins : Option Wanted) (ws : List Wanted) (s : AxisState) → length (ending_events o begins ws s) ≤ 1
ending_few None begins ws s = omega arith
ending_few (Some (finish.Error n)) begins ws s = omega arith
ending_few (Some finish.Done) begins ws s = giving_few begins ws s
ending_few (Some finish.Aborted) begins ws s = giving_few begins ws s

-- a step: on its group's path no command of an axis ends
none_ends : (place : Option ℤ) (next : Option Wanted) (look : AxisLook) (a : Axis) → is_some place ≡ true → (advance_without_error place next look a).ending ≡ None
none_ends (Some p) next look a h = refl
none_ends None next look a h = absurd (cc)

path_ends : (next : Option Wanted) (look : AxisLook) (a : Axis) → is_some (place_on_path a look) ≡ true → (advance_in_cycle next look a).ending ≡ None
unfolding advance_in_cycle
path_ends next look a on =
    by-if (λ (x : Advance). x.ending ≡ None) (is_error_stop a.state) _ _ (λ h. refl) (λ h. none_ends (place_on_path a look) next look a on)

still : (blends : Bool) (o : Option Finish) (ws : List Wanted) (a : Axis) → o ≡ None → (ending_fate blends o ws a).ends ≡ None
still blends None ws a h = refl
still blends (Some f) ws a h = absurd (cc)

moved_still : (look : AxisLook) (c : Core) → is_some (place_on_path c.axis look) ≡ true →
    (if is_driven c.axis look.input && c.axis.driven then moved_fate look c else goes_on).ends ≡ None
moved_still look c on =
    let next = slice_get c.waiting 0 in
    let step = advance_in_cycle next look c.axis in
    by-if (λ (f : Fate). f.ends ≡ None) (is_driven c.axis look.input && c.axis.driven) (moved_fate look c) goes_on
    (λ h. still (is_blended c.axis.active c) step.ending c.waiting step.axis (path_ends next look c.axis on)) (λ h. refl)

stepped_few : (place : Option ℤ) (ends : Bool) (o : Option Finish) (begins : Option Wanted) (ws : List Wanted) (s : AxisState) →
    (is_some place ≡ true → o ≡ None) → length (event_where (is_some place && ends) event.PathRest ++ ending_events o begins ws s) ≤ 1
stepped_few None ends o begins ws s h = ending_few o begins ws s
stepped_few (Some p) true o begins ws s h = subst (λ x. length (event.PathRest ∷ ending_events x begins ws s) ≤ 1) (sym (h refl)) (omega arith)
stepped_few (Some p) false o begins ws s h = ending_few o begins ws s

going_few : (look : AxisLook) (c : Core) (f : Fate) → (is_some (place_on_path c.axis look) ≡ true → f.ends ≡ None) →
    length (going_events look c f) ≤ 2
going_few look c f h =
    let es = step_events look c f in
    let step = stepped_few (place_on_path c.axis look) look.path_ends f.ends f.begins c.waiting c.axis.state h in
    let release : length (release_events look (state_by c.axis.state es) c f) ≤ 1 = where_few _ event.StopReleased in
    let sum = length-append es (release_events look (state_by c.axis.state es) c f) in
    omega arith

driven_few : (driven : Bool) (s : AxisState) → length (driven_events driven s) ≤ 1
driven_few true state.Disabled = omega arith
driven_few true _ = omega arith
driven_few false s = omega arith

row_few : (driven : Bool) (s : AxisState) → length (reset_row driven s) ≤ 1
row_few true state.ErrorStop = omega arith
row_few false state.ErrorStop = omega arith
row_few true _ = omega arith
row_few false _ = omega arith

reset_few : (look : AxisLook) (s : AxisState) (c : Core) → length (reset_events look s c) ≤ 1
reset_few look s c =
    by-if (λ (es : List AxisEvent). length es ≤ 1) (is_some c.axis.reset && (not (has_fault look.input) && rests_in look c)) _ [] (λ h. row_few (is_driven c.axis look.input) s) (λ h. omega arith)

run_few : (look : AxisLook) (c : Core) → length (run_events look c (cycle_fate look c)) ≤ 2
unfolding cycle_fate
run_few look c = by (nat_eq (answer_error_of c.axis look.input) 0)
  where
    by : (b : Bool) → length (let f : Fate = if b then (if is_driven c.axis look.input && c.axis.driven then moved_fate look c else goes_on)
        else replaced (finish.Error (answer_error_of c.axis look.input)) c.axis.active None in
        if b then (if is_driven c.axis look.input && c.axis.driven then going_events look c f else driven_events (is_driven c.axis look.input) c.axis.state) else event.Error ∷ []) ≤ 2
    by true =
        let f : Fate = if is_driven c.axis look.input && c.axis.driven then moved_fate look c else goes_on in
        by-if (λ (es : List AxisEvent). length es ≤ 2) (is_driven c.axis look.input && c.axis.driven) (going_events look c f) (driven_events (is_driven c.axis look.input) c.axis.state)
        (λ h. going_few look c f (moved_still look c)) (λ h. let few = driven_few (is_driven c.axis look.input) c.axis.state in omega arith)
    by false = omega arith

pub cycle_few : (look : AxisLook) (c : Core) → length (cycle_events look c) ≤ 3
unfolding cycle_events
cycle_few look c =
    let run = run_events look c (cycle_fate look c) in
    let first = run_few look c in
    let last = reset_few look (state_by c.axis.state run) c in
    let sum = length-append run (reset_events look (state_by c.axis.state run) c) in
    omega arith
