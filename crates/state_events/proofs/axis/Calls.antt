-- The events of a call on an axis.
-- for: axes_change_by_their_events
use Rattle.std.specs.Prelude.{◌≡◌, refl, ℕ, Bool, true, false, not, ℤ, Option, Some, None, if◌then◌else◌}
use Rattle.std.proofs.Common.{inl}
use Rattle.axis_state.specs.Diagram.{IsFrom, next_of}
use Rattle.axis_state.specs.declared.diagram.AxisEvent.TheVariants as event
use Rattle.plc_types.specs.declared.axis_state.AxisState.{AxisState}
use Rattle.plc_types.specs.declared.axis_state.AxisState.TheVariants as state
use Rattle.buffer_modes.specs.Queue.{is_active_at_once}
use Rattle.command_pool.specs.declared.ending.Finish.TheVariants as finish
use Rattle.command_pool.specs.declared.wanted.Wanted.{Wanted}
use Rattle.axis_core.specs.Cores.{Core, MayBegin, axis_under, axis_under_by, next_by}
use Rattle.command_pool.specs.Waiting.{last_of}
use Rattle.axis_core.specs.AxisKept.{IsCoreKept}
use Rattle.axis_core.specs.Calls.{axis_without_owner, core_after_command, core_after_verdict, core_after_disabling, core_after_power, core_entered_in, queue_in, core_with_queued}
use Rattle.axis_core.specs.Demands.{IsMade, asked_in}
use Rattle.axis_core.specs.Kept.{MayEnter}
use Rattle.axis_core.specs.Profiles.{profile_of}
use Rattle.axis_core.specs.Refusals.{refusal_of}
use Rattle.axis_core.proofs.MayAdmit.{may-admit}
use Rattle.state_events.specs.Axis.{Lead, begin_events, command_events, event_where, events_by, path_events, power_events}
use Rattle.axis_core.specs.Kinds.{event_of}
use Rattle.buffer_modes.specs.Fates.{goes_on, replaced}
use Rattle.axis_core.specs.Fates.{asked_fate, command_fate, entered_fate}
use Rattle.axis_state.specs.States.{is_error_stop}
use Rattle.axis_core.specs.blocks.Moves.{known_target_of, with_target}
use Rattle.axis_core.specs.declared.axis.Axis.{Axis}
use Rattle.axis_core.specs.declared.profile.Entry.{Entry}
use Rattle.axis_core.specs.declared.profile.Entry.TheVariants.{Joins, Leaves, Awaits}
use Rattle.axis_core.specs.blocks.Path.{axis_on_path, state_on_path}
use Rattle.state_events.proofs.axis.Rows.{off-from}
use Rattle.state_events.proofs.axis.Ends.{begun-by}

-- the axis goes on its group's path, or leaves it
pub paths-by : (on : Bool) (s : AxisState) → Lead s (path_events on s) (state_on_path on s)
paths-by true state.Standstill = ((state.SynchronizedMotion, (inl refl, refl)), refl)
paths-by false state.SynchronizedMotion = ((state.Standstill, (refl, refl)), refl)
paths-by true s = refl
paths-by false s = refl

pub on-path-by : (on : Bool) (a : Axis) → Lead a.state (path_events on a.state) (axis_on_path on a).state
unfolding axis_on_path
on-path-by on a = paths-by on a.state

-- calls: a command, and a Power
joined-by : (b : Bool) (w : Wanted) (c : Core) → MayBegin w.kind c.axis.state →
    Lead c.axis.state (begin_events Joins (if b then replaced finish.Aborted c.axis.active (Some w) else goes_on).begins)
    (if b then record (core_with_queued w c) { axis = axis_under w (core_with_queued w c).axis } else core_with_queued w c).axis.state
unfolding axis_under_by
joined-by true w c h = by c.axis.active (begun-by (event_of w.kind) c.axis.state h)
  where
    by : (o : Option Wanted) → Lead c.axis.state (events_by (event_of w.kind)) (next_by (event_of w.kind) c.axis.state) →
        Lead c.axis.state (begin_events Joins (replaced finish.Aborted o (Some w)).begins) (next_by (event_of w.kind) c.axis.state)
    by None x = x
    by (Some v) x = x
joined-by false w c h = refl

out-by : (o : Option Wanted) (v : Wanted) (s : AxisState) → IsFrom s event.FollowOut → Lead s (begin_events Leaves (replaced finish.Aborted o (Some v)).begins) (next_of event.FollowOut)
out-by None v s h = (h, refl)
out-by (Some u) v s h = (h, refl)

entered-by : (x : Entry) (w : Wanted) (c : Core) → MayEnter x w c → Lead c.axis.state (begin_events x (entered_fate x w c).begins) (core_entered_in x w c).axis.state
unfolding axis_under_by
entered-by Awaits w c h = refl
entered-by Leaves w c h = out-by c.axis.active _ c.axis.state h.begin
entered-by Joins w c h = joined-by (is_active_at_once (queue_in c) w) w c h.begin

pub commands-by : (c : Core) (number : ℕ) (w : Wanted) (jerk : ℤ) (held : Bool) (tables : ℕ) → IsCoreKept c → IsMade w →
    Lead c.axis.state (command_events (asked_in c number w jerk held tables) c) (core_after_command (asked_in c number w jerk held tables) c).axis.state
unfolding core_after_command command_fate command_events
commands-by c number w jerk held tables k m =
    elim (refusal_of (asked_in c number w jerk held tables)) as
    (λ r. refusal_of (asked_in c number w jerk held tables) ≡ r → Lead c.axis.state (begin_events (profile_of w.kind).entry (asked_fate r w c).begins) (core_after_verdict r w c).axis.state) [
      | None ↦ λ h. entered-by (profile_of w.kind).entry (with_target (known_target_of c.axis (last_of c.waiting) w) w) c (may-admit c number w jerk held tables k m h)
      | Some r ↦ λ h. refl
    ] refl

pub powers-by : (enable : Bool) (c : Core) → Lead c.axis.state (power_events enable c.axis.state) (core_after_power enable c).axis.state
unfolding core_after_power
powers-by true c = refl
powers-by false c =
    let wished : Core = record c { axis = record c.axis { power = false; was_off = true } } in
    elim (is_error_stop c.axis.state) as (λ b. is_error_stop c.axis.state ≡ b → Lead c.axis.state (event_where (not b) event.PowerOff) (if b then wished else core_after_disabling wished).axis.state)
    [ true ↦ λ e. refl | false ↦ λ e. (off-from c.axis.state e, refl) ] refl

pub detached-stays : (owner : ℕ) (a : Axis) → (axis_without_owner owner a).state ≡ a.state
unfolding axis_without_owner
detached-stays owner a = refl
