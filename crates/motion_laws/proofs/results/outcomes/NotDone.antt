-- No call ends the active command of an axis or a group Done.
-- for: machines_can_stand, moves_arrive_in_time, paths_end_in_time and others
use Rattle.std.specs.Prelude.{◌≢◌, ℕ, Bool, true, false, if◌then◌else◌, Option, Some, None, List, [], ◌∷◌, slice_get}
use Rattle.std.proofs.Common.{◌∙◌}
use Rattle.axis_core.specs.Cores as axes
use Rattle.buffer_modes.specs.Fates as fate
use Rattle.buffer_modes.specs.Fates.{Fate, goes_on}
use Rattle.buffer_modes.specs.Queue.{is_active_at_once}
use Rattle.command_changes.specs.Axis as axis
use Rattle.command_changes.specs.Fates.{AreAxisFates, AreGroupFates}
use Rattle.command_changes.specs.Group as group
use Rattle.command_core.specs.Changes.{Change, joins, replaced, ends, awaits, resets, holds, changed}
use Rattle.command_core.specs.CommandState.{CommandState, queue_of}
use Rattle.command_core.specs.Fates.{fate_in, fate_of, followed_by}
use Rattle.command_pool.specs.declared.ending.Finish.{Finish}
use Rattle.command_pool.specs.declared.ending.Finish.TheVariants as finish
use Rattle.command_pool.specs.declared.wanted.Wanted.{Wanted}
use Rattle.plc_types.specs.declared.inputs.Inputs.{Inputs}
use Rattle.group_core.specs.Cores as groups
use Rattle.motion_history.specs.Setup.{Setup}
use Rattle.motion_kernel.specs.Machine.{Machine, axis_core_at, group_core_at}
use Rattle.motion_laws.specs.arrivals.AxisFates as axis_entry
use Rattle.motion_laws.specs.arrivals.GroupFates as group_entry
use Rattle.motion_laws.specs.calls.Axis as on_axis
use Rattle.motion_laws.specs.calls.Axis.{AxisCall}
use Rattle.motion_laws.specs.calls.Group as on_group
use Rattle.motion_laws.specs.calls.Group.{GroupCall}
use Rattle.motion_kernel.specs.calls.Requests.{machine_asked, request_of}
use Rattle.motion_laws.specs.results.Effects.{axis_changes, group_changes}
use Rattle.motion_laws.proofs.results.outcomes.Doing.{axis_command, axis_power, group_command, group_off}
use Rattle.motion_laws.proofs.results.outcomes.Done.{EndsNoneDone}
use Rattle.motion_laws.proofs.results.outcomes.Fates.{axis_ends, group_ends}

-- changes that make nothing Done end no command so
abbrev pub NotDone : Option Finish → Type 0
NotDone o = o ≢ Some finish.Done

followed_not : (e : Option Finish) (b : Option Wanted) (g : Fate) → NotDone e → NotDone g.ends →
    NotDone (followed_by e b g).ends
followed_not None None g h k = k
followed_not None (Some w) g h k = h
followed_not (Some f) b g h k = h

then_not : (x : Change) (xs : List Change) (c : CommandState) → NotDone (fate_of x c).ends →
    NotDone (fate_in xs (changed x c)).ends → NotDone (fate_in (x ∷ xs) c).ends
then_not x xs c h k =
    followed_not (fate_of x c).ends (fate_of x c).begins (fate_in xs (changed x c)) h k

replaced_not : (f : Finish) (before next : Option Wanted) → f ≢ finish.Done →
    NotDone (fate.replaced f before next).ends
replaced_not f None next h = λ e. cc
replaced_not f (Some w) next h = λ e. h (cc)

joined_not : (b : Bool) (before : Option Wanted) (w : Wanted) →
    let f : Fate = if b then fate.replaced finish.Aborted before (Some w) else goes_on in
    NotDone f.ends
joined_not true before w = replaced_not finish.Aborted before (Some w) (λ e. cc)
joined_not false before w = λ e. cc

fate_not : (xs : List Change) (c : CommandState) → EndsNoneDone xs → NotDone (fate_in xs c).ends
fate_not [] c h = λ e. cc
fate_not (holds stops ∷ xs) c h =
    then_not (holds stops) xs c (λ e. cc) (fate_not xs (changed (holds stops) c) h)
fate_not (joins w ∷ xs) c h =
    then_not (joins w) xs c (joined_not (is_active_at_once (queue_of c) w) c.active w)
    (fate_not xs (changed (joins w) c) h)
fate_not (awaits owner ∷ xs) c h =
    then_not (awaits owner) xs c (λ e. cc) (fate_not xs (changed (awaits owner) c) h)
fate_not (replaced (finish.Error n) next ws ∷ xs) c h =
    let x : Change = replaced (finish.Error n) next ws in
    then_not x xs c (replaced_not (finish.Error n) c.active next (λ e. cc))
    (fate_not xs (changed x c) h)
fate_not (replaced finish.Aborted next ws ∷ xs) c h =
    let x : Change = replaced finish.Aborted next ws in
    then_not x xs c (replaced_not finish.Aborted c.active next (λ e. cc))
    (fate_not xs (changed x c) h)
fate_not (replaced finish.Done next ws ∷ xs) c h = absurd h
fate_not (ends f t ∷ xs) c h = absurd h
fate_not (resets ∷ xs) c h = absurd h

-- what a call asks of an axis, or of a group, makes none Done
pub axis_none : (x : AxisCall) (c : axes.Core) → EndsNoneDone (axis_changes x c)
axis_none (on_axis.asked q) c = axis_command q c
axis_none (on_axis.power enable) c = axis_power enable c
axis_none (on_axis.led on) c = tt
axis_none on_axis.rests c = tt

pub group_none : (x : GroupCall) (c : groups.Core) → EndsNoneDone (group_changes x c)
group_none (on_group.asked w jerk members) c = group_command w jerk members c
group_none on_group.power_off c = group_off c
group_none on_group.rests c = tt

-- so no call ends one Done
pub axis_not_done : AreAxisFates → (s : Setup) (m : Machine) (k : ℕ) (i : Inputs) (n : ℕ) →
    NotDone (on_axis.by_call axis_entry.call_fate s (slice_get s.blocks k) k i m n).ends
axis_not_done laws s m k i n =
    let r = request_of (slice_get s.blocks k) k i m in
    let x = on_axis.by_request s r k i (machine_asked r k i m) n in
    let c = axis_core_at (machine_asked r k i m) n in
    λ e. fate_not (axis_changes x c) (axis.command_state_of c) (axis_none x c) (axis_ends laws x c ∙ e)

pub group_not_done : AreGroupFates → (s : Setup) (m : Machine) (k : ℕ) (i : Inputs) (j : ℕ) →
    NotDone (on_group.by_call group_entry.call_fate s (slice_get s.blocks k) k i m j).ends
group_not_done laws s m k i j =
    let r = request_of (slice_get s.blocks k) k i m in
    let x = on_group.by_request s r k i (machine_asked r k i m) j in
    let c = group_core_at (machine_asked r k i m) j in
    λ e. fate_not (group_changes x c) (group.command_state_of c) (group_none x c) (group_ends laws x c ∙ e)
