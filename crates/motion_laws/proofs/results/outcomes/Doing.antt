-- A command is Done in a cycle alone, and where it is the active one or a reset.
-- for: machines_can_stand, moves_arrive_in_time, paths_end_in_time and others
use Rattle.std.specs.Prelude.{ℕ, Bool, true, false, not, ◌&&◌, nat_eq, ℤ, ◌+ℤ◌, if◌then◌else◌, Option, Some, None, is_some, List, [], ◌∷◌, ◌++◌, slice_get}
use Rattle.axis_core.specs.declared.profile.Goal.{Goal}
use Rattle.axis_core.specs.declared.profile.Goal.TheVariants.{FromBefore}
use Rattle.axis_core.specs.Profiles.{profile_of}
use Rattle.axis_core.specs.Calls as axis_calls
use Rattle.axis_core.specs.Cores as axes
use Rattle.axis_core.specs.Cycles.{advance_in_cycle, core_after_advance, core_after_answer, core_after_step}
use Rattle.axis_core.specs.Drives.{answer_error_of, is_driven}
use Rattle.axis_core.specs.Refusals as axis_refusals
use Rattle.axis_core.specs.Refusals.{Asked}
use Rattle.axis_core.specs.blocks.Halts as axis_halts
use Rattle.axis_core.specs.blocks.Moves.{known_target_of, position_of, with_target}
use Rattle.axis_core.specs.blocks.Reset as axis_resets
use Rattle.axis_core.specs.declared.axis.Axis.{Axis}
use Rattle.axis_core.specs.declared.look.AxisLook.{AxisLook}
use Rattle.axis_core.specs.declared.profile.Entry.{Entry}
use Rattle.axis_core.specs.declared.profile.Entry.TheVariants.{Joins, Leaves, Awaits}
use Rattle.axis_core.specs.declared.reason.Reason as axis_reason
use Rattle.axis_state.specs.States.{is_error_stop}
use Rattle.buffer_modes.specs.Queue.{is_active_at_once}
use Rattle.buffer_modes.specs.declared.reset.PendingReset.{PendingReset}
use Rattle.command_changes.specs.Axis as axis
use Rattle.command_changes.specs.Failing.{failing}
use Rattle.command_changes.specs.Group as group
use Rattle.command_core.specs.Changes.{Change, holds, joins, resets}
use Rattle.command_pool.specs.Waiting.{last_of}
use Rattle.command_pool.specs.declared.ending.Finish.{Finish}
use Rattle.command_pool.specs.declared.ending.Finish.TheVariants as finish
use Rattle.plc_types.specs.declared.kind.BlockKind.{BlockKind}
use Rattle.plc_types.specs.declared.kind.BlockKind.TheVariants as kind
use Rattle.command_pool.specs.declared.wanted.Wanted.{Wanted}
use Rattle.group_core.specs.Calls as group_calls
use Rattle.group_core.specs.Cores as groups
use Rattle.group_core.specs.Cycles.{answered, ending_of, moved}
use Rattle.group_core.specs.Refusals as group_refusals
use Rattle.group_core.specs.States.{may_fail}
use Rattle.group_core.specs.Tracks.{OnPath}
use Rattle.group_core.specs.blocks.Halts as group_halts
use Rattle.group_core.specs.blocks.Reset as group_resets
use Rattle.group_core.specs.declared.group.Group.{Group}
use Rattle.group_core.specs.declared.look.GroupLook.{GroupLook}
use Rattle.group_core.specs.declared.reason.Reason as group_reason
use Rattle.motion_kernel.proofs.Sizes.{by_if}
use Rattle.motion_numbers.specs.Ranges.{is_outside}
use Rattle.motion_laws.proofs.results.outcomes.Done.{EndsNoneDone, HasOneEnd, IsLate, end_more}

-- an axis: a command
axis_admitted : (e : Entry) (w : Wanted) (c : axes.Core) → EndsNoneDone (axis.entered_changes e w c)
axis_admitted Awaits w c = tt
axis_admitted Leaves w c = tt
axis_admitted Joins w c =
    by_if EndsNoneDone (is_active_at_once (axis_calls.queue_in c) w)
    (joins w ∷ holds (axis.is_stop w.kind) ∷ []) (joins w ∷ []) tt tt

axis_asked : (r : Option axis_reason.Reason) (w : Wanted) (c : axes.Core) → EndsNoneDone (axis.asked_changes r w c)
axis_asked None w c =
    axis_admitted (profile_of w.kind).entry
    (with_target (known_target_of c.axis (last_of c.waiting) w) w) c
axis_asked (Some r) w c = tt

pub axis_command : (q : Asked) (c : axes.Core) → EndsNoneDone (axis.command_changes q c)
unfolding axis.command_changes
axis_command q c = axis_asked (axis_refusals.refusal_of q) q.wanted c

-- a Power
pub axis_power : (enable : Bool) (c : axes.Core) → EndsNoneDone (axis.power_changes enable c)
unfolding axis.power_changes
axis_power true c = tt
axis_power false c = by_if EndsNoneDone (is_error_stop c.axis.state) [] _ tt tt

-- a cycle
axis_taking : (g : Goal) (t : Option ℤ) (f : Finish) (w : Wanted) (a : Axis) → HasOneEnd (axis.taking_changes_in g t f w a)
axis_taking (FromBefore base) None f w a = by_if HasOneEnd (is_outside a.limits.lo (a.setpoint +ℤ position_of w) a.limits.hi) _ _ tt tt
axis_taking (FromBefore base) (Some t) f w a = tt
axis_taking _ t f w a = tt

axis_ended : (f : Finish) (ws : List Wanted) (a : Axis) → HasOneEnd (axis.ended_changes f ws a)
axis_ended f [] a = tt
axis_ended f (w ∷ ws) a = axis_taking (profile_of w.kind).goal w.target f w a

axis_ending : (o : Option Finish) (ws : List Wanted) (a : Axis) → HasOneEnd (axis.ending_changes o ws a)
axis_ending None ws a = tt
axis_ending (Some (finish.Error n)) ws a = tt
axis_ending (Some finish.Done) ws a = axis_ended finish.Done ws a
axis_ending (Some finish.Aborted) ws a = axis_ended finish.Aborted ws a

axis_released : (look : AxisLook) (a : Axis) → IsLate (axis.release_changes look a)
axis_released look a = by_if IsLate (axis_halts.leaves_stopping look a) (holds false ∷ []) [] tt tt

axis_reset : (o : Option PendingReset) (look : AxisLook) (a : Axis) → IsLate (axis.reset_changes o look.input a)
axis_reset None look a = tt
axis_reset (Some p) look a = by_if IsLate (axis_resets.may_reset look.input a) (resets ∷ []) [] tt tt

axis_stepped : (look : AxisLook) (driven : Bool) (c : axes.Core) → HasOneEnd (axis.step_changes look driven c)
axis_stepped look driven c =
    let step = advance_in_cycle (slice_get c.waiting 0) look c.axis in
    let after = (core_after_advance look c).axis in
    by_if HasOneEnd (driven && c.axis.driven) _ []
    (end_more (axis.ending_changes step.ending c.waiting step.axis) (axis.release_changes look after) (axis_ending step.ending c.waiting step.axis) (axis_released look after))
    tt

-- an error before
failed_then : (b : Bool) (n : ℕ) (ys : List Change) → HasOneEnd ys → HasOneEnd ((if b then [] else failing n) ++ ys)
failed_then true n ys h = h
failed_then false n ys h = h

then_failed : (b : Bool) (n : ℕ) (ys : List Change) → HasOneEnd ys → HasOneEnd ((if b then failing n else []) ++ ys)
then_failed true n ys h = h
then_failed false n ys h = h

pub axis_cycle : (look : AxisLook) (c : axes.Core) → HasOneEnd (axis.cycle_changes look c)
unfolding axis.cycle_changes
axis_cycle look c =
    let driven = is_driven c.axis look.input in
    let read = core_after_answer look.input c in
    let after = core_after_step look driven read in
    failed_then (nat_eq (answer_error_of c.axis look.input) 0) (answer_error_of c.axis look.input) _
    (end_more (axis.step_changes look driven read) (axis.reset_changes after.axis.reset look.input after.axis) (axis_stepped look driven read)
    (axis_reset after.axis.reset look after.axis))

-- a group: a command
group_line : (w : Wanted) (c : groups.Core) → EndsNoneDone (group.line_changes w c)
group_line w c =
    by_if EndsNoneDone (group_calls.waits_for_rest w c.path) _ _ tt
    (by_if EndsNoneDone (is_active_at_once (group_calls.queue_in c) w) (joins w ∷ holds (group.is_stop w.kind) ∷ []) (joins w ∷ []) tt tt)

group_admitted : (x : BlockKind) (w : Wanted) (c : groups.Core) → EndsNoneDone (group.admitted_changes x w c)
group_admitted kind.GroupReset w c = tt
group_admitted kind.GroupStop w c = tt
group_admitted kind.GroupHalt w c = tt
group_admitted kind.MoveLinearAbsolute w c = group_line w c
group_admitted _ w c = tt

group_asked : (r : Option group_reason.Reason) (w : Wanted) (c : groups.Core) → EndsNoneDone (group.asked_changes r w c)
group_asked None w c = group_admitted w.kind w c
group_asked (Some r) w c = tt

pub group_command : (w : Wanted) (jerk : ℤ) (members : GroupLook) (c : groups.Core) → EndsNoneDone (group.command_changes w jerk members c)
unfolding group.command_changes
group_command w jerk members c = group_asked (group_refusals.refusal_of (group_calls.asked_in c w jerk members)) w c

-- a Power off
pub group_off : (c : groups.Core) → EndsNoneDone (group.power_off_changes c)
unfolding group.power_off_changes
group_off c = by_if EndsNoneDone (may_fail c.group.state) (failing 102) [] tt tt

-- a cycle
group_ending : (o : Option Finish) (ws : List Wanted) → HasOneEnd (group.ending_changes o ws)
group_ending None ws = tt
group_ending (Some f) [] = tt
group_ending (Some f) (w ∷ ws) = tt

group_released : (held : Bool) (g : Group) (p : Option OnPath) → IsLate (group.release_changes held g p)
group_released held g p = by_if IsLate (group_halts.leaves_stopping held g p) (holds false ∷ []) [] tt tt

group_reset_by : (o : Option PendingReset) (on : Bool) (g : Group) → IsLate (group.reset_changes_by o on g)
group_reset_by None on g = tt
group_reset_by (Some p) on g = by_if IsLate (group_resets.may_reset on g) (resets ∷ []) [] tt tt

pub group_reset : (c : groups.Core) → IsLate (group.reset_changes c)
unfolding group.reset_changes
group_reset c = group_reset_by c.group.reset (is_some c.path) c.group

pub group_cycle : (members : GroupLook) (c : groups.Core) → HasOneEnd (group.cycle_changes members c)
unfolding group.cycle_changes
group_cycle members c =
    let stopped = answered members.error c in
    let after = moved members stopped in
    then_failed (not (nat_eq members.error 0) && may_fail c.group.state) members.error _
    (end_more (group.ending_changes (ending_of stopped.group stopped.path) stopped.waiting) (group.release_changes members.stop_held after.group after.path)
    (group_ending (ending_of stopped.group stopped.path) stopped.waiting) (group_released members.stop_held after.group after.path))
