-- At most one event comes by a call on a group, by its step and by a GroupReset.
-- for: events_are_few
use Rattle.std.specs.Prelude.{ℕ, ◌≤◌, Bool, true, false, not, ◌&&◌, ℤ, Option, Some, None, is_some, List, [], ◌∷◌, ◌++◌, length, if◌then◌else◌}
use Rattle.std.specs.List.{list_any}
use Rattle.std.proofs.Common.{arith, subst, sym}
use Rattle.buffer_modes.specs.Fates.{replaced}
use Rattle.buffer_modes.specs.Owners.{is_released}
use Rattle.command_pool.specs.declared.ending.Finish.{Finish}
use Rattle.command_pool.specs.declared.ending.Finish.TheVariants as finish
use Rattle.plc_types.specs.declared.kind.BlockKind.{BlockKind}
use Rattle.plc_types.specs.declared.kind.BlockKind.TheVariants as kind
use Rattle.command_pool.specs.declared.wanted.Wanted.{Wanted}
use Rattle.axis_state.specs.declared.group_diagram.GroupEvent.{GroupEvent}
use Rattle.axis_state.specs.declared.group_diagram.GroupEvent.TheVariants as event
use Rattle.plc_types.specs.declared.group.GroupState.{GroupState}
use Rattle.plc_types.specs.declared.group.GroupState.TheVariants as state
use Rattle.plc_types.specs.declared.limits.Limits.{Limits}
use Rattle.group_core.specs.Calls.{asked_in, is_line_active}
use Rattle.group_core.specs.Cores.{Core}
use Rattle.group_core.specs.Cycles.{ending_of, path_taken}
use Rattle.group_core.specs.Fates.{cycle_fate, ending_fate, is_failing}
use Rattle.group_core.specs.GroupKept.{AreWaiting, IsCoreKept}
use Rattle.group_core.specs.Kinds.{event_of}
use Rattle.group_core.specs.Refusals.{limits_in, refusal_of, states_in}
use Rattle.group_core.specs.States.{is_moved, is_stopping, may_fail}
use Rattle.group_core.specs.Tracks.{is_moving}
use Rattle.group_core.specs.declared.group.Group.{Group}
use Rattle.group_core.specs.declared.look.GroupLook.{GroupLook}
use Rattle.group_core.specs.declared.reason.Reason.{Reason}
use Rattle.group_core.proofs.KeptCalls.{by-if}
use Rattle.group_core.specs.blocks.Reset.{may_reset}
use Rattle.state_events.specs.Axis.{active_by}
use Rattle.state_events.specs.Group.{admitted_events, asked_events, command_events, ending_events, event_where, going_events, power_off_events, reset_events, reset_row, state_by, step_events}

where_few : (b : Bool) (e : GroupEvent) → length (event_where b e) ≤ 1
where_few true e = omega arith
where_few false e = omega arith

-- a call
admitted_few : (k : BlockKind) (w : Wanted) (c : Core) → length (admitted_events k w c) ≤ 1
admitted_few kind.GroupEnable w c = omega arith
admitted_few kind.GroupDisable w c = omega arith
admitted_few kind.GroupStop w c = omega arith
admitted_few kind.GroupHalt w c = omega arith
admitted_few kind.MoveLinearAbsolute w c = where_few (is_line_active w c) event.MoveAdmitted
admitted_few _ w c = omega arith

asked_few : (o : Option Reason) (w : Wanted) (c : Core) → length (asked_events o w c) ≤ 1
asked_few None w c = admitted_few w.kind w c
asked_few (Some r) w c = omega arith

pub command_few : (w : Wanted) (jerk : ℤ) (members : GroupLook) (c : Core) → length (command_events w jerk members c) ≤ 1
unfolding command_events
command_few w jerk members c = asked_few (refusal_of (asked_in c w jerk members)) w c

pub off_few : (s : GroupState) → length (power_off_events s) ≤ 1
off_few s = where_few (may_fail s) event.MemberError

-- a GroupReset
row_few : (moved : Bool) (s : GroupState) → length (reset_row moved s) ≤ 1
row_few true state.GroupErrorStop = omega arith
row_few false state.GroupErrorStop = omega arith
row_few true _ = omega arith
row_few false _ = omega arith

pub reset_few : (members : GroupLook) (on_path : Bool) (g : Group) → length (reset_events members on_path g) ≤ 1
reset_few members on_path g =
    by-if (λ (es : List GroupEvent). length es ≤ 1) (is_some g.reset && may_reset on_path g) _ []
    (λ h. row_few (list_any is_moved (states_in members)) g.state) (λ h. omega arith)

-- where a command ends GroupStopping is not left: a line takes over to GroupMoving, and the last
-- one ends in GroupStandby
abbrev After : GroupState → List GroupEvent → Bool → Bool → Bool → List GroupEvent
After s es p q r = es ++ event_where (is_stopping (state_by s es) && p && q && r) event.StopReleased

going_few : (axes : ℕ) (limits : List Limits) (o : Option Finish) (ws : List Wanted) (s : GroupState) (p q r : Bool) → AreWaiting axes limits ws →
    length (After s (ending_events (ending_fate o ws).ends (ending_fate o ws).begins s) p q r) ≤ 1
going_few axes limits None ws s p q r k = where_few (is_stopping s && p && q && r) event.StopReleased
going_few axes limits (Some f) [] state.GroupStopping p q r k = where_few (p && q && r) event.StopReleased
going_few axes limits (Some f) [] _ p q r k = omega arith
going_few axes limits (Some f) (w ∷ ws) s p q r k = subst (λ x. length (After s (event_of x ∷ []) p q r) ≤ 1) (sym k.0.line) (omega arith)

pub cycle_few : (members : GroupLook) (c : Core) → IsCoreKept (limits_in members) c → length (step_events members c) ≤ 1
unfolding step_events cycle_fate
cycle_few members c k = by (is_failing members c)
  where
    by : (b : Bool) → length (if b then event.MemberError ∷ []
        else going_events members.stop_held (if b then replaced (finish.Error members.error) c.group.active None else ending_fate (ending_of c.group c.path) c.waiting)
        c (path_taken members c)) ≤ 1
    by true = omega arith
    by false =
        let f = ending_fate (ending_of c.group c.path) c.waiting in
        going_few c.group.axes (limits_in members) (ending_of c.group c.path) c.waiting c.group.state (not (is_some (active_by f c.group.active)))
        (not (is_moving (path_taken members c))) (is_released c.group.hold members.stop_held) k.waiting
