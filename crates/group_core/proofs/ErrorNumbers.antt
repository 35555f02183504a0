-- A group's error is 101 to 106 where those of its axes are.
-- for: errors_are_those_of_axes
use Rattle.std.specs.Prelude.{refl, ℕ, ℤ, Bool, Option, Some, None, List, [], ◌∷◌, not, ◌&&◌, nat_eq}
use Rattle.std.proofs.Common.{arith}
use Rattle.std.proofs.lemmas.Bool.{and_parts}
use Rattle.plc_types.specs.declared.axis_state.AxisState.{AxisState}
use Rattle.buffer_modes.specs.Queue.{is_active_at_once}
use Rattle.buffer_modes.specs.declared.reset.PendingReset.{PendingReset}
use Rattle.command_pool.specs.declared.ending.Finish.{Finish}
use Rattle.plc_types.specs.declared.kind.BlockKind.{BlockKind}
use Rattle.plc_types.specs.declared.kind.BlockKind.TheVariants as kind
use Rattle.command_pool.specs.declared.wanted.Wanted.{Wanted}
use Rattle.axis_state.specs.GroupDiagram.{next_of}
use Rattle.axis_state.specs.declared.group_diagram.GroupEvent.TheVariants as event
use Rattle.group_core.specs.Calls.{admitted_by, asked_in, braked_for, commanded, commanded_by, group_without, line_joined, powered_off, queue_in, queued, waits_for_rest}
use Rattle.group_core.specs.Cores.{Core, ended, ended_by, failed, line_begun, taken_over}
use Rattle.group_core.specs.Cycles.{answered, cycled, group_released, moved, reset_where}
use Rattle.group_core.specs.Refusals.{refusal_of, states_in}
use Rattle.group_core.specs.Shown.{IsErrorOrNone, IsGroupError}
use Rattle.group_core.specs.States.{may_fail}
use Rattle.group_core.specs.blocks.Halts.{leaves_stopping}
use Rattle.group_core.specs.blocks.Reset.{after_reset, may_reset, reset_by}
use Rattle.group_core.specs.declared.group.Group.{Group}
use Rattle.group_core.specs.declared.look.GroupLook.{GroupLook}
use Rattle.group_core.specs.declared.reason.Reason.{Reason}
use Rattle.group_core.proofs.KeptCalls.{by-if}
use Rattle.group_core.proofs.ShownLaws.{error-some}

-- a group has such an error or none
abbrev IsNumbered : Group → Type 0
IsNumbered g = IsErrorOrNone g.error

abbrev Numbered : Core → Type 0
Numbered c = IsErrorOrNone c.group.error

failed-numbered : (n : ℕ) (c : Core) → IsGroupError n → Numbered (failed n c)
unfolding failed
failed-numbered n c h = λ some. h

pub off-numbered : (c : Core) → Numbered c → Numbered (powered_off c)
unfolding powered_off
off-numbered c h = by-if Numbered (may_fail c.group.state) (failed 102 c) c
    (λ may. failed-numbered 102 c (record { least = omega arith; most = omega arith })) (λ not_so. h)

pub detach-numbered : (owner : ℕ) (g : Group) → IsNumbered g → IsNumbered (group_without owner g)
unfolding group_without
detach-numbered owner g h = h

-- a call
line-numbered : (members : GroupLook) (w : Wanted) (c : Core) → Numbered c → Numbered (line_joined members w c)
line-numbered members w c h =
    by-if Numbered (waits_for_rest w c.path) (braked_for w c) _ (λ waits. h)
    (λ goes. by-if Numbered (is_active_at_once (queue_in c) w) (line_begun members members.setpoints w (queued w c)) (queued w c)
    (λ at_once. h) (λ later. h))

numbered-by : (k : BlockKind) (members : GroupLook) (w : Wanted) (c : Core) → Numbered c → Numbered (admitted_by k members w c)
numbered-by kind.GroupEnable members w c h = h
numbered-by kind.GroupDisable members w c h = λ some. absurd (some refl)
numbered-by kind.GroupReset members w c h = h
numbered-by kind.GroupStop members w c h = h
numbered-by kind.GroupHalt members w c h = h
numbered-by kind.MoveLinearAbsolute members w c h = line-numbered members w c h
numbered-by _ members w c h = h

numbered-asked : (o : Option Reason) (members : GroupLook) (w : Wanted) (c : Core) → Numbered c → Numbered (commanded_by o members w c)
numbered-asked None members w c h = numbered-by w.kind members w c h
numbered-asked (Some r) members w c h = h

pub command-numbered : (w : Wanted) (jerk : ℤ) (members : GroupLook) (c : Core) → Numbered c → Numbered (commanded w jerk members c)
unfolding commanded
command-numbered w jerk members c h = numbered-asked (refusal_of (asked_in c w jerk members)) members w c h

-- a cycle
answered-numbered : (error : ℕ) (c : Core) → IsErrorOrNone error → Numbered c → Numbered (answered error c)
answered-numbered error c axes h =
    by-if Numbered (not (nat_eq error 0) && may_fail c.group.state) (failed error c) c
    (λ fails. failed-numbered error c (axes (error-some error (and_parts (not (nat_eq error 0)) (may_fail c.group.state) fails).0))) (λ stays. h)

taken-numbered : (members : GroupLook) (setpoints : List ℤ) (ws : List Wanted) (c : Core) → Numbered c → Numbered (taken_over members setpoints ws c)
taken-numbered members setpoints [] c h = h
taken-numbered members setpoints (w ∷ ws) c h = h

ended-numbered : (members : GroupLook) (setpoints : List ℤ) (o : Option Finish) (c : Core) → Numbered c → Numbered (ended_by members setpoints o c)
unfolding ended
ended-numbered members setpoints None c h = h
ended-numbered members setpoints (Some f) c h = taken-numbered members setpoints c.waiting _ h

released-numbered : (held : Bool) (c : Core) → Numbered c → IsNumbered (group_released held c.group c.path)
released-numbered held c h =
    by-if IsNumbered (leaves_stopping held c.group c.path) (record c.group { state = next_of event.StopReleased; hold = None }) c.group
    (λ leaves. h) (λ stays. h)

pub cycle-numbered : (members : GroupLook) (c : Core) → IsErrorOrNone members.error → Numbered c → Numbered (cycled members c)
unfolding cycled
cycle-numbered members c axes h =
    let read : Core = answered members.error c in
    released-numbered members.stop_held (moved members read)
    (ended-numbered members _ _ _ (answered-numbered members.error c axes h))

-- a GroupReset
reset-by-numbered : (o : Option PendingReset) (axes : List AxisState) (on : Bool) (g : Group) → IsNumbered g → IsNumbered (reset_by o axes on g)
reset-by-numbered None axes on g h = h
reset-by-numbered (Some r) axes on g h = by-if IsNumbered (may_reset on g) (after_reset axes g) g (λ may some. absurd (some refl)) (λ waits. h)

pub reset-numbered : (members : GroupLook) (on : Bool) (g : Group) → IsNumbered g → IsNumbered (reset_where members on g)
unfolding reset_where
reset-numbered members on g h = reset-by-numbered g.reset (states_in members) on g h
