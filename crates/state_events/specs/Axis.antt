-- By which events of the diagram an axis changes its state, in a call and in a cycle (PLCopen
-- Motion Control Part 1, the state diagram; their order within a cycle is this project's profile).
use Rattle.std.specs.Prelude.{◌≡◌, Bool, true, false, ◌&&◌, not, nat_eq, if◌then◌else◌, Option, Some, None, is_some, List, [], ◌∷◌, ◌++◌, slice_get}
use Rattle.axis_state.specs.Diagram.{IsFrom, next_of}
use Rattle.axis_state.specs.declared.diagram.AxisEvent.{AxisEvent}
use Rattle.axis_state.specs.declared.diagram.AxisEvent.TheVariants as event
use Rattle.plc_types.specs.declared.axis_state.AxisState.{AxisState}
use Rattle.plc_types.specs.declared.axis_state.AxisState.TheVariants as state
use Rattle.command_pool.specs.declared.ending.Finish.{Finish}
use Rattle.command_pool.specs.declared.ending.Finish.TheVariants as finish
use Rattle.command_pool.specs.declared.wanted.Wanted.{Wanted}
use Rattle.axis_core.specs.Cores.{Core}
use Rattle.axis_core.specs.Cycles.{advance_in_cycle, core_after_answer}
use Rattle.axis_core.specs.Drives.{answer_error_of, has_fault, is_driven}
use Rattle.buffer_modes.specs.Fates.{Fate}
use Rattle.axis_core.specs.Fates.{command_fate, cycle_fate}
use Rattle.axis_core.specs.Kinds.{event_of}
use Rattle.axis_core.specs.Profiles.{profile_of}
use Rattle.axis_core.specs.Refusals.{Asked}
use Rattle.axis_state.specs.States.{is_error_stop, is_stopping}
use Rattle.axis_core.specs.blocks.Gear.{out_event}
use Rattle.axis_core.specs.blocks.Halts.{is_at_rest}
use Rattle.buffer_modes.specs.Owners.{is_released}
use Rattle.axis_core.specs.blocks.Path.{place_on_path}
use Rattle.axis_core.specs.declared.look.AxisLook.{AxisLook}
use Rattle.axis_core.specs.declared.profile.Entry.{Entry}
use Rattle.axis_core.specs.declared.profile.Entry.TheVariants.{Leaves}

-- the events lead an axis from a state to another, each from a state of its row
abbrev pub Lead : AxisState → List AxisEvent → AxisState → Type 0
Lead s [] t = t ≡ s
Lead s (e ∷ es) t = IsFrom s e × Lead (next_of e) es t

-- the state to which events lead, one after another
abbrev pub state_by : AxisState → List AxisEvent → AxisState
state_by s [] = s
state_by s (e ∷ es) = state_by (next_of e) es

-- an event, if there is one
abbrev pub events_by : Option AxisEvent → List AxisEvent
events_by None = []
events_by (Some e) = e ∷ []

-- an event where this holds
abbrev pub event_where : Bool → AxisEvent → List AxisEvent
event_where holds e = if holds then e ∷ [] else []

-- the event by which a command becomes active in its call, where it does, by how it enters: one
-- that leaves a gear or a cam has its own. MC_GearOut and MC_CamOut
abbrev pub begin_events : Entry → Option Wanted → List AxisEvent
begin_events x None = []
begin_events Leaves (Some w) = out_event ∷ []
begin_events x (Some w) = events_by (event_of w.kind)

-- the events of a command that is asked
unfoldable pub command_events : Asked → Core → List AxisEvent
command_events q c = begin_events (profile_of q.wanted.kind).entry (command_fate q c).begins

-- a Power with Enable false outside ErrorStop. MC_Power
abbrev pub power_events : Bool → AxisState → List AxisEvent
power_events enable s = event_where (not enable && not (is_error_stop s)) event.PowerOff

-- the axis goes on its group's path, or leaves it
abbrev pub path_events : Bool → AxisState → List AxisEvent
path_events true state.Standstill = event.GroupActive ∷ []
path_events false state.SynchronizedMotion = event.PathRest ∷ []
path_events on s = []

-- the last command is done: a move or a Halt, or a Home
abbrev pub last_events : AxisState → List AxisEvent
last_events state.DiscreteMotion = event.LastDone ∷ []
last_events state.Homing = event.HomeDone ∷ []
last_events s = []

-- an ended command gives way to the one that begins, to none where none waits, and else to the
-- error of the first that waits, which cannot begin
abbrev pub giving_events : Option Wanted → List Wanted → AxisState → List AxisEvent
giving_events (Some w) ws s = events_by (event_of w.kind)
giving_events None [] s = last_events s
giving_events None (w ∷ ws) s = event.Error ∷ []

-- how the active command ends, if it does, in a state in which these wait
abbrev pub ending_events : Option Finish → Option Wanted → List Wanted → AxisState →
    List AxisEvent
ending_events None begins ws s = []
ending_events (Some (finish.Error n)) begins ws s = event.Error ∷ []
ending_events (Some f) begins ws s = giving_events begins ws s

-- what becomes of the active command
abbrev pub fate_events : Fate → List Wanted → AxisState → List AxisEvent
fate_events f ws s = ending_events f.ends f.begins ws s

-- an axis on its group's path leaves it where that ends; another goes by what becomes of its
-- command
abbrev pub step_events : AxisLook → Core → Fate → List AxisEvent
step_events look c f =
    event_where (is_some (place_on_path c.axis look) && look.path_ends) event.PathRest
    ++ fate_events f c.waiting c.axis.state

-- the active command after a cycle, by what becomes of it
abbrev pub active_by : Fate → Option Wanted → Option Wanted
active_by f active = if is_some f.ends then f.begins else active

-- whether the axis is at rest after its step in a cycle: one that stands where its drive does is
abbrev pub rests_in : AxisLook → Core → Bool
rests_in look c =
    let read = core_after_answer look.input c in
    if is_driven c.axis look.input && read.axis.driven
    then is_at_rest (advance_in_cycle (slice_get read.waiting 0) look read.axis).axis
    else true

-- then Stopping is left, where no command is active, the axis is at rest and nobody holds it
abbrev pub release_events : AxisLook → AxisState → Core → Fate → List AxisEvent
release_events look s c f =
    event_where (is_stopping s && not (is_some (active_by f c.axis.active)) && rests_in look c
    && is_released c.axis.hold look.stop_held) event.StopReleased

-- both, where a driven spell goes on
abbrev pub going_events : AxisLook → Core → Fate → List AxisEvent
going_events look c f =
    let step = step_events look c f in
    step ++ release_events look (state_by c.axis.state step) c f

-- where none does: the first row of a driven spell, or none
abbrev pub driven_events : Bool → AxisState → List AxisEvent
driven_events true state.Disabled = event.DrivenFirst ∷ []
driven_events driven s = []

-- first the error that the drive's answer brings; without one a driven spell goes on, or not
abbrev pub run_events : AxisLook → Core → Fate → List AxisEvent
run_events look c f =
    if nat_eq (answer_error_of c.axis look.input) 0
    then (if is_driven c.axis look.input && c.axis.driven then going_events look c f
    else driven_events (is_driven c.axis look.input) c.axis.state)
    else event.Error ∷ []

-- a Reset leads from ErrorStop, by whether the axis is driven. MC_Reset
abbrev pub reset_row : Bool → AxisState → List AxisEvent
reset_row true state.ErrorStop = event.ResetDriven ∷ []
reset_row false state.ErrorStop = event.ResetNotDriven ∷ []
reset_row driven s = []

-- last a pending Reset, which is done where the drive has no fault and the axis rests
abbrev pub reset_events : AxisLook → AxisState → Core → List AxisEvent
reset_events look s c =
    if is_some c.axis.reset && (not (has_fault look.input) && rests_in look c)
    then reset_row (is_driven c.axis look.input) s
    else []

-- all of a cycle, one after another
abbrev pub events_in_cycle : AxisLook → Core → Fate → List AxisEvent
events_in_cycle look c f =
    let run = run_events look c f in
    run ++ reset_events look (state_by c.axis.state run) c

-- the events of a cycle, by the axis before it, by what it brings, and by what becomes of the
-- active command
unfoldable pub cycle_events : AxisLook → Core → List AxisEvent
cycle_events look c = events_in_cycle look c (cycle_fate look c)
