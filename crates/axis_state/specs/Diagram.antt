-- The axis state diagram.
use Rattle.std.specs.Prelude.{◌≡◌, ◌≢◌, ◌⊎◌}
use Rattle.plc_types.specs.declared.axis_state.AxisState.{AxisState}
use Rattle.plc_types.specs.declared.axis_state.AxisState.TheVariants.{Disabled, Standstill, Homing, Stopping, DiscreteMotion, ContinuousMotion, SynchronizedMotion, ErrorStop}
use Rattle.axis_state.specs.declared.diagram.AxisEvent.{AxisEvent}
use Rattle.axis_state.specs.declared.diagram.AxisEvent.TheVariants.{Error, PowerOff, DrivenFirst, ResetDriven, ResetNotDriven, HomeAdmitted, HomeDone, DiscreteActive, VelocityActive, FollowOut, FollowActive, StopAdmitted, StopReleased, LastDone, GroupActive, PathRest}

-- an axis takes motion commands. PLCopen Motion Control Part 1, the state diagram
abbrev pub TakesMotion : AxisState → Type 0
TakesMotion state = (state ≡ Standstill) ⊎ (state ≡ DiscreteMotion) ⊎ (state ≡ ContinuousMotion) ⊎ (state ≡ SynchronizedMotion)

-- the states from which an event leads, and the state to which it does. PLCopen Motion Control Part
-- 1, the state diagram, and Part 4 for the last two
abbrev pub AxisTransition : AxisState → AxisEvent → AxisState → Type 0
AxisTransition state Error next = (state ≢ ErrorStop) × (next ≡ ErrorStop)
AxisTransition state PowerOff next = (state ≢ ErrorStop) × (next ≡ Disabled)
AxisTransition state DrivenFirst next = (state ≡ Disabled) × (next ≡ Standstill)
AxisTransition state ResetDriven next = (state ≡ ErrorStop) × (next ≡ Standstill)
AxisTransition state ResetNotDriven next = (state ≡ ErrorStop) × (next ≡ Disabled)
AxisTransition state HomeAdmitted next = (state ≡ Standstill) × (next ≡ Homing)
AxisTransition state HomeDone next = (state ≡ Homing) × (next ≡ Standstill)
AxisTransition state DiscreteActive next = TakesMotion state × (next ≡ DiscreteMotion)
AxisTransition state VelocityActive next = TakesMotion state × (next ≡ ContinuousMotion)
AxisTransition state FollowOut next = (state ≡ SynchronizedMotion) × (next ≡ ContinuousMotion)
AxisTransition state FollowActive next = TakesMotion state × (next ≡ SynchronizedMotion)
AxisTransition state StopAdmitted next = (TakesMotion state ⊎ (state ≡ Homing)) × (next ≡ Stopping)
AxisTransition state StopReleased next = (state ≡ Stopping) × (next ≡ Standstill)
AxisTransition state LastDone next = (state ≡ DiscreteMotion) × (next ≡ Standstill)
AxisTransition state GroupActive next = ((state ≡ Standstill) ⊎ (state ≡ SynchronizedMotion)) × (next ≡ SynchronizedMotion)
AxisTransition state PathRest next = (state ≡ SynchronizedMotion) × (next ≡ Standstill)

-- the state to which an event leads, from each state in which it may come. PLCopen Motion Control
-- Part 1, the state diagram, and Part 4 for the last two
abbrev pub next_of : AxisEvent → AxisState
next_of Error = ErrorStop
next_of PowerOff = Disabled
next_of DrivenFirst = Standstill
next_of ResetDriven = Standstill
next_of ResetNotDriven = Disabled
next_of HomeAdmitted = Homing
next_of HomeDone = Standstill
next_of DiscreteActive = DiscreteMotion
next_of VelocityActive = ContinuousMotion
next_of FollowOut = ContinuousMotion
next_of FollowActive = SynchronizedMotion
next_of StopAdmitted = Stopping
next_of StopReleased = Standstill
next_of LastDone = Standstill
next_of GroupActive = SynchronizedMotion
next_of PathRest = Standstill

-- an event may come in a state: it leads somewhere. PLCopen Motion Control Part 1, the state
-- diagram
abbrev pub IsFrom : AxisState → AxisEvent → Type 0
IsFrom state event = (next : AxisState) × AxisTransition state event next
