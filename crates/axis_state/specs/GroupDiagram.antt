-- The group state diagram.
use Rattle.std.specs.Prelude.{◌≡◌, ◌⊎◌}
use Rattle.plc_types.specs.declared.group.GroupState.{GroupState}
use Rattle.plc_types.specs.declared.group.GroupState.TheVariants.{GroupDisabled, GroupStandby, GroupMoving, GroupStopping, GroupErrorStop}
use Rattle.axis_state.specs.declared.group_diagram.GroupEvent.{GroupEvent}
use Rattle.axis_state.specs.declared.group_diagram.GroupEvent.TheVariants.{Enable, Disable, MoveAdmitted, LastDone, StopAdmitted, StopReleased, MemberError, ResetAllStandstill, ResetElse}

-- the states from which an event leads, and the state to which it does. PLCopen Motion Control Part
-- 4, the state diagram; from where GroupDisable may come and to where GroupReset leads is this
-- project's profile
abbrev pub GroupTransition : GroupState → GroupEvent → GroupState → Type 0
GroupTransition state Enable next = (state ≡ GroupDisabled) × (next ≡ GroupStandby)
GroupTransition state Disable next = ((state ≡ GroupDisabled) ⊎ (state ≡ GroupStandby) ⊎ (state ≡ GroupErrorStop)) × (next ≡ GroupDisabled)
GroupTransition state MoveAdmitted next = ((state ≡ GroupStandby) ⊎ (state ≡ GroupMoving)) × (next ≡ GroupMoving)
GroupTransition state LastDone next = (state ≡ GroupMoving) × (next ≡ GroupStandby)
GroupTransition state StopAdmitted next = ((state ≡ GroupStandby) ⊎ (state ≡ GroupMoving)) × (next ≡ GroupStopping)
GroupTransition state StopReleased next = (state ≡ GroupStopping) × (next ≡ GroupStandby)
GroupTransition state MemberError next = ((state ≡ GroupStandby) ⊎ (state ≡ GroupMoving) ⊎ (state ≡ GroupStopping)) × (next ≡ GroupErrorStop)
GroupTransition state ResetAllStandstill next = (state ≡ GroupErrorStop) × (next ≡ GroupStandby)
GroupTransition state ResetElse next = (state ≡ GroupErrorStop) × (next ≡ GroupDisabled)

-- the state to which an event leads, from each state in which it may come. PLCopen Motion Control
-- Part 4, the state diagram
abbrev pub next_of : GroupEvent → GroupState
next_of Enable = GroupStandby
next_of Disable = GroupDisabled
next_of MoveAdmitted = GroupMoving
next_of LastDone = GroupStandby
next_of StopAdmitted = GroupStopping
next_of StopReleased = GroupStandby
next_of MemberError = GroupErrorStop
next_of ResetAllStandstill = GroupStandby
next_of ResetElse = GroupDisabled

-- an event may come in a state: it leads somewhere. PLCopen Motion Control Part 4, the state
-- diagram
abbrev pub IsFrom : GroupState → GroupEvent → Type 0
IsFrom state event = (next : GroupState) × GroupTransition state event next
