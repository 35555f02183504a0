-- The blocks of a group by their kinds, one row each (PLCopen Motion Control Part 4).
use Rattle.std.specs.Prelude.{Bool, true, false, not, ℤ, Option, List, []}
use Rattle.command_pool.specs.declared.ending.Finish.{Finish}
use Rattle.plc_types.specs.declared.kind.BlockKind.{BlockKind}
use Rattle.plc_types.specs.declared.kind.BlockKind.TheVariants as kind
use Rattle.command_pool.specs.declared.wanted.Wanted.{Wanted}
use Rattle.axis_state.specs.declared.group_diagram.GroupEvent.{GroupEvent}
use Rattle.axis_state.specs.declared.group_diagram.GroupEvent.TheVariants as event
use Rattle.plc_types.specs.declared.group.GroupState.{GroupState}
use Rattle.plc_types.specs.declared.group.GroupState.TheVariants as state
use Rattle.group_core.specs.Tracks.{braking_step_of, line_step_of}
use Rattle.group_core.specs.blocks.Enable.{disable_tests, enable_tests}
use Rattle.group_core.specs.blocks.Halts.{halt_ending, halt_tests}
use Rattle.group_core.specs.blocks.Line.{circle_tests, line_ending, line_tests}
use Rattle.group_core.specs.declared.group.Motion.{Motion}
use Rattle.group_core.specs.declared.reason.Reason.{Reason}

-- the reasons against which a command is tested, in their order
abbrev pub tests_of : BlockKind → List Reason
tests_of kind.GroupEnable = enable_tests
tests_of kind.GroupDisable = disable_tests
tests_of kind.GroupStop = halt_tests
tests_of kind.GroupHalt = halt_tests
tests_of kind.MoveLinearAbsolute = line_tests
tests_of kind.MoveCircularAbsolute = circle_tests
tests_of k = []

-- whether a kind takes a buffer mode, so that its command may wait
abbrev pub may_wait : BlockKind → Bool
may_wait kind.MoveLinearAbsolute = true
may_wait kind.MoveCircularAbsolute = true
may_wait k = false

-- whether a kind may come in a state, with a path that moves or not: its event leads from there
abbrev pub may_come : BlockKind → GroupState → Bool → Bool
may_come kind.GroupEnable state.GroupDisabled moves = true
may_come kind.GroupDisable state.GroupDisabled moves = true
may_come kind.GroupDisable state.GroupStandby moves = true
may_come kind.GroupDisable state.GroupErrorStop moves = not moves
may_come kind.GroupStop state.GroupStandby moves = true
may_come kind.GroupStop state.GroupMoving moves = true
may_come kind.GroupHalt state.GroupStandby moves = true
may_come kind.GroupHalt state.GroupMoving moves = true
may_come kind.MoveLinearAbsolute state.GroupStandby moves = true
may_come kind.MoveLinearAbsolute state.GroupMoving moves = true
may_come kind.MoveCircularAbsolute state.GroupStandby moves = true
may_come kind.MoveCircularAbsolute state.GroupMoving moves = true
may_come k s moves = false

-- the event by which a command that moves or brakes the path becomes active
abbrev pub event_of : BlockKind → GroupEvent
event_of kind.GroupStop = event.StopAdmitted
event_of k = event.MoveAdmitted

-- the taken step along the path of an active command
abbrev pub step_by : BlockKind → Wanted → Motion → ℤ
step_by kind.MoveLinearAbsolute w m = line_step_of w.rates m
step_by k w m = braking_step_of w.rates.d m

-- how an active command ends by a taken step, if it does
abbrev pub ending_by : BlockKind → Motion → ℤ → Option Finish
ending_by kind.MoveLinearAbsolute m step = line_ending m step
ending_by k m step = halt_ending step
