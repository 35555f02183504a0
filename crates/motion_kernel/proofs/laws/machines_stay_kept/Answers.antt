-- A machine stays kept by the laws of its axes and groups.
use Rattle.motion_kernel.proofs.kept.MayCall.{may_call}
use Rattle.motion_kernel.proofs.kept.AxisCycles.{CycleLaws}
use Rattle.motion_kernel.proofs.kept.Calls.{CallLaws, call_kept, called_kept}
use Rattle.motion_kernel.proofs.kept.Cycles.{cycle_kept, may_cycle}
use Rattle.motion_kernel.proofs.kept.Laws.{AxesKeepDefinitions, AxesStayKept, AxesStayLed, GroupsComeAlive, GroupsKeepAxes, GroupsStayKept, MembersKeepLimits, PathsChange}
use Rattle.motion_kernel.proofs.kept.Opening.{opening_kept}
use Rattle.motion_kernel.proofs.kept.GroupSteps.{may_step}
use Rattle.motion_kernel.proofs.laws.machines_stay_kept.Goals as goal

axes : (c : goal.After-cam_positions_lie_between_points) → AxesStayKept
axes c = record { opened = c.axes_stay_kept.ensures.opened; command = c.axes_stay_kept.ensures.command; power = c.axes_stay_kept.ensures.power; detach = c.axes_stay_kept.ensures.detach; path = c.axes_stay_kept.ensures.path; cycle = c.axes_stay_kept.ensures.cycle }

definitions : (c : goal.After-cam_positions_lie_between_points) → AxesKeepDefinitions
definitions c = record { command = c.axes_keep_their_definitions.ensures.command; power = c.axes_keep_their_definitions.ensures.power; detach = c.axes_keep_their_definitions.ensures.detach; path = c.axes_keep_their_definitions.ensures.path; cycle = c.axes_keep_their_definitions.ensures.cycle }

led : (c : goal.After-cam_positions_lie_between_points) → AxesStayLed
led c = record { command = c.moving_axes_have_commands.ensures.command; power = c.moving_axes_have_commands.ensures.power; detach = c.moving_axes_have_commands.ensures.detach; cycle = c.moving_axes_have_commands.ensures.cycle }

groups : (c : goal.After-cam_positions_lie_between_points) → GroupsStayKept
groups c = record { opened = c.groups_stay_kept.ensures.opened; command = c.groups_stay_kept.ensures.command; power_off = c.groups_stay_kept.ensures.power_off; detach = c.groups_stay_kept.ensures.detach; cycle = c.groups_stay_kept.ensures.cycle; reset = c.groups_stay_kept.ensures.reset }

counts : (c : goal.After-cam_positions_lie_between_points) → GroupsKeepAxes
counts c = record { command = c.groups_keep_their_axes.ensures.command; power_off = c.groups_keep_their_axes.ensures.power_off; detach = c.groups_keep_their_axes.ensures.detach; cycle = c.groups_keep_their_axes.ensures.cycle; reset = c.groups_keep_their_axes.ensures.reset }

alive : (c : goal.After-cam_positions_lie_between_points) → GroupsComeAlive
alive c = record { command = c.groups_come_alive_by_enable_and_reset.ensures.command; only_enable = c.groups_come_alive_by_enable_and_reset.ensures.only_enable; power_off = c.groups_come_alive_by_enable_and_reset.ensures.power_off; cycle = c.groups_come_alive_by_enable_and_reset.ensures.cycle; reset = c.groups_come_alive_by_enable_and_reset.ensures.reset }

members : (c : goal.After-cam_positions_lie_between_points) → MembersKeepLimits
members c = record { safe = c.members_keep_their_limits.ensures.safe; ends = c.members_keep_their_limits.ensures.ends; stands = c.members_keep_their_limits.ensures.stands; begins = c.members_keep_their_limits.ensures.begins; leaves = c.members_keep_their_limits.ensures.leaves; power_off = c.members_keep_their_limits.ensures.power_off; stays_off = c.members_keep_their_limits.ensures.stays_off }

paths : (c : goal.After-cam_positions_lie_between_points) → PathsChange
paths c = record { begins = c.paths_change_by_commands.ensures.begins; only_begins = c.paths_change_by_commands.ensures.only_begins; only_leaves = c.paths_change_by_commands.ensures.only_leaves; ends = c.paths_change_by_commands.ensures.ends; goes_on = c.paths_change_by_commands.ensures.goes_on }

calls : (c : goal.After-cam_positions_lie_between_points) → CallLaws
calls c = record {
  sound = c.configurations_are_sound.ensures;
  axes = axes c;
  definitions = definitions c;
  held = c.held_axes_take_no_command.ensures;
  led = led c;
  groups = groups c;
  counts = counts c;
  alive = alive c;
  members = members c;
  paths = paths c;
}

cycles : (c : goal.After-cam_positions_lie_between_points) → CycleLaws
cycles c = record {
  cams = c.cam_positions_lie_between_points.ensures.in_range;
  axes = axes c;
  definitions = definitions c;
  led = led c;
  follows = record { follows = c.paths_are_followed.ensures.follows; goes_on = c.paths_are_followed.ensures.goes_on };
  standing = c.standing_axes_stay.ensures;
  groups = groups c;
  counts = counts c;
  alive = alive c;
  members = members c;
  paths = paths c;
}

pub returns-clause-opened : goal.returns-clause-opened
returns-clause-opened c = opening_kept (record { sound = c.configurations_are_sound.ensures; axes = axes c; groups = groups c })

pub returns-clause-may_call : goal.returns-clause-may_call
returns-clause-may_call c = may_call (calls c)

pub returns-clause-called : goal.returns-clause-called
returns-clause-called c = called_kept (calls c)

pub returns-clause-call : goal.returns-clause-call
returns-clause-call c = call_kept (calls c)

pub returns-clause-may_step : goal.returns-clause-may_step
returns-clause-may_step c = may_step

pub returns-clause-may_go_on : goal.returns-clause-may_go_on
returns-clause-may_go_on c = may_cycle (cycles c)

pub returns-clause-cycle : goal.returns-clause-cycle
returns-clause-cycle c = cycle_kept (cycles c)
