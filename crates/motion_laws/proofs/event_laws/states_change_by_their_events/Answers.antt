-- The states of axes and groups change by their events, by the laws of the machine, its axes and
-- its groups.
use Rattle.motion_laws.proofs.entries.events.Cycles.{cycle_goes}
use Rattle.motion_laws.proofs.entries.events.Histories.{call_goes, entries_go}
use Rattle.motion_laws.proofs.entries.events.Laws.{EventLaws}
use Rattle.motion_kernel.proofs.kept.Laws.{AxesKeepDefinitions, AxesStayKept, GroupsKeepAxes, GroupsStayKept}
use Rattle.motion_kernel.proofs.kept.Machine.{MachinesStayKept}
use Rattle.motion_laws.proofs.event_laws.states_change_by_their_events.Goals as goal

machines : (c : goal.After-groups_change_by_their_events) → MachinesStayKept
machines c = record {
  opened = c.machines_stay_kept.ensures.opened;
  call = c.machines_stay_kept.ensures.call;
  may_go_on = c.machines_stay_kept.ensures.may_go_on;
  cycle = c.machines_stay_kept.ensures.cycle;
}

axes : (c : goal.After-groups_change_by_their_events) → AxesStayKept
axes c = record {
  opened = c.axes_stay_kept.ensures.opened;
  command = c.axes_stay_kept.ensures.command;
  power = c.axes_stay_kept.ensures.power;
  detach = c.axes_stay_kept.ensures.detach;
  path = c.axes_stay_kept.ensures.path;
  cycle = c.axes_stay_kept.ensures.cycle;
}

definitions : (c : goal.After-groups_change_by_their_events) → AxesKeepDefinitions
definitions c = record {
  command = c.axes_keep_their_definitions.ensures.command;
  power = c.axes_keep_their_definitions.ensures.power;
  detach = c.axes_keep_their_definitions.ensures.detach;
  path = c.axes_keep_their_definitions.ensures.path;
  cycle = c.axes_keep_their_definitions.ensures.cycle;
}

groups : (c : goal.After-groups_change_by_their_events) → GroupsStayKept
groups c = record {
  opened = c.groups_stay_kept.ensures.opened;
  command = c.groups_stay_kept.ensures.command;
  power_off = c.groups_stay_kept.ensures.power_off;
  detach = c.groups_stay_kept.ensures.detach;
  cycle = c.groups_stay_kept.ensures.cycle;
  reset = c.groups_stay_kept.ensures.reset;
}

counts : (c : goal.After-groups_change_by_their_events) → GroupsKeepAxes
counts c = record {
  command = c.groups_keep_their_axes.ensures.command;
  power_off = c.groups_keep_their_axes.ensures.power_off;
  detach = c.groups_keep_their_axes.ensures.detach;
  cycle = c.groups_keep_their_axes.ensures.cycle;
  reset = c.groups_keep_their_axes.ensures.reset;
}

laws : (c : goal.After-groups_change_by_their_events) → EventLaws
laws c = record {
  machines = machines c;
  may_call = c.machines_stay_kept.ensures.may_call;
  kept_axes = axes c;
  definitions = definitions c;
  kept_groups = groups c;
  counts = counts c;
  axes = c.axes_change_by_their_events.ensures;
  groups = c.groups_change_by_their_events.ensures;
}

pub returns-clause-call : goal.returns-clause-call
returns-clause-call c = call_goes (laws c)

pub returns-clause-cycle : goal.returns-clause-cycle
returns-clause-cycle c = cycle_goes (laws c)

pub returns-clause-entries : goal.returns-clause-entries
returns-clause-entries c = entries_go (laws c)
