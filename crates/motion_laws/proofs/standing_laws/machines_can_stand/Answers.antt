-- A machine can stand as it does, by the laws of the machine, its axes and its groups.
use Rattle.motion_kernel.proofs.kept.Machine.{MachinesStayKept}
use Rattle.motion_kernel.proofs.owners.commands.Events.{OwnerLaws}
use Rattle.motion_laws.proofs.entries.errors.Laws.{AxisErrors, GroupErrors}
use Rattle.motion_laws.proofs.standing.Kept.{StandingLaws, opening_stands, past_stands, segment_stands}
use Rattle.motion_laws.proofs.standing_laws.machines_can_stand.Goals as goal

owners : (c : goal.After-lines_lead_to_their_targets) → OwnerLaws
owners c =
    let m = c.machines_stay_kept.ensures in
    let machines : MachinesStayKept = record { opened = m.opened; call = m.call; may_go_on = m.may_go_on; cycle = m.cycle } in
    record {
      walk = record {
        machines = machines;
        may_call = m.may_call;
        axis = c.axis_changes_are_made.ensures;
        group = c.group_changes_are_made.ensures;
      };
      once = c.ends_are_told_once.ensures;
      more = c.commands_come_from_calls.ensures;
      hold = c.holders_have_commands.ensures;
    }

axis_errors : (c : goal.After-lines_lead_to_their_targets) → AxisErrors
axis_errors c =
    let by = c.errors_stand_in_error_stop.ensures in
    record {
      opened = by.opened;
      command = by.command;
      power = by.power;
      detach = by.detach;
      path = by.path;
      cycle = by.cycle;
    }

group_errors : (c : goal.After-lines_lead_to_their_targets) → GroupErrors
group_errors c =
    let by = c.errors_stand_in_error_stop-2.ensures in
    let are = c.errors_are_those_of_axes.ensures in
    record {
      opened = λ axes. record { shown = by.opened axes; number = are.opened axes };
      command = λ w jerk members core made h. record {
        shown = by.command w jerk members core made h.shown;
        number = are.command w jerk members core h.number;
      };
      power_off = λ core h. record {
        shown = by.power_off core h.shown;
        number = are.power_off core h.number;
      };
      detach = λ owner g h. record {
        shown = by.detach owner g h.shown;
        number = are.detach owner g h.number;
      };
      cycle = λ members core kept axes h. record {
        shown = by.cycle members core kept h.shown;
        number = are.cycle members core axes h.number;
      };
      reset = λ members on g h. record {
        shown = by.reset members on g h.shown;
        number = are.reset members on g h.number;
      };
    }

laws : (c : goal.After-lines_lead_to_their_targets) → StandingLaws
laws c =
    let m = c.machines_stay_kept.ensures in
    let led = c.moving_axes_have_commands.ensures in
    let lines = c.lines_lead_to_their_targets.ensures in
    record {
      owners = owners c;
      errors = record {
        machines = record { opened = m.opened; call = m.call; may_go_on = m.may_go_on; cycle = m.cycle };
        may_call = m.may_call;
        axes = axis_errors c;
        groups = group_errors c;
      };
      axes = record {
        opened = led.opened;
        command = led.command;
        power = led.power;
        detach = led.detach;
        path = led.path;
        cycle = led.cycle;
      };
      groups = record {
        command = lines.command;
        power_off = lines.power_off;
        detach = lines.detach;
        cycle = lines.cycle;
      };
    }

pub returns-clause-opened : goal.returns-clause-opened
returns-clause-opened c = opening_stands (laws c)

pub returns-clause-segment : goal.returns-clause-segment
returns-clause-segment c = segment_stands (laws c)

pub returns-clause-past : goal.returns-clause-past
returns-clause-past c = past_stands (laws c)
