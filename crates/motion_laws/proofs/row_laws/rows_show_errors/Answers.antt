-- Rows show errors exactly in the states of errors, by the laws of the machine, its axes and its
-- groups.
use Rattle.motion_laws.proofs.entries.errors.Histories.{errors_show}
use Rattle.motion_laws.proofs.entries.errors.Laws.{AxisErrors, GroupErrors}
use Rattle.motion_laws.proofs.row_laws.rows_show_errors.Goals as goal

axes : (c : goal.After-errors_are_those_of_axes) → AxisErrors
axes c =
    let by = c.errors_stand_in_error_stop.ensures in
    record {
      opened = by.opened;
      command = by.command;
      power = by.power;
      detach = by.detach;
      path = by.path;
      cycle = by.cycle;
    }

groups : (c : goal.After-errors_are_those_of_axes) → GroupErrors
groups c =
    let by = c.errors_stand_in_error_stop-2.ensures in
    let are = c.errors_are_those_of_axes.ensures in
    record {
      opened = λ axes. record { shown = by.opened axes; number = are.opened axes };
      command = λ w jerk members core made h. record {
        shown = by.command w jerk members core made h.shown;
        number = are.command w jerk members core h.number;
      };
      power_off = λ core h. record {
        shown = by.power_off core h.shown;
        number = are.power_off core h.number;
      };
      detach = λ owner g h. record {
        shown = by.detach owner g h.shown;
        number = are.detach owner g h.number;
      };
      cycle = λ members core kept axes h. record {
        shown = by.cycle members core kept h.shown;
        number = are.cycle members core axes h.number;
      };
      reset = λ members on g h. record {
        shown = by.reset members on g h.shown;
        number = are.reset members on g h.number;
      };
    }

pub returns : goal.returns
returns c =
    let m = c.machines_stay_kept.ensures in
    record {
      errors = errors_show (record {
        machines = record {
          opened = m.opened;
          call = m.call;
          may_go_on = m.may_go_on;
          cycle = m.cycle;
        };
        may_call = m.may_call;
        axes = axes c;
        groups = groups c;
      });
    }
