-- Each error that a row shows has its cause, by the laws of the machine, of errors and of rows.
use Rattle.motion_laws.proofs.causes.Histories.{CauseLaws, errors_brought}
use Rattle.motion_laws.proofs.entries.errors.Laws.{AxisErrors, ErrorLaws, GroupErrors}
use Rattle.motion_laws.proofs.error_laws.errors_have_causes.Goals as goal

axes : (c : goal.After-rows_show_errors) → AxisErrors
axes c =
    let by = c.errors_stand_in_error_stop.ensures in
    record {
      opened = by.opened;
      command = by.command;
      power = by.power;
      detach = by.detach;
      path = by.path;
      cycle = by.cycle;
    }

groups : (c : goal.After-rows_show_errors) → GroupErrors
groups c =
    let by = c.errors_stand_in_error_stop-2.ensures in
    let are = c.errors_are_those_of_axes.ensures in
    record {
      opened = λ axes. record { shown = by.opened axes; number = are.opened axes };
      command = λ w jerk members core made h. record {
        shown = by.command w jerk members core made h.shown;
        number = are.command w jerk members core h.number;
      };
      power_off = λ core h. record {
        shown = by.power_off core h.shown;
        number = are.power_off core h.number;
      };
      detach = λ owner g h. record {
        shown = by.detach owner g h.shown;
        number = are.detach owner g h.number;
      };
      cycle = λ members core kept axes h. record {
        shown = by.cycle members core kept h.shown;
        number = are.cycle members core axes h.number;
      };
      reset = λ members on g h. record {
        shown = by.reset members on g h.shown;
        number = are.reset members on g h.number;
      };
    }

laws : (c : goal.After-rows_show_errors) → CauseLaws
laws c =
    let m = c.machines_stay_kept.ensures in
    let taken = c.taken_steps_keep.ensures in
    let errors : ErrorLaws = record {
      machines = record {
        opened = m.opened;
        call = m.call;
        may_go_on = m.may_go_on;
        cycle = m.cycle;
      };
      may_call = m.may_call;
      axes = axes c;
      groups = groups c;
    } in
    record {
      errors = errors;
      exact = taken.exact;
      walk = record {
        machines = errors.machines;
        may_call = m.may_call;
        axis = c.axis_changes_are_made.ensures;
        group = c.group_changes_are_made.ensures;
      };
      told = c.errors_are_told_as_shown.ensures.entries;
      rows = c.rows_show_the_machine.ensures.entries;
      show = c.rows_show_errors.ensures.errors;
    }

pub returns : goal.returns
returns c = record { causes = errors_brought (laws c) }
