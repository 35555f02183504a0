-- Every row of a past keeps its axis's limits, by the laws of the machine and of its axes.
use Rattle.motion_kernel.proofs.kept.Machine.{MachinesStayKept}
use Rattle.motion_laws.proofs.limits.Rows.{limits_kept}
use Rattle.motion_laws.proofs.limit_laws.rows_keep_limits.Goals as goal

pub returns : goal.returns
returns c =
    let machines : MachinesStayKept = record {
      opened = c.machines_stay_kept.ensures.opened;
      call = c.machines_stay_kept.ensures.call;
      may_go_on = c.machines_stay_kept.ensures.may_go_on;
      cycle = c.machines_stay_kept.ensures.cycle;
    } in
    let limits = limits_kept (record {
      machines = machines;
      calls = record {
        command = c.calls_move_no_axis.ensures.command;
        power = c.calls_move_no_axis.ensures.power;
        detach = c.calls_move_no_axis.ensures.detach;
        path = c.calls_move_no_axis.ensures.path;
      };
      rows = c.axes_stay_kept.ensures.row;
    }) in
    record { limits = limits }
