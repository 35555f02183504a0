-- Every axis and every path can be stopped after a past, by the laws of the machine.
use Rattle.motion_kernel.specs.Histories.{replay}
use Rattle.motion_kernel.specs.Machine.{machine_at_opening}
use Rattle.motion_kernel.proofs.kept.Machine.{MachinesStayKept}
use Rattle.motion_laws.proofs.limits.Stoppable.{axis_stoppable, path_stoppable}
use Rattle.motion_laws.proofs.Histories.{past_kept, past_so_far}
use Rattle.motion_laws.proofs.limit_laws.axes_stay_stoppable.Goals as goal

machines : (c : goal.After-machines_stay_kept) → MachinesStayKept
machines c = record {
  opened = c.machines_stay_kept.ensures.opened;
  call = c.machines_stay_kept.ensures.call;
  may_go_on = c.machines_stay_kept.ensures.may_go_on;
  cycle = c.machines_stay_kept.ensures.cycle;
}

pub returns-clause-entries : goal.returns-clause-entries
returns-clause-entries c = past_so_far

pub returns-clause-machine : goal.returns-clause-machine
returns-clause-machine c = past_kept (machines c)

pub returns-clause-axes : goal.returns-clause-axes
returns-clause-axes c s es setup whole past n =
    axis_stoppable s (replay s (machine_at_opening s) es) n (past_kept (machines c) s es setup whole past)

pub returns-clause-paths : goal.returns-clause-paths
returns-clause-paths c s es setup whole past j p =
    path_stoppable s (replay s (machine_at_opening s) es) j p (past_kept (machines c) s es setup whole past)
