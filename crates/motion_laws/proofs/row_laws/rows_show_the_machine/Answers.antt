-- The rows show the machine, by the law that machines stay kept.
use Rattle.motion_kernel.proofs.kept.Machine.{MachinesStayKept}
use Rattle.motion_laws.proofs.entries.rows.Cycles.{cycle_shows}
use Rattle.motion_laws.proofs.entries.rows.Histories.{entries_show}
use Rattle.motion_laws.proofs.row_laws.rows_show_the_machine.Goals as goal

machines : (c : goal.After-machines_stay_kept) → MachinesStayKept
machines c = record {
  opened = c.machines_stay_kept.ensures.opened;
  call = c.machines_stay_kept.ensures.call;
  may_go_on = c.machines_stay_kept.ensures.may_go_on;
  cycle = c.machines_stay_kept.ensures.cycle;
}

pub returns-clause-cycle : goal.returns-clause-cycle
returns-clause-cycle c = cycle_shows (machines c)

pub returns-clause-entries : goal.returns-clause-entries
returns-clause-entries c = entries_show (machines c)
