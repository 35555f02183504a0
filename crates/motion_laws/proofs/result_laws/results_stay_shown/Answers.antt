-- Results stay, and go with Execute, by what is reported.
use Rattle.motion_kernel.proofs.kept.Machine.{MachinesStayKept}
use Rattle.motion_laws.proofs.results.Stays.{results_go, results_stay}
use Rattle.motion_laws.proofs.result_laws.results_stay_shown.Goals as goal

machines : (c : goal.After-machines_stay_kept) → MachinesStayKept
machines c = let m = c.machines_stay_kept.ensures in record { opened = m.opened; call = m.call; may_go_on = m.may_go_on; cycle = m.cycle }

pub returns : goal.returns
returns c = record {
  results = results_stay (machines c) c.results_are_told.ensures.results;
  goes = results_go (machines c) c.results_are_told.ensures.results;
}
