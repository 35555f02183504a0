-- Rows show that moves arrive, by the laws of moves and of rows.
use Rattle.motion_kernel.proofs.kept.Machine.{MachinesStayKept}
use Rattle.motion_laws.proofs.arrivals.Standing.{StandLaws, rows_stand}
use Rattle.motion_laws.proofs.row_laws.rows_show_that_moves_arrive.Goals as goal

laws : (c : goal.After-axis_fates_are_told) → StandLaws
laws c =
    let m = c.machines_stay_kept.ensures in
    let machines : MachinesStayKept = record { opened = m.opened; call = m.call; may_go_on = m.may_go_on; cycle = m.cycle } in
    record {
      machines = machines;
      axes = c.axis_fates_are_told.ensures;
      rows = c.rows_show_the_machine.ensures.entries;
      moves = c.moves_arrive_in_time.ensures.moves;
    }

pub returns : goal.returns
returns c = record { rows = rows_stand (laws c) }
