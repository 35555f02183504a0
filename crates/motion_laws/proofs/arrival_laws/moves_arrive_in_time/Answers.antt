-- Moves arrive in time, by the laws of the machine and of its axes.
use Rattle.motion_laws.proofs.arrivals.MoveEvents.{ArrivalLaws}
use Rattle.motion_laws.proofs.arrivals.Moves.{moves_arrive}
use Rattle.motion_kernel.proofs.kept.Machine.{MachinesStayKept}
use Rattle.motion_laws.proofs.arrival_laws.moves_arrive_in_time.Goals as goal

machines : (c : goal.After-moves_are_done_at_their_targets) → MachinesStayKept
machines c = record {
  opened = c.machines_stay_kept.ensures.opened;
  call = c.machines_stay_kept.ensures.call;
  may_go_on = c.machines_stay_kept.ensures.may_go_on;
  cycle = c.machines_stay_kept.ensures.cycle;
}

laws : (c : goal.After-moves_are_done_at_their_targets) → ArrivalLaws
laws c = record {
  machines = machines c;
  fates = c.axis_fates_are_told.ensures;
  courses = record {
    begins = c.courses_end_in_time.ensures.begins;
    command = c.courses_end_in_time.ensures.command;
    power = c.courses_end_in_time.ensures.power;
    detach = c.courses_end_in_time.ensures.detach;
    cycle = c.courses_end_in_time.ensures.cycle;
  };
  blends = record {
    crosses = c.blended_moves_end_in_time.ensures.crosses;
    ends = c.blended_moves_end_in_time.ensures.ends;
    command = c.blended_moves_end_in_time.ensures.command;
    power = c.blended_moves_end_in_time.ensures.power;
    detach = c.blended_moves_end_in_time.ensures.detach;
    cycle = c.blended_moves_end_in_time.ensures.cycle;
  };
  moves = c.moves_are_done_at_their_targets.ensures;
}

pub returns : goal.returns
returns c = record { moves = moves_arrive (laws c) }
