-- Rows follow the line of their group, by the laws of rows and of lines.
use Rattle.motion_laws.proofs.arrivals.Along.{AlongLaws, rows_follow}
use Rattle.motion_laws.proofs.arrivals.Braking.{group_halts_slow}
use Rattle.motion_laws.proofs.arrivals.Paths.{GroupLaws}
use Rattle.motion_laws.proofs.arrivals.PathsDone.{DoneLaws}
use Rattle.motion_laws.proofs.row_laws.rows_follow_lines.Goals as goal

groups : (c : goal.After-paths_are_followed) → GroupLaws
groups c = record {
  machines = record {
    opened = c.machines_stay_kept.ensures.opened;
    call = c.machines_stay_kept.ensures.call;
    may_go_on = c.machines_stay_kept.ensures.may_go_on;
    cycle = c.machines_stay_kept.ensures.cycle;
  };
  may_call = c.machines_stay_kept.ensures.may_call;
  fates = c.group_fates_are_told.ensures;
  courses = record {
    begins = c.courses_end_in_time.ensures.begins;
    command = c.courses_end_in_time.ensures.command;
    power_off = c.courses_end_in_time.ensures.power_off;
    detach = c.courses_end_in_time.ensures.detach;
    cycle = c.courses_end_in_time.ensures.cycle;
    reset = c.courses_end_in_time.ensures.reset;
  };
}

done : (c : goal.After-paths_are_followed) → DoneLaws
done c = record {
  groups = groups c;
  lines = record {
    command = c.lines_lead_to_their_targets.ensures.command;
    power_off = c.lines_lead_to_their_targets.ensures.power_off;
    detach = c.lines_lead_to_their_targets.ensures.detach;
    cycle = c.lines_lead_to_their_targets.ensures.cycle;
    places = c.lines_lead_to_their_targets.ensures.places;
    done = c.lines_lead_to_their_targets.ensures.done;
    ends = c.lines_lead_to_their_targets.ensures.ends;
  };
  follows = c.paths_are_followed.ensures.goes_on;
}

laws : (c : goal.After-paths_are_followed) → AlongLaws
laws c = record { done = done c; rows = c.rows_show_the_machine.ensures.entries }

pub returns : goal.returns
returns c = record {
  rows = rows_follow (laws c);
  halts = group_halts_slow (record { along = laws c; braking = c.braking_steps_are_only_cut.ensures });
}
