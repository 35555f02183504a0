-- Commands of groups end in time, by the laws of the machine and of its groups.
use Rattle.motion_laws.proofs.arrivals.Paths.{GroupLaws}
use Rattle.motion_laws.proofs.arrivals.PathsDone.{DoneLaws}
use Rattle.motion_laws.proofs.arrivals.PathsEnd.{paths_end}
use Rattle.motion_laws.proofs.arrival_laws.paths_end_in_time.Goals as goal

groups : (c : goal.After-paths_are_followed) → GroupLaws
groups c = record {
  machines = record {
    opened = c.machines_stay_kept.ensures.opened;
    call = c.machines_stay_kept.ensures.call;
    may_go_on = c.machines_stay_kept.ensures.may_go_on;
    cycle = c.machines_stay_kept.ensures.cycle;
  };
  may_call = c.machines_stay_kept.ensures.may_call;
  fates = c.group_fates_are_told.ensures;
  courses = record {
    begins = c.courses_end_in_time.ensures.begins;
    command = c.courses_end_in_time.ensures.command;
    power_off = c.courses_end_in_time.ensures.power_off;
    detach = c.courses_end_in_time.ensures.detach;
    cycle = c.courses_end_in_time.ensures.cycle;
    reset = c.courses_end_in_time.ensures.reset;
  };
}

laws : (c : goal.After-paths_are_followed) → DoneLaws
laws c = record {
  groups = groups c;
  lines = record {
    command = c.lines_lead_to_their_targets.ensures.command;
    power_off = c.lines_lead_to_their_targets.ensures.power_off;
    detach = c.lines_lead_to_their_targets.ensures.detach;
    cycle = c.lines_lead_to_their_targets.ensures.cycle;
    places = c.lines_lead_to_their_targets.ensures.places;
    done = c.lines_lead_to_their_targets.ensures.done;
    ends = c.lines_lead_to_their_targets.ensures.ends;
  };
  follows = c.paths_are_followed.ensures.goes_on;
}

pub returns : goal.returns
returns c = record { paths = paths_end (laws c) }
