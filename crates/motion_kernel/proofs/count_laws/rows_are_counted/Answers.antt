-- Every row of a past is counted, by the laws of the machine and of its axes.
use Rattle.motion_kernel.proofs.Counted.{all_counted}
use Rattle.motion_kernel.proofs.count_laws.rows_are_counted.Goals as goal

pub returns : goal.returns
returns c = all_counted (record {
  machines = record {
    opened = c.machines_stay_kept.ensures.opened;
    call = c.machines_stay_kept.ensures.call;
    may_go_on = c.machines_stay_kept.ensures.may_go_on;
    cycle = c.machines_stay_kept.ensures.cycle;
  };
  definitions = record {
    command = c.axes_keep_their_definitions.ensures.command;
    power = c.axes_keep_their_definitions.ensures.power;
    detach = c.axes_keep_their_definitions.ensures.detach;
    path = c.axes_keep_their_definitions.ensures.path;
    cycle = c.axes_keep_their_definitions.ensures.cycle;
  };
  sound = c.configurations_are_sound.ensures;
  offsets = c.offsets_are_small.ensures;
  near = c.counts_are_read_back.ensures.distance;
})
