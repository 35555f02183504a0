-- Targets follow setpoints, by the laws of the machine and of its axes.
use Rattle.motion_laws.proofs.limits.Drives.{targets_follow}
use Rattle.motion_laws.proofs.drive_laws.targets_follow_setpoints.Goals as goal

pub returns : goal.returns
returns c =
    let m = c.machines_stay_kept.ensures in
    let d = c.axes_keep_their_definitions.ensures in
    let stay = c.calls_move_no_axis.ensures in
    let targets = targets_follow
    (record {
      machines = record { opened = m.opened; call = m.call; may_go_on = m.may_go_on; cycle = m.cycle };
      definitions = record { command = d.command; power = d.power; detach = d.detach; path = d.path; cycle = d.cycle };
    })
    (record { command = stay.command; power = stay.power; detach = stay.detach; path = stay.path })
    c.configurations_are_sound.ensures in
    record { targets = targets }
