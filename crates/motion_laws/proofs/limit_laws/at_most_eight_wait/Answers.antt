-- At most eight commands wait in each list, by the laws of the machine, its axes and its groups.
use Rattle.motion_laws.proofs.limits.Waiting.{past_short}
use Rattle.motion_kernel.proofs.walk.Keeps.{CoresKept, WalkLaws}
use Rattle.motion_laws.proofs.limit_laws.at_most_eight_wait.Goals as goal

walk : (c : goal.After-at_most_eight_wait) → WalkLaws
walk c =
    let m = c.machines_stay_kept.ensures in
    record {
      machines = record { opened = m.opened; call = m.call; may_go_on = m.may_go_on; cycle = m.cycle };
      may_call = m.may_call;
      axis = c.axis_changes_are_made.ensures;
      group = c.group_changes_are_made.ensures;
    }

cores : (c : goal.After-at_most_eight_wait) → CoresKept
cores c =
    let a = c.axes_stay_kept.ensures in
    let d = c.axes_keep_their_definitions.ensures in
    let g = c.groups_stay_kept.ensures in
    let n = c.groups_keep_their_axes.ensures in
    record {
      kept_axes = record { opened = a.opened; command = a.command; power = a.power; detach = a.detach; path = a.path; cycle = a.cycle };
      definitions = record { command = d.command; power = d.power; detach = d.detach; path = d.path; cycle = d.cycle };
      kept_groups = record { opened = g.opened; command = g.command; power_off = g.power_off; detach = g.detach; cycle = g.cycle; reset = g.reset };
      counts = record { command = n.command; power_off = n.power_off; detach = n.detach; cycle = n.cycle; reset = n.reset };
    }

pub returns : goal.returns
returns c = record { lists = past_short (walk c) (cores c) c.at_most_eight_wait.ensures }
