-- Entries make outcomes, by the laws of the machine and of the changes of commands.
use Rattle.motion_kernel.proofs.kept.Machine.{MachinesStayKept}
use Rattle.motion_laws.proofs.results.outcomes.Final.{OutcomeLaws}
use Rattle.motion_laws.proofs.results.outcomes.Histories.{outcomes_made}
use Rattle.motion_laws.proofs.outcome_laws.entries_make_outcomes.Goals as goal

laws : (c : goal.After-holders_have_commands) → OutcomeLaws
laws c =
    let m = c.machines_stay_kept.ensures in
    let machines : MachinesStayKept = record { opened = m.opened; call = m.call; may_go_on = m.may_go_on; cycle = m.cycle } in
    record {
      owners = record {
        walk = record {
          machines = machines;
          may_call = m.may_call;
          axis = c.axis_changes_are_made.ensures;
          group = c.group_changes_are_made.ensures;
        };
        once = c.ends_are_told_once.ensures;
        more = c.commands_come_from_calls.ensures;
        hold = c.holders_have_commands.ensures;
      };
      order = c.changes_follow_one_another.ensures;
      fates = c.changes_make_fates.ensures;
    }

pub returns : goal.returns
returns c = record { outcomes = outcomes_made (laws c) c.configurations_are_sound.ensures }
