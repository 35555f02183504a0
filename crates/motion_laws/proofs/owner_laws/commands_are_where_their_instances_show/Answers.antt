-- Commands are where their instances show, by the laws of the machine, its axes and its groups.
use Rattle.motion_laws.proofs.owners.Shown.{call_all_shown, cycle_all_shown, past_all_shown, opening_all_shown}
use Rattle.motion_kernel.proofs.kept.Machine.{MachinesStayKept}
use Rattle.motion_kernel.proofs.owners.commands.Events.{OwnerLaws}
use Rattle.motion_laws.proofs.owner_laws.commands_are_where_their_instances_show.Goals as goal

laws : (c : goal.After-holders_have_commands) → OwnerLaws
laws c =
    let m = c.machines_stay_kept.ensures in
    let machines : MachinesStayKept = record { opened = m.opened; call = m.call; may_go_on = m.may_go_on; cycle = m.cycle } in
    record {
      walk = record {
        machines = machines;
        may_call = m.may_call;
        axis = c.axis_changes_are_made.ensures;
        group = c.group_changes_are_made.ensures;
      };
      once = c.ends_are_told_once.ensures;
      more = c.commands_come_from_calls.ensures;
      hold = c.holders_have_commands.ensures;
    }

pub returns-clause-opened : goal.returns-clause-opened
returns-clause-opened c = opening_all_shown

pub returns-clause-call : goal.returns-clause-call
returns-clause-call c = call_all_shown (laws c)

pub returns-clause-cycle : goal.returns-clause-cycle
returns-clause-cycle c = cycle_all_shown (laws c)

pub returns-clause-entries : goal.returns-clause-entries
returns-clause-entries c = past_all_shown (laws c)
