-- Results are reported, by what each entry makes of an instance.
use Rattle.motion_kernel.proofs.kept.Machine.{MachinesStayKept}
use Rattle.motion_laws.proofs.results.Told.{TellLaws, results_told}
use Rattle.motion_laws.proofs.result_laws.results_are_told.Goals as goal

laws : (c : goal.After-group_fates_are_told) → TellLaws
laws c =
    let m = c.machines_stay_kept.ensures in
    let machines : MachinesStayKept = record { opened = m.opened; call = m.call; may_go_on = m.may_go_on; cycle = m.cycle } in
    record {
      outcomes = record {
        owners = record {
          walk = record {
            machines = machines;
            may_call = m.may_call;
            axis = c.axis_changes_are_made.ensures;
            group = c.group_changes_are_made.ensures;
          };
          once = c.ends_are_told_once.ensures;
          more = c.commands_come_from_calls.ensures;
          hold = c.holders_have_commands.ensures;
        };
        order = c.changes_follow_one_another.ensures;
        fates = c.changes_make_fates.ensures;
      };
      axes = c.axis_fates_are_told.ensures;
      groups = c.group_fates_are_told.ensures;
    }

pub returns : goal.returns
returns c = record { results = results_told (laws c) c.entries_make_outcomes.ensures.outcomes }
