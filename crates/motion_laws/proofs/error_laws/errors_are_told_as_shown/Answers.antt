-- Errors are reported as they are shown, by the laws of the machine and of changes.
use Rattle.motion_laws.proofs.entries.numbers.Histories.{errors_told}
use Rattle.motion_laws.proofs.error_laws.errors_are_told_as_shown.Goals as goal

pub returns : goal.returns
returns c =
    let m = c.machines_stay_kept.ensures in
    record {
      entries = errors_told (record {
        machines = record {
          opened = m.opened;
          call = m.call;
          may_go_on = m.may_go_on;
          cycle = m.cycle;
        };
        may_call = m.may_call;
        axis = c.axis_changes_are_made.ensures;
        group = c.group_changes_are_made.ensures;
      });
    }
