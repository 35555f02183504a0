-- The changes of a group are made.
use Rattle.command_changes.proofs.group.Calls.{command_called, command_fits, detach_makes, off_call, off_cycles}
use Rattle.command_changes.proofs.group.Cycles.{cycle_cycles, reset_none, reset_stands}
use Rattle.command_changes.proofs.laws.group_changes_are_made.Goals as goal

pub returns : goal.returns
returns c =
    let order = c.changes_follow_one_another.ensures in
    record {
      command = λ w jerk members core. (command_called order w jerk members core).makes;
      power_off = λ core. (off_cycles core).makes;
      cycle = λ members core. (cycle_cycles order members core).makes;
      reset = λ members core. (reset_stands members core).makes;
      detach = detach_makes;
      command_call = λ w jerk members core. (command_called order w jerk members core).call;
      power_call = off_call;
      command_brings = λ k w jerk members core. (command_called order w jerk members core).brings k;
      command_fits = command_fits;
      power_brings = λ core. (off_cycles core).none;
      cycle_brings = λ members core. (cycle_cycles order members core).none;
      reset_brings = reset_none;
    }
