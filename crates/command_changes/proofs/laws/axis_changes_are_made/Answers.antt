-- The changes of an axis are made.
use Rattle.command_changes.proofs.axis.Calls.{command_called, command_fits, detach_makes, path_makes, power_call, power_cycles}
use Rattle.command_changes.proofs.axis.Cycles.{cycle_cycles}
use Rattle.command_changes.proofs.laws.axis_changes_are_made.Goals as goal

pub returns : goal.returns
returns c =
    let order = c.changes_follow_one_another.ensures in
    record {
      command = λ q core. (command_called order q core).makes;
      power = λ enable core. (power_cycles enable core).makes;
      cycle = λ look core. (cycle_cycles order look core).makes;
      detach = detach_makes;
      path = path_makes;
      command_call = λ q core. (command_called order q core).call;
      power_call = power_call;
      command_brings = λ k q core. (command_called order q core).brings k;
      command_fits = command_fits;
      power_brings = λ enable core. (power_cycles enable core).none;
      cycle_brings = λ look core. (cycle_cycles order look core).none;
    }
