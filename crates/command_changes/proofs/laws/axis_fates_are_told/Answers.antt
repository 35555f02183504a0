-- The fates of an axis are reported.
use Rattle.command_changes.proofs.Fates.{fated}
use Rattle.command_changes.proofs.axis.Calls.{command_called, detach_fated, path_fated, power_cycles}
use Rattle.command_changes.proofs.axis.Cycles.{cycle_cycles}
use Rattle.command_changes.proofs.laws.axis_fates_are_told.Goals as goal

pub returns : goal.returns
returns c =
    let order = c.changes_follow_one_another.ensures in
    let laws = c.changes_make_fates.ensures in
    record {
      command = λ q x. let made = command_called order q x in fated laws _ _ _ _ made.fated made.makes;
      power = λ enable x. let made = power_cycles enable x in fated laws _ _ _ _ made.fated made.makes;
      cycle = λ look x. let made = cycle_cycles order look x in fated laws _ _ _ _ made.fated made.makes;
      detach = detach_fated c.owners_are_taken_away.ensures;
      path = path_fated;
    }
