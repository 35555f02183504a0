-- The fates of a group are reported.
use Rattle.group_core.proofs.Ends.{reset-active-same}
use Rattle.command_changes.proofs.Fates.{fated}
use Rattle.command_changes.proofs.group.Calls.{command_called, detach_fated, off_cycles}
use Rattle.command_changes.proofs.group.Cycles.{cycle_cycles}
use Rattle.command_changes.proofs.laws.group_fates_are_told.Goals as goal

pub returns : goal.returns
returns c =
    let order = c.changes_follow_one_another.ensures in
    let laws = c.changes_make_fates.ensures in
    record {
      command = λ w jerk members x. let made = command_called order w jerk members x in fated laws _ _ _ _ made.fated made.makes;
      power_off = λ x. let made = off_cycles x in fated laws _ _ _ _ made.fated made.makes;
      cycle = λ members x. let made = cycle_cycles order members x in fated laws _ _ _ _ made.fated made.makes;
      detach = detach_fated c.owners_are_taken_away.ensures;
      reset = reset-active-same;
    }
