-- Changes make fates, and give them.
use Rattle.command_core.proofs.Ends.{ends_by_fate}
use Rattle.command_core.proofs.Fates.{fates, goes_on_same, tells}
use Rattle.command_core.proofs.laws.changes_make_fates.Goals as goal

pub returns : goal.returns
returns c =
    let laws = c.fates_are_of_the_active_command.ensures in
    let tellings = c.ends_tell_their_owners.ensures.tellings in
    record {
      fates = fates laws tellings;
      goes_on = goes_on_same;
      told = tells laws tellings;
      end = ends_by_fate c.ends_tell_their_owners.ensures.owners c.owners_are_taken_away.ensures laws tellings;
    }
