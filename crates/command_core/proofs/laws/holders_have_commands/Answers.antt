-- Who holds stopping has a command.
use Rattle.command_core.proofs.Holders.{held}
use Rattle.command_core.proofs.laws.holders_have_commands.Goals as goal

pub returns : goal.returns
returns c = record {
  held = held c.ends_tell_their_owners.ensures.owners c.owners_are_taken_away.ensures;
}
