-- Commands come from calls.
use Rattle.command_core.proofs.Counts.{active, active_left, waits}
use Rattle.command_core.proofs.laws.commands_come_from_calls.Goals as goal

pub returns : goal.returns
returns c =
    let owners = c.ends_tell_their_owners.ensures.owners in
    let taken = c.owners_are_taken_away.ensures in
    record { waiting = waits owners taken; active = active owners taken; left = active_left owners taken }
