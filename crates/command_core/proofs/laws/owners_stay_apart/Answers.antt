-- Owners stay apart.
use Rattle.command_core.proofs.Apart.{apart, apart_without}
use Rattle.command_core.proofs.laws.owners_stay_apart.Goals as goal

pub returns : goal.returns
returns c =
    let owners = c.ends_tell_their_owners.ensures.owners in
    let taken = c.owners_are_taken_away.ensures in
    record { changes = apart owners taken; detach = apart_without owners taken }
