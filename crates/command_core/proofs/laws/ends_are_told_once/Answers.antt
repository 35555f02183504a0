-- Each end is reported once.
use Rattle.command_core.proofs.Owners.{left, none_brought, once, taken_away, untold}
use Rattle.command_core.proofs.laws.ends_are_told_once.Goals as goal

pub returns : goal.returns
returns c =
    let owners = c.ends_tell_their_owners.ensures.owners in
    let taken = c.owners_are_taken_away.ensures in
    record {
      once = once owners taken;
      untold = untold owners taken;
      none = none_brought owners taken;
      taken_away = taken_away owners taken;
      left = left owners taken;
    }
