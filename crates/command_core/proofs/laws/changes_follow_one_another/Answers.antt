-- Changes one after another.
use Rattle.command_core.proofs.Order.{at_once, changes_more, later, none_more, notes_more}
use Rattle.command_core.proofs.laws.changes_follow_one_another.Goals as goal

pub returns : goal.returns
returns c = record { more = changes_more; notes = notes_more; none = none_more; at_once = at_once; later = later }
