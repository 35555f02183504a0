-- At most eight commands wait.
use Rattle.command_core.proofs.Waiting.{before, eight}
use Rattle.command_core.proofs.laws.at_most_eight_wait.Goals as goal

pub returns : goal.returns
returns c = record { eight = eight; before = before }
