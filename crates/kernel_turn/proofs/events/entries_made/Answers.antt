use Rattle.kernel_turn.proofs.Rooms.{within_room}
use Rattle.kernel_turn.proofs.events.entries_made.Goals as goal

pub returns-clause-fits : goal.returns-clause-fits
returns-clause-fits c = within_room c.args.kernel.now.stopped _ _ c.history.ensures.legal.entries
