-- It is open after the command, or the same as before.
use Rattle.otg.proofs.Opens.{open_either}
use Rattle.otg.proofs.commands.otg_halt.Goals as goal

pub returns-clause-opened : goal.returns-clause-opened
returns-clause-opened c = open_either c.set.result c.args.otg.now c.set.new.otg c.set.ensures.opened c.set.ensures.same
