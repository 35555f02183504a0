-- The patterns give the state.
use Rattle.cia402_machine.proofs.Told.{told-is, told-none}
use Rattle.cia402_machine.proofs.statusword.state_of.Goals as goal

pub returns-clause-reads : goal.returns-clause-reads
returns-clause-reads c = λ state. rw c.masked_state.ensures (told-is c.args.statusword state)

pub returns-clause-none : goal.returns-clause-none
returns-clause-none c = rw c.masked_state.ensures (told-none c.args.statusword)
