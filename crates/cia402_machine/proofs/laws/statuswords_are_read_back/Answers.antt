-- The lemma on all states.
use Rattle.cia402_machine.proofs.Commands.{read-back}
use Rattle.cia402_machine.proofs.laws.statuswords_are_read_back.Goals as goal

pub returns : goal.returns
returns c = read-back
