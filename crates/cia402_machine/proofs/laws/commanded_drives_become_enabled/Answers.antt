-- The lemma on all states.
use Rattle.cia402_machine.proofs.Commands.{enabled}
use Rattle.cia402_machine.proofs.laws.commanded_drives_become_enabled.Goals as goal

pub returns : goal.returns
returns c = enabled
