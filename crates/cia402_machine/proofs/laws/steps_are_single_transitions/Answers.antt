-- The lemma on all states.
use Rattle.cia402_machine.proofs.Steps.{step-single}
use Rattle.cia402_machine.proofs.laws.steps_are_single_transitions.Goals as goal

pub returns : goal.returns
returns c = step-single
