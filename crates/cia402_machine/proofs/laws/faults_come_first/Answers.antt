-- The lemmas on faults.
use Rattle.cia402_machine.proofs.Steps.{fault-reaction, reaction-ends, fault-ignored}
use Rattle.cia402_machine.proofs.laws.faults_come_first.Goals as goal

pub returns-clause-reaction : goal.returns-clause-reaction
returns-clause-reaction c = fault-reaction

pub returns-clause-ended : goal.returns-clause-ended
returns-clause-ended c = reaction-ends

pub returns-clause-ignored : goal.returns-clause-ignored
returns-clause-ignored c = fault-ignored
