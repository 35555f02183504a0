-- The lemmas on fault resets.
use Rattle.cia402_machine.proofs.Commands.{leaves-fault, drops-reset, leaves-after}
use Rattle.cia402_machine.proofs.laws.fault_resets_leave_fault.Goals as goal

pub returns-clause-at_once : goal.returns-clause-at_once
returns-clause-at_once c = leaves-fault

pub returns-clause-dropped : goal.returns-clause-dropped
returns-clause-dropped c = drops-reset

pub returns-clause-after_two : goal.returns-clause-after_two
returns-clause-after_two c = leaves-after
