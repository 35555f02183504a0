use Rattle.std.proofs.Common.{rules}
use Rattle.kernel_tests.proofs.tests.turns.machine.call.Goals as goal

pub turn_call-requires-clause-call : goal.turn_call-requires-clause-call
turn_call-requires-clause-call g c =
    record { there = search rules; inputs = λ b there. c.enabled.ensures.inputs _ _; master = search rules }
