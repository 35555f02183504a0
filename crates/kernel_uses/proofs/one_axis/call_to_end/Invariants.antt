-- It goes on from cycle to cycle.
use Rattle.kernel_uses.specs.Uses.{GoesOn}
use Rattle.kernel_uses.proofs.one_axis.call_to_end.Given as goal

abbrev pub invariant-loop : goal.invariant-loop
invariant-loop l = GoesOn l.initial.kernel l.kernel
