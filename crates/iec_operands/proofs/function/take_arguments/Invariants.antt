-- The types so far, and those that wait, are those of all arguments.
use Rattle.std.proofs.Common.{◌≡◌, ◌++◌, length}
use Rattle.iec_operands.specs.Expressions.{arguments_of, before_arguments}
use Rattle.iec_operands.proofs.function.take_arguments.Given as goal

abbrev pub invariant-loop-operand : goal.invariant-loop-operand
invariant-loop-operand l = record {
  types : l.types.items ++ arguments_of l.held ≡ l.fn.types.items ++ arguments_of l.fn.held;
  before : before_arguments l.held ≡ before_arguments l.fn.held;
}

abbrev pub decreases-loop-operand : goal.decreases-loop-operand
decreases-loop-operand l = length l.held
