-- Whether a target of the axes so far is outside.
use Rattle.std.proofs.Common.{◌≡◌}
use Rattle.group_core.specs.Refusals.{any_outside}
use Rattle.group_core.proofs.refusing.any_outside.Given as goal

abbrev pub invariant-loop-axis : goal.invariant-loop-axis
invariant-loop-axis l = l.outside ≡ any_outside l.axis l.limits l.fn.targets
