-- The greatest rates that the axes so far allow.
use Rattle.linear_path.specs.Rates.{AreGreatestRates}
use Rattle.linear_path.proofs.limits.path_rates.Given as goal

abbrev pub invariant-loop-axis : goal.invariant-loop-axis
invariant-loop-axis l =
    AreGreatestRates l.line.starts l.line.targets l.length l.limits l.axis l.velocity l.acceleration
    l.deceleration
