-- No more than the guess.
use Rattle.std.proofs.Common.{◌≤◌}
use Rattle.jerk_core.proofs.rest.some_cycles.Given as goal

abbrev pub invariant-loop-cycles : goal.invariant-loop-cycles
invariant-loop-cycles l = record {
  within : l.cycles ≤ l.guess;
}

abbrev pub decreases-loop-cycles : goal.decreases-loop-cycles
decreases-loop-cycles l = l.cycles
