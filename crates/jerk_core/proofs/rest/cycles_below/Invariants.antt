-- So many cycles are a ramp, and fewer than the most.
use Rattle.std.proofs.Common.{◌≡◌, ℕ, suc, ◌-◌, ◌<◌}
use Rattle.jerk_core.specs.Sums.{IsRamp}
use Rattle.jerk_core.proofs.rest.cycles_below.Given as goal

abbrev pub invariant-loop-cycles : goal.invariant-loop-cycles
invariant-loop-cycles l = record {
  goes : (n : ℕ) → l.cycles ≡ suc n → IsRamp l.d l.j l.last l.speed n;
  below : l.cycles < l.most;
}

abbrev pub decreases-loop-cycles : goal.decreases-loop-cycles
decreases-loop-cycles l = l.most - l.cycles
