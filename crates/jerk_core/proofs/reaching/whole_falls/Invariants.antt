-- The guess is lessened until it fits, and then raised as far as it fits.
use Rattle.std.proofs.Common.{◌-◌, ◌≤◌}
use Rattle.jerk_core.specs.Sums.{triangle_of}
use Rattle.jerk_core.proofs.reaching.whole_falls.Given as goal

abbrev pub invariant-loop-falls : goal.invariant-loop-falls
invariant-loop-falls l = record {
  within : l.falls ≤ 150000;
}

abbrev pub decreases-loop-falls : goal.decreases-loop-falls
decreases-loop-falls l = l.falls

abbrev pub invariant-loop-falls-2 : goal.invariant-loop-falls-2
invariant-loop-falls-2 l = record {
  fits : triangle_of l.falls ≤ l.share;
}

abbrev pub decreases-loop-falls-2 : goal.decreases-loop-falls-2
decreases-loop-falls-2 l = l.share - l.falls
