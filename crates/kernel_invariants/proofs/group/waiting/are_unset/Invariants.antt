-- The targets from the axes on are 0 so far.
use Rattle.std.proofs.Common.{◌≡◌, ℕ, ◌<◌, ◌≤◌, pos}
use Rattle.linear_path.specs.Line.{coordinate_of}
use Rattle.kernel_invariants.proofs.group.waiting.are_unset.Given as goal

abbrev pub invariant-loop-axis : goal.invariant-loop-axis
invariant-loop-axis l = (axis : ℕ) → l.axes ≤ axis → axis < l.axis →
    coordinate_of l.targets axis ≡ pos 0
