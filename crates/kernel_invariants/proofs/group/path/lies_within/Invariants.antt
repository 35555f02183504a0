-- The axes so far start and end within their limits.
use Rattle.std.proofs.Common.{ℕ, ◌<◌}
use Rattle.linear_path.specs.Line.{coordinate_of}
use Rattle.linear_path.specs.Path.{AreWithin, limits_at}
use Rattle.kernel_invariants.proofs.group.path.lies_within.Given as goal

abbrev pub invariant-loop-axis : goal.invariant-loop-axis
invariant-loop-axis l = (axis : ℕ) → axis < l.axis →
    AreWithin (limits_at l.limits axis) (coordinate_of l.line.starts axis)
    (coordinate_of l.line.targets axis)
