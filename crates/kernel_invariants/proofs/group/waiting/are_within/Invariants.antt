-- The targets so far lie within the limits of their axes.
use Rattle.std.proofs.Common.{ℕ, ◌<◌}
use Rattle.group_core.specs.GroupKept.{IsWithin}
use Rattle.linear_path.specs.Line.{coordinate_of}
use Rattle.linear_path.specs.Path.{limits_at}
use Rattle.kernel_invariants.proofs.group.waiting.are_within.Given as goal

abbrev pub invariant-loop-axis : goal.invariant-loop-axis
invariant-loop-axis l = (axis : ℕ) → axis < l.axis →
    IsWithin (limits_at l.limits axis) (coordinate_of l.targets axis)
