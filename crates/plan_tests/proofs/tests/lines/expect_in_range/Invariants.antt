-- The coordinates so far are in range.
use Rattle.std.proofs.Common.{ℕ, ◌<◌, ◌≤◌, unsigned_abs}
use Rattle.linear_path.specs.Line.{coordinate_of}
use Rattle.plan_tests.proofs.tests.lines.expect_in_range.Given as goal

abbrev pub invariant-loop-coordinate : goal.invariant-loop-coordinate
invariant-loop-coordinate g l =
    (axis : ℕ) → axis < l.coordinate-index →
    unsigned_abs (coordinate_of l.coordinates axis) ≤ 1000000000000000
