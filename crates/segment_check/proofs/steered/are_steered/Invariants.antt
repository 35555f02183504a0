-- The drives of the axes so far are led so.
use Rattle.std.proofs.Common.{ℕ, ◌<◌}
use Rattle.motion_kernel.specs.Machine.{axis_at}
use Rattle.motion_laws.specs.Standing.{IsSteered}
use Rattle.segment_check.proofs.steered.are_steered.Given as goal

abbrev pub invariant-loop-axis : goal.invariant-loop-axis
invariant-loop-axis l = (n : ℕ) → n < l.axis → IsSteered (axis_at l.start n)
