-- The axes so far are kept.
use Rattle.std.proofs.Common.{ℕ, ◌<◌}
use Rattle.motion_kernel.specs.kept.Machine.{IsAxisKept}
use Rattle.kernel_invariants.proofs.machine.are_axes_kept.Given as goal

abbrev pub invariant-loop-axis : goal.invariant-loop-axis
invariant-loop-axis l = (n : ℕ) → n < l.axis → IsAxisKept l.config l.start n
