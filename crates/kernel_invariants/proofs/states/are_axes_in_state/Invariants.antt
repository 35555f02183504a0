-- The axes so far are as their states say.
use Rattle.std.proofs.Common.{ℕ, ◌<◌}
use Rattle.kernel_invariants.specs.States.{AxisIsInState}
use Rattle.motion_kernel.specs.Machine.{axis_at}
use Rattle.kernel_invariants.proofs.states.are_axes_in_state.Given as goal

abbrev pub invariant-loop-axis : goal.invariant-loop-axis
invariant-loop-axis l = (n : ℕ) → n < l.axis → AxisIsInState (axis_at l.start n)
