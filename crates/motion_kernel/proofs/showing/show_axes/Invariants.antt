use Rattle.std.proofs.Common.{◌≡◌, length}
use Rattle.motion_kernel.specs.cycles.Showing as spec
use Rattle.motion_kernel.proofs.showing.show_axes.Given as goal

abbrev pub invariant-loop-axis : goal.invariant-loop-axis
invariant-loop-axis l = record {
  told : l.instances ≡ spec.axes_shown l.axis-index l.axes l.fn.instances;
  long : length l.instances ≡ length l.fn.instances;
}
