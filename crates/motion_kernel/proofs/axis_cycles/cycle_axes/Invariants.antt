use Rattle.std.proofs.Common.{◌≡◌, [], length, map, take}
use Rattle.plc_types.specs.declared.axis.AxisRow.{AxisRow}
use Rattle.motion_kernel.specs.looks.Around.{around_of}
use Rattle.motion_kernel.specs.cycles.AxisCycles as spec
use Rattle.motion_kernel.specs.kept.Machine.{IsSized}
use Rattle.motion_kernel.specs.Seen.{machine_of}
use Rattle.motion_kernel.proofs.axis_cycles.cycle_axes.Given as goal

abbrev pub invariant-loop-axis : goal.invariant-loop-axis
invariant-loop-axis l = record {
  machine : machine_of l.parts ≡ (spec.axes_cycled l.layout l.axis (around_of l.around) (machine_of l.fn.parts)).machine;
  rows : l.history ≡ record l.fn.history { rows = (spec.axes_cycled l.layout l.axis (around_of l.around) (machine_of l.fn.parts)).rows };
  outs : take l.axis l.outs ≡ map (λ (r : AxisRow). r.output) (spec.axes_cycled l.layout l.axis (around_of l.around) (machine_of l.fn.parts)).rows;
  long : length l.outs ≡ length l.fn.outs;
  sized : IsSized l.layout (machine_of l.parts);
  none : l.notes ≡ [];
}
