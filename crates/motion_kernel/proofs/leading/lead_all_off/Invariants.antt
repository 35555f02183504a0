use Rattle.std.proofs.Common.{◌≡◌, drop, length, false}
use Rattle.motion_kernel.specs.calls.Calls as spec
use Rattle.motion_kernel.specs.kept.Ready.{RestOnPaths}
use Rattle.motion_kernel.specs.Seen.{machine_of}
use Rattle.motion_kernel.proofs.leading.lead_all_off.Given as goal

abbrev pub invariant-loop-axis : goal.invariant-loop-axis
invariant-loop-axis l = record {
  led : spec.axes_led false (drop l.axis-index l.members) (machine_of l.parts) ≡ spec.axes_led false l.members (machine_of l.fn.parts);
  long : length l.parts.axes.items ≡ length l.fn.parts.axes.items;
  rest : RestOnPaths (machine_of l.parts) l.members;
}
