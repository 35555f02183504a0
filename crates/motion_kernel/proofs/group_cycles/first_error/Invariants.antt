use Rattle.std.proofs.Common.{◌≡◌, drop}
use Rattle.motion_kernel.specs.looks.DriveAnswers as spec
use Rattle.motion_kernel.proofs.group_cycles.first_error.Given as goal

abbrev pub invariant-loop-axis : goal.invariant-loop-axis
invariant-loop-axis l = record {
  rest : spec.first_error l.axes l.ins l.members ≡ spec.first_error l.axes l.ins (drop l.axis-index l.members);
}
