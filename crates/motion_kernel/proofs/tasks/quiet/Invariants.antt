use Rattle.std.proofs.Common.{◌≡◌, ◌++◌, drop, take, map}
use Rattle.motion_kernel.specs.Marked as spec
use Rattle.motion_kernel.proofs.tasks.quiet.Given as goal

abbrev pub invariant-loop-mark : goal.invariant-loop-mark
invariant-loop-mark l = record {
  marks : l.marks ≡ map spec.quieted (take l.mark-index l.fn.marks) ++ drop l.mark-index l.fn.marks;
}
