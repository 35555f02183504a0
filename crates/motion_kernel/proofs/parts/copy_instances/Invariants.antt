use Rattle.std.proofs.Common.{◌≡◌, length, take}
use Rattle.motion_kernel.proofs.parts.copy_instances.Given as goal

abbrev pub invariant-loop-i : goal.invariant-loop-i
invariant-loop-i l = record {
  copied : take l.i l.instances ≡ take l.i l.others;
  long : length l.instances ≡ length l.fn.instances;
}
