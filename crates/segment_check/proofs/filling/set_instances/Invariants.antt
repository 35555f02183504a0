-- The instances so far are set.
use Rattle.std.proofs.Common.{◌≡◌, length, take}
use Rattle.segment_check.proofs.filling.set_instances.Given as goal

abbrev pub invariant-loop-i : goal.invariant-loop-i
invariant-loop-i l = record {
  rest : l.start ≡ record l.fn.start { instances = l.start.instances };
  set : take l.i l.start.instances ≡ take l.i l.instances;
  long : length l.start.instances ≡ length l.fn.start.instances;
}
