-- The axes so far are set.
use Rattle.std.proofs.Common.{◌≡◌, length, take}
use Rattle.segment_check.proofs.filling.set_axes.Given as goal

abbrev pub invariant-loop-i : goal.invariant-loop-i
invariant-loop-i l = record {
  rest : l.start ≡ record l.fn.start { axes = l.start.axes };
  set : take l.i l.start.axes ≡ take l.i l.axes;
  long : length l.start.axes ≡ length l.fn.start.axes;
}
