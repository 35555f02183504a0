-- The groups so far are set.
use Rattle.std.proofs.Common.{◌≡◌, length, map, take}
use Rattle.motion_kernel.specs.Seen.{placed}
use Rattle.segment_check.proofs.filling.set_groups.Given as goal

abbrev pub invariant-loop-i : goal.invariant-loop-i
invariant-loop-i l = record {
  rest : l.start ≡ record l.fn.start { groups = l.start.groups };
  set : take l.i l.start.groups ≡ take l.i (map placed l.groups);
  long : length l.start.groups ≡ length l.fn.start.groups;
}
