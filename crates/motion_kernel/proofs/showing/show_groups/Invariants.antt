use Rattle.std.proofs.Common.{◌≡◌, length, map}
use Rattle.motion_kernel.specs.cycles.Showing as spec
use Rattle.motion_kernel.specs.Seen.{placed}
use Rattle.motion_kernel.proofs.showing.show_groups.Given as goal

abbrev pub invariant-loop-group : goal.invariant-loop-group
invariant-loop-group l = record {
  told : l.instances ≡ spec.groups_shown l.group-index (map placed l.groups) l.fn.instances;
  long : length l.instances ≡ length l.fn.instances;
}
