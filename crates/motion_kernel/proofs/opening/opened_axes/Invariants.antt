use Rattle.std.proofs.Common.{◌≡◌, map, take}
use Rattle.axis_core.specs.Cycles.{axis_at_opening}
use Rattle.motion_kernel.proofs.opening.opened_axes.Given as goal

abbrev pub invariant-loop-def : goal.invariant-loop-def
invariant-loop-def l = record {
  opened : l.axes.items ≡ map axis_at_opening (take l.def-index l.defs);
}
