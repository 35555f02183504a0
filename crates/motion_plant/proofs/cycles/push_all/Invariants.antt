-- An output more went into each line so far.
use Rattle.std.proofs.Common.{◌≡◌, ◌++◌, length, take, drop}
use Rattle.motion_plant.specs.Lines.{with_output}
use Rattle.motion_plant.specs.Places.{zip_with}
use Rattle.motion_plant.proofs.cycles.push_all.Given as goal

abbrev pub invariant-loop-i : goal.invariant-loop-i
invariant-loop-i g l = record {
  lines : l.lines.items ≡ zip_with with_output (take l.i l.fn.lines.items) (take l.i l.outs) ++
      drop l.i l.fn.lines.items;
  same : length l.lines.items ≡ length l.fn.lines.items;
}
