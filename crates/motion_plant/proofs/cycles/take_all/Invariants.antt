-- An answer more was taken from each line so far.
use Rattle.std.proofs.Common.{◌≡◌, ◌++◌, length, take, drop}
use Rattle.motion_plant.specs.Lines.{with_answer}
use Rattle.motion_plant.specs.Places.{zip_with}
use Rattle.motion_plant.proofs.cycles.take_all.Given as goal

abbrev pub invariant-loop-i : goal.invariant-loop-i
invariant-loop-i g l = record {
  lines : l.lines.items ≡ zip_with with_answer (take l.i l.fn.lines.items) (take l.i l.ins) ++
      drop l.i l.fn.lines.items;
  same : length l.lines.items ≡ length l.fn.lines.items;
  width : length l.ins ≡ length l.fn.ins;
}
