-- The lines so far are reported of their end.
use Rattle.std.proofs.Common.{◌≡◌, ◌++◌, map, take, drop}
use Rattle.motion_plant.specs.Lines.{ended_line}
use Rattle.motion_plant.proofs.finish.end_all.Given as goal

abbrev pub invariant-loop-i : goal.invariant-loop-i
invariant-loop-i l = l.lines.items ≡ map ended_line (take l.i l.initial.lines.items) ++
    drop l.i l.initial.lines.items
