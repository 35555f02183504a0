-- The place stands at the same point.
use Rattle.std.proofs.Common.{◌-◌, length}
use Rattle.task_run.specs.Standing.{Moves}
use Rattle.task_run.proofs.place.settled.Given as goal

abbrev pub invariant-loop-line : goal.invariant-loop-line
invariant-loop-line l = Moves l.lines l.fn.place l.place

abbrev pub decreases-loop-line : goal.decreases-loop-line
decreases-loop-line l = length l.lines - l.place.line
