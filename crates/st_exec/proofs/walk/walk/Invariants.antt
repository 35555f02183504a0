-- The run has advanced so far, and may go on.
use Rattle.std.proofs.Common.{◌-◌, length}
use Rattle.st_exec.specs.Standing.{Advances, MayRun}
use Rattle.st_exec.proofs.walk.walk.Given as goal

abbrev pub invariant-loop-place : goal.invariant-loop-place
invariant-loop-place l =
    (MayRun l.cycle_us l.code l.place l.machine) ×
    (Advances l.cycle_us l.code l.fn.place l.fn.machine l.place l.machine)

abbrev pub decreases-loop-place : goal.decreases-loop-place
decreases-loop-place l = length l.code - l.place
