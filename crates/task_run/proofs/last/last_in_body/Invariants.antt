-- The last call so far comes before those of the lines that are left.
use Rattle.std.proofs.Common.{◌≡◌, drop}
use Rattle.task_run.specs.Runs.{until_again}
use Rattle.task_run.specs.Tasks.{last_call, later_of}
use Rattle.task_run.proofs.last.last_in_body.Given as goal

abbrev pub invariant-loop-line : goal.invariant-loop-line
invariant-loop-line l = later_of l.found (last_call l.block (until_again (drop l.line-index l.lines))) ≡ last_call l.block (until_again l.lines)
