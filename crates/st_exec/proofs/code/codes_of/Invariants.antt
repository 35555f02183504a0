-- The tasks so far have their codes.
use Rattle.std.proofs.Common.{◌≡◌, map, take}
use Rattle.st_exec.specs.Compiled.{program_of, seen}
use Rattle.st_exec.proofs.code.codes_of.Given as goal

abbrev pub invariant-loop-task : goal.invariant-loop-task
invariant-loop-task l = map seen l.codes.items ≡ map program_of (take l.task-index l.tasks)
