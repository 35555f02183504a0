-- No operand is missing in what a tree is compiled to.
-- for: compile
use Rattle.std.proofs.Common.{ℕ, List, [], ◌∷◌, map, sym, subst}
use Rattle.std.specs.List.{AllByRecursion}
use Rattle.st_tree.specs.declared.program.Task.{Task}
use Rattle.st_exec.specs.Compiled.{HasOperands, course_of, program_of}
use Rattle.st_exec.specs.Scan.{HasAll}
use Rattle.st_exec.proofs.Bodies.{body_runs}
use Rattle.st_exec.proofs.Wholes.{scan_whole}

-- the code of a task has its operands
task_has : (us : ℕ) (t : Task) → HasOperands us (program_of t)
unfolding program_of course_of
task_has us t = record {
  all = λ vars last replies.
      subst HasAll (sym (body_runs us t.body.items vars last replies))
      (scan_whole us t.body.items vars last replies);
}

-- the codes of tasks have
pub tasks_have : (us : ℕ) (ts : List Task) → AllByRecursion (HasOperands us) (map program_of ts)
tasks_have us [] = tt
tasks_have us (t ∷ ts) = (task_has us t, tasks_have us ts)
