-- The statements and the branches from the last on have their code.
use Rattle.std.proofs.Common.{◌≡◌, ◌++◌, map, length, drop, ◌≤◌}
use Rattle.st_exec.specs.Code.{all_of, branch_code, stmt_code}
use Rattle.st_exec.specs.Jumps.{branches_over}
use Rattle.st_exec.proofs.emit.+statement.Given as goal

abbrev pub invariant-put_body-loop-left : goal.invariant-put_body-loop-left
invariant-put_body-loop-left l =
    (l.left ≤ length l.body) ×
    (l.code ≡ all_of (map stmt_code (drop l.left l.body)) ++ l.fn.code)

abbrev pub decreases-put_body-loop-left : goal.decreases-put_body-loop-left
decreases-put_body-loop-left l = l.left

abbrev pub invariant-put_branches-loop-next : goal.invariant-put_branches-loop-next
invariant-put_branches-loop-next l =
    (l.next ≤ length l.branches) ×
    (l.left ≤ length l.code) ×
    (l.code ≡ branches_over (map branch_code (drop l.next l.branches)) l.left l.fn.code)

abbrev pub decreases-put_branches-loop-next : goal.decreases-put_branches-loop-next
decreases-put_branches-loop-next l = l.next
