-- The terms from the last on have their code.
use Rattle.std.proofs.Common.{◌≡◌, ◌++◌, map, length, drop, ◌≤◌}
use Rattle.st_exec.specs.Code.{all_of, term_code}
use Rattle.st_exec.proofs.emit.+expression.Given as goal

abbrev pub invariant-put_terms-loop-left : goal.invariant-put_terms-loop-left
invariant-put_terms-loop-left l =
    (l.left ≤ length l.terms) ×
    (l.code ≡ all_of (map term_code (drop l.left l.terms)) ++ l.fn.code)

abbrev pub decreases-put_terms-loop-left : goal.decreases-put_terms-loop-left
decreases-put_terms-loop-left l = l.left
