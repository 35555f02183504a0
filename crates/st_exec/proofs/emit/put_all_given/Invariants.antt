-- What the keys give from the last on has its code.
use Rattle.std.proofs.Common.{◌≡◌, ◌++◌, map, length, drop, ◌≤◌}
use Rattle.st_exec.specs.Code.{all_of, given_code}
use Rattle.st_exec.proofs.emit.put_all_given.Given as goal

abbrev pub invariant-loop-left : goal.invariant-loop-left
invariant-loop-left l =
    (l.left ≤ length l.given) ×
    (l.code ≡ all_of (map given_code (drop l.left l.given)) ++ l.fn.code)

abbrev pub decreases-loop-left : goal.decreases-loop-left
decreases-loop-left l = l.left
