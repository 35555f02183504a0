-- What is left has no number twice where the whole has none.
use Rattle.std.proofs.Common.{◌≡◌, drop}
use Rattle.motion_history.specs.Faults.{are_distinct}
use Rattle.motion_history.proofs.groups.are_distinct.Given as goal

abbrev pub invariant-loop-i : goal.invariant-loop-i
invariant-loop-i l = are_distinct l.numbers ≡ are_distinct (drop l.i l.numbers)
