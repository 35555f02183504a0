-- Fewer parts are left for what lies inside. The statements and branches so far spell the parts that
-- were gone over.
use Rattle.std.proofs.Common.{◌≡◌, ◌≤◌, ◌++◌, ◌+◌, ◌-◌, ◌*◌, false, List, drop, length}
use Rattle.st_tree.specs.Parts.{body_parts, branches_parts}
use Rattle.st_tree.specs.Places.{Around, Inside, Passes, Selected}
use Rattle.st_build.proofs.statement.+statement.Given as goal

abbrev pub decreases-body_at : goal.decreases-body_at
decreases-body_at l = 8 * (length l.parts.now - l.at.now) + 2

abbrev pub decreases-branch_at : goal.decreases-branch_at
decreases-branch_at l = 8 * (length l.parts.now - l.at.now) + 1

abbrev pub decreases-branches_at : goal.decreases-branches_at
decreases-branches_at l = 8 * (length l.parts.now - l.at.now) + 2

abbrev pub decreases-if_at : goal.decreases-if_at
decreases-if_at l = 8 * (length l.parts.now - l.at.now) + 3

abbrev pub decreases-case_at : goal.decreases-case_at
decreases-case_at l = 8 * (length l.parts.now - l.at.now) + 3

abbrev pub decreases-statement_at : goal.decreases-statement_at
decreases-statement_at l = 8 * (length l.parts.now - l.at.now) + 1

abbrev pub invariant-body_at-loop-alloc : goal.invariant-body_at-loop-alloc
invariant-body_at-loop-alloc l = record {
  spelled : drop l.fn.at l.parts ≡ body_parts l.body.items ++ drop l.at l.parts;
  passes : (around : List Around) → Passes (Inside 0 false around) (Inside 0 false around) (drop l.fn.at l.parts) (drop l.at l.parts);
  onward : l.fn.at ≤ l.at;
}

abbrev pub decreases-body_at-loop-alloc : goal.decreases-body_at-loop-alloc
decreases-body_at-loop-alloc l = length l.parts - l.at

abbrev pub invariant-branches_at-loop-alloc : goal.invariant-branches_at-loop-alloc
invariant-branches_at-loop-alloc l = record {
  spelled : drop l.fn.at l.parts ≡ branches_parts l.found.items ++ drop l.at l.parts;
  passes : (around : List Around) → Passes (Selected around) (Selected around) (drop l.fn.at l.parts) (drop l.at l.parts);
  onward : l.fn.at ≤ l.at;
}

abbrev pub decreases-branches_at-loop-alloc : goal.decreases-branches_at-loop-alloc
decreases-branches_at-loop-alloc l = length l.parts - l.at
