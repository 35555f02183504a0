-- What the keys so far give spells the parts that were gone over.
use Rattle.std.proofs.Common.{◌≡◌, ◌≤◌, ◌++◌, ◌-◌, true, List, drop, length, map}
use Rattle.st_tree.specs.Parts.{all_of, given_parts}
use Rattle.st_tree.specs.Places.{Around, Inside, Passes}
use Rattle.st_build.proofs.statement.all_given_at.Given as goal

abbrev pub invariant-loop-alloc : goal.invariant-loop-alloc
invariant-loop-alloc l = record {
  spelled : drop l.fn.at l.parts ≡ all_of (map given_parts l.given.items) ++ drop l.at l.parts;
  passes : (around : List Around) → Passes (Inside 0 true around) (Inside 0 true around) (drop l.fn.at l.parts) (drop l.at l.parts);
  onward : l.fn.at ≤ l.at;
}

abbrev pub decreases-loop-alloc : goal.decreases-loop-alloc
decreases-loop-alloc l = length l.parts - l.at
