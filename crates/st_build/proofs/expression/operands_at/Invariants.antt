-- The operands so far spell the parts that were gone over, and wait.
use Rattle.std.proofs.Common.{◌≡◌, ◌≤◌, ◌<◌, ◌++◌, ◌-◌, Bool, List, drop, length}
use Rattle.st_tree.specs.Parts.{operands_parts}
use Rattle.st_tree.specs.Places.{Around, Inside, Passes}
use Rattle.st_build.proofs.expression.operands_at.Given as goal

abbrev pub invariant-loop-alloc : goal.invariant-loop-alloc
invariant-loop-alloc l = record {
  spelled : drop l.fn.at l.parts ≡ operands_parts l.operands.items ++ drop l.at l.parts;
  passes : (keys : Bool) (around : List Around) → Passes (Inside 0 keys around) (Inside (length l.operands.items) keys around) (drop l.fn.at l.parts) (drop l.at l.parts);
  onward : l.fn.at ≤ l.at;
  some : l.fn.at < l.at → 1 ≤ length l.operands.items;
}

abbrev pub decreases-loop-alloc : goal.decreases-loop-alloc
decreases-loop-alloc l = length l.parts - l.at
