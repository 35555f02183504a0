-- The variables so far spell what was gone over, and what is left is of declarations.
use Rattle.std.proofs.Common.{◌≡◌, ◌≤◌, ◌++◌, ◌-◌, drop, length}
use Rattle.st_build.specs.Ahead.{AreDeclared}
use Rattle.st_tree.specs.Parts.{declared_parts, variable_names}
use Rattle.st_tree.specs.Places.{blocks_in}
use Rattle.st_build.proofs.program.variables_at.Given as goal

abbrev pub invariant-loop-start : goal.invariant-loop-start
invariant-loop-start l = record {
  parts : drop l.fn.at l.parts ≡ declared_parts l.variables.items ++ drop l.at l.parts;
  names : drop l.fn.at_name l.names ≡ variable_names l.variables.items ++ drop l.at_name l.names;
  ahead : AreDeclared (drop l.at_name l.names) (drop l.at l.parts);
  blocks : blocks_in (drop l.fn.at l.parts) ≡ blocks_in (drop l.at l.parts);
  onward : l.fn.at ≤ l.at;
}

abbrev pub decreases-loop-start : goal.decreases-loop-start
decreases-loop-start l = length l.parts - l.at
