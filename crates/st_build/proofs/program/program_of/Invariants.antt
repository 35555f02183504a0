-- The tasks so far spell what was gone over, and the rest is of trees.
use Rattle.std.proofs.Common.{◌≡◌, ◌++◌, ◌-◌, drop, length}
use Rattle.std.specs.List.{flat_map}
use Rattle.st_tree.specs.Parts.{blocks_of, numbers_from, task_names, task_parts}
use Rattle.st_tree.specs.Places.{AreOfTrees}
use Rattle.st_build.proofs.program.program_of.Given as goal

abbrev pub invariant-loop-at : goal.invariant-loop-at
invariant-loop-at l = record {
  parts : l.parts ≡ flat_map task_parts l.tasks.items ++ drop l.at l.parts;
  names : l.names ≡ flat_map task_names l.tasks.items ++ drop l.at_name l.names;
  numbered : flat_map blocks_of l.tasks.items ≡ numbers_from 0 l.blocks;
  counted : length (flat_map blocks_of l.tasks.items) ≡ l.blocks;
  ahead : AreOfTrees l.blocks (drop l.at_name l.names) (drop l.at l.parts);
}

abbrev pub decreases-loop-at : goal.decreases-loop-at
decreases-loop-at l = length l.parts - l.at
