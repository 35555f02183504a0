-- The longest way of the axes so far.
use Rattle.std.proofs.Common.{◌≡◌, ◌≤◌}
use Rattle.linear_path.specs.Line.{longest_way_of}
use Rattle.linear_path.proofs.line.LinePath.longest_way.Given as goal

abbrev pub invariant-loop-axis : goal.invariant-loop-axis
invariant-loop-axis l = record {
  longest : l.longest ≡ longest_way_of l.axis l.self.starts l.self.targets;
  small : l.longest ≤ 2000000000000000;
}
