-- The longest way of one more axis.
use Rattle.std.proofs.Common.{arith}
use Rattle.linear_path.proofs.LineLaws.{longest_first, longest_more}
use Rattle.linear_path.proofs.line.LinePath.longest_way.Goals as goal

pub loop-axis-init : goal.loop-axis-init
loop-axis-init c =
    record {
      longest = longest_first c.args.self.now.starts c.args.self.now.targets;
      small = omega arith;
    }

pub loop-axis-preserved : goal.loop-axis-preserved
loop-axis-preserved c = record {
  longest = longest_more c.loop-axis.axis c.loop-axis.longest c.way.result c.max-longest.result
      c.args.self.now.starts c.args.self.now.targets c.loop-axis.invariant.longest
      c.way.ensures.value c.max-longest.ensures;
  small = omega arith;
}
