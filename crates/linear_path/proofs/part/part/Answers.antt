-- The axis with the longest way stands where the path does.
use Rattle.std.proofs.Common.{arith, sym}
use Rattle.linear_path.proofs.PartLaws.{bends_same}
use Rattle.linear_path.proofs.part.part.Goals as goal

pub returns-then-way-length-clause-value : goal.returns-then-way-length-clause-value
returns-then-way-length-clause-value c =
    sym (bends_same c.args.way c.args.length c.args.s (omega arith) (omega arith))
