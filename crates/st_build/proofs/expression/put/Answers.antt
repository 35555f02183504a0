-- One operand more has its parts after.
use Rattle.std.proofs.Common.{◌≡◌, ◌++◌, ◌∷◌, []}
use Rattle.st_tree.specs.Parts.{expr_parts, operands_parts}
use Rattle.st_build.proofs.Lists.{on_ok_then, with_operand}
use Rattle.st_build.proofs.expression.put.Goals as goal

pub returns-clause-spelled : goal.returns-clause-spelled
returns-clause-spelled c =
    on_ok_then c.push.result
    (c.push.new.list.items ≡ c.args.operands.now.items ++ c.args.operand ∷ [])
    (operands_parts c.push.new.list.items ≡ operands_parts c.args.operands.now.items ++ expr_parts c.args.operand)
    (λ is. with_operand c.args.operands.now.items c.push.new.list.items c.args.operand is)
    c.push.ensures
