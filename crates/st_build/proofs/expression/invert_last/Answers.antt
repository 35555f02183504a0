-- The last operand is changed.
use Rattle.std.proofs.Common.{◌≡◌, ◌++◌, ◌∷◌, []}
use Rattle.st_tree.specs.Parts.{expr_parts, operands_parts}
use Rattle.st_tree.specs.declared.part.Part.TheVariants as part
use Rattle.st_build.proofs.Lists.{last_changed, on_ok_then}
use Rattle.st_build.proofs.expression.invert_last.Goals as goal

pub returns-clause-spelled : goal.returns-clause-spelled
returns-clause-spelled c =
    on_ok_then c.put.result
    (operands_parts c.put.new.operands.items ≡ operands_parts c.pop.new.self.items ++ expr_parts c.in_ok-made.made)
    (operands_parts c.put.new.operands.items ≡ operands_parts c.args.operands.now.items ++ part.Not ∷ [])
    (last_changed c.args.operands.now.items c.pop.new.self.items c.in-Some.operand (expr_parts c.in_ok-made.made) (part.Not ∷ []) _ c.in-Some.ensures.items c.in_ok-made.ensures)
    c.put.ensures.spelled
