-- The last two operands are joined.
use Rattle.std.proofs.Common.{◌≡◌, ◌++◌, ◌∷◌, []}
use Rattle.st_tree.specs.Parts.{expr_parts, operands_parts, term_parts}
use Rattle.st_tree.specs.declared.part.Part.TheVariants as part
use Rattle.st_build.proofs.Lists.{last_joined, on_ok_then}
use Rattle.st_build.proofs.expression.join_last.Goals as goal

pub returns-clause-spelled : goal.returns-clause-spelled
returns-clause-spelled c =
    on_ok_then c.put.result
    (operands_parts c.put.new.operands.items ≡ operands_parts c.pop-2.new.self.items ++ expr_parts c.in_ok-made.made)
    (operands_parts c.put.new.operands.items ≡ operands_parts c.args.operands.now.items ++ part.Join c.args.operator ∷ [])
    (last_joined c.args.operands.now.items c.pop.new.self.items c.pop-2.new.self.items c.in-Some-pop.first c.in-Some.second
    (expr_parts c.in_ok-made.made) (term_parts c.term.result) (part.Join c.args.operator ∷ []) _
    c.in-Some.ensures.items c.in-Some-pop.ensures.items c.term.ensures c.in_ok-made.ensures.spelled)
    c.put.ensures.spelled
