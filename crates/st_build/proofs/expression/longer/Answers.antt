-- A chain with a term more has its parts after.
use Rattle.std.proofs.Common.{ap, sym, ◌∙◌}
use Rattle.st_tree.specs.declared.expression.Expr.TheFolds.{fold-roll-Expr}
use Rattle.st_tree.specs.declared.expression.Expr.TheOpen.{Expr-F}
use Rattle.st_tree.specs.declared.expression.Expr.TheVariants.{rolls-Chain}
use Rattle.st_tree.specs.Parts.{Parts, expr_parts, expr_step, term_parts, term_step}
use Rattle.st_build.proofs.Lists.{pushed}
use Rattle.st_build.proofs.expression.longer.Goals as goal

pub returns-clause-spelled : goal.returns-clause-spelled
returns-clause-spelled c =
    ap expr_parts (sym (rolls-Chain c.args.first c.push.new.list)) ∙
    fold-roll-Expr Parts Parts expr_step term_step (Expr-F.Chain c.args.first c.push.new.list) ∙
    pushed term_parts (expr_parts c.args.first.value) c.args.terms.items c.push.new.list.items c.args.term c.in_ok-push.ensures
