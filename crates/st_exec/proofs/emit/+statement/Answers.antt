-- A CASE is put from its ELSE part on.
use Rattle.std.proofs.Common.{◌≡◌, ◌++◌, map, ap, sym, ◌∙◌}
use Rattle.st_exec.specs.Code.{all_of, branch_code, expr_code, stmt_code}
use Rattle.st_exec.specs.Jumps.{branches_over}
use Rattle.st_exec.proofs.Emitting.{case_code, case_put, on_ok_then}
use Rattle.st_exec.proofs.emit.+statement.Goals as goal

pub put_stmt-returns-in_ok-put_branches-in-Case : goal.put_stmt-returns-in_ok-put_branches-in-Case
put_stmt-returns-in_ok-put_branches-in-Case t c =
    let is_else : c.put_body-in-Case.new.code ≡
    all_of (map stmt_code c.in-Case.otherwise.items) ++ c.args.code.now =
    c.in_ok-put_body-in-Case.ensures ∙
    ap (λ l. all_of (map stmt_code l) ++ c.args.code.now) c.as_slice-in-Case.ensures.value in
    let is_branched : c.put_branches.new.code ≡
    branches_over (map branch_code c.in-Case.branches.items) c.len-left-in-Case.result
    c.put_use-in-Case.new.self =
    c.in_ok-put_branches-in-Case.ensures ∙
    ap (λ l. branches_over (map branch_code l) c.len-left-in-Case.result c.put_use-in-Case.new.self)
    c.as_slice-in-Case-2.ensures.value in
    on_ok_then c.put_expr-in-Case.result
    (c.put_expr-in-Case.new.code ≡ expr_code c.in-Case.selector ++ c.put_branches.new.code)
    (c.put_expr-in-Case.new.code ≡ stmt_code c.args.statement.now ++ c.args.code.now) (λ all.
    case_put (expr_code c.in-Case.selector) (all_of (map stmt_code c.in-Case.otherwise.items))
    (map branch_code c.in-Case.branches.items) c.args.code.now _ _ _ _ _
    c.len-left-in-Case.ensures is_else c.in_ok-put_use-in-Case.ensures is_branched all ∙
    ap (λ l. l ++ c.args.code.now) (sym (case_code c.args.statement.now c.in-Case.selector
    c.in-Case.branches c.in-Case.otherwise c.in-Case.is)))
    c.put_expr-in-Case.ensures
