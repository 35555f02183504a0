-- What statements spell.
-- for: statement
use Rattle.std.proofs.Common.{◌≡◌, ℕ, Vec, [], ◌∷◌, ◌++◌, ap, sym, ◌∙◌, append_assoc}
use Rattle.std.specs.Global.{Global}
use Rattle.st_tree.specs.declared.expression.Expr.{Expr}
use Rattle.st_tree.specs.declared.statement.Branch.{Branch}
use Rattle.st_tree.specs.declared.statement.Stmt.{Stmt}
use Rattle.st_tree.specs.declared.statement.Stmt.TheFolds.{fold-roll-Stmt}
use Rattle.st_tree.specs.declared.statement.Stmt.TheOpen.{Stmt-F}
use Rattle.st_tree.specs.declared.statement.Stmt.TheVariants as stmt
use Rattle.st_tree.specs.declared.statement.Stmt.TheVariants.{rolls-Case, rolls-If, rolls-Set}
use Rattle.st_tree.specs.Parts.{Parts, body_parts, branch_step, branches_parts, expr_parts, stmt_parts, stmt_step}
use Rattle.st_tree.specs.declared.part.Part.TheVariants as part

pub set_spelled : (x : ℕ) (e : Expr) (d0 d1 d2 : Parts) → d0 ≡ expr_parts e ++ d1 → d1 ≡ part.Set x ∷ d2 → d0 ≡ stmt_parts (stmt.Set x e) ++ d2
set_spelled x e d0 d1 d2 is0 is1 =
    is0 ∙ ap (λ l. expr_parts e ++ l) is1 ∙ sym (append_assoc (expr_parts e) (part.Set x ∷ []) d2) ∙
    ap (λ l. l ++ d2) (sym (ap stmt_parts (sym (rolls-Set x e)) ∙ fold-roll-Stmt Parts Parts stmt_step branch_step (Stmt-F.Set x e)))

-- parts around two lists of others
around_two : (first begin a between b end : Parts) (d0 d1 d2 d3 d4 : Parts) → d0 ≡ a ++ d1 → d1 ≡ between ++ d2 → d2 ≡ b ++ d3 → d3 ≡ end ++ d4 →
    first ++ (begin ++ d0) ≡ (first ++ (begin ++ (a ++ (between ++ (b ++ end))))) ++ d4
around_two first begin a between b end d0 d1 d2 d3 d4 is0 is1 is2 is3 =
    let last : d2 ≡ (b ++ end) ++ d4 = is2 ∙ ap (λ l. b ++ l) is3 ∙ sym (append_assoc b end d4) in
    let middle : d1 ≡ (between ++ (b ++ end)) ++ d4 = is1 ∙ ap (λ l. between ++ l) last ∙ sym (append_assoc between (b ++ end) d4) in
    let all : d0 ≡ (a ++ (between ++ (b ++ end))) ++ d4 = is0 ∙ ap (λ l. a ++ l) middle ∙ sym (append_assoc a (between ++ (b ++ end)) d4) in
    ap (λ l. first ++ (begin ++ l)) all ∙
    ap (λ l. first ++ l) (sym (append_assoc begin (a ++ (between ++ (b ++ end))) d4)) ∙
    sym (append_assoc first (begin ++ (a ++ (between ++ (b ++ end)))) d4)

pub if_spelled : (e : Expr) (then otherwise : Vec Stmt Global) (d0 d1 d2 d3 d4 : Parts) → d0 ≡ body_parts then.items ++ d1 → d1 ≡ part.Else ∷ d2 →
    d2 ≡ body_parts otherwise.items ++ d3 → d3 ≡ part.EndIf ∷ d4 → expr_parts e ++ (part.If ∷ d0) ≡ stmt_parts (stmt.If e then otherwise) ++ d4
if_spelled e then otherwise d0 d1 d2 d3 d4 is0 is1 is2 is3 =
    around_two (expr_parts e) (part.If ∷ []) (body_parts then.items) (part.Else ∷ []) (body_parts otherwise.items) (part.EndIf ∷ []) d0 d1 d2 d3 d4 is0 is1 is2 is3 ∙
    ap (λ l. l ++ d4) (sym (ap stmt_parts (sym (rolls-If e then otherwise)) ∙ fold-roll-Stmt Parts Parts stmt_step branch_step (Stmt-F.If e then otherwise)))

pub case_spelled : (e : Expr) (branches : Vec Branch Global) (otherwise : Vec Stmt Global) (d0 d1 d2 d3 d4 : Parts) → d0 ≡ branches_parts branches.items ++ d1 → d1 ≡ part.Else ∷ d2 →
    d2 ≡ body_parts otherwise.items ++ d3 → d3 ≡ part.EndCase ∷ d4 → expr_parts e ++ (part.Case ∷ d0) ≡ stmt_parts (stmt.Case e branches otherwise) ++ d4
case_spelled e branches otherwise d0 d1 d2 d3 d4 is0 is1 is2 is3 =
    around_two (expr_parts e) (part.Case ∷ []) (branches_parts branches.items) (part.Else ∷ []) (body_parts otherwise.items) (part.EndCase ∷ []) d0 d1 d2 d3 d4 is0 is1 is2 is3 ∙
    ap (λ l. l ++ d4) (sym (ap stmt_parts (sym (rolls-Case e branches otherwise)) ∙ fold-roll-Stmt Parts Parts stmt_step branch_step (Stmt-F.Case e branches otherwise)))
