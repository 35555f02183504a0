-- Code that jumps to where some instructions are left is the code that passes those before them.
-- for: statement
use Rattle.std.proofs.Common.{◌≡◌, ℕ, ◌+◌, ◌-◌, ℤ, Result, Ok, Err, OnOk, Vec, Global, List, [], ◌∷◌, ◌++◌, length, map, ap, sym, refl, ◌∙◌, append_assoc, arith}
use Rattle.std.proofs.lemmas.Grind.{common_steps}
use Rattle.st_tree.specs.declared.expression.Expr.{Expr}
use Rattle.st_tree.specs.declared.statement.Branch.{Branch}
use Rattle.st_tree.specs.declared.statement.Stmt.{Stmt}
use Rattle.st_tree.specs.declared.statement.Stmt.TheFolds.{fold-roll-Stmt}
use Rattle.st_tree.specs.declared.statement.Stmt.TheOpen.{Stmt-F}
use Rattle.st_tree.specs.declared.statement.Stmt.TheVariants.{Case, rolls-Case}
use Rattle.st_exec.specs.Code.{Code, all_of, branch_code, branch_code_step, branches_before, branches_code, expr_code, stmt_code, stmt_code_step}
use Rattle.st_exec.specs.Jumps.{branches_over, side_over}
use Rattle.st_exec.specs.declared.instruction.Act.TheVariants.{Pass, Take}
use Rattle.st_exec.specs.declared.instruction.Use.TheVariants.{Forget, Match}
use Rattle.st_exec.specs.declared.instruction.Instruction.TheVariants.{Do}

-- what stands before the rest is as long as what the rest leaves
length_before : (a rest : Code) → length (a ++ rest) - length rest ≡ length a
length_before a rest = grind (arith, common_steps)

-- a side with a jump to the rest
pub side_over_is : (side others rest : Code) →
    side_over side (length rest) (others ++ rest) ≡ (side ++ (Do (Pass (length others)) ∷ others)) ++ rest
side_over_is side others rest =
    ap (λ n. side ++ (Do (Pass n) ∷ (others ++ rest))) (length_before others rest) ∙
    sym (append_assoc side (Do (Pass (length others)) ∷ others) rest)

-- branches with jumps to the rest
pub branches_over_is : (bs : List (ℤ × Code)) (others rest : Code) →
    branches_over bs (length rest) (others ++ rest) ≡ branches_before bs others ++ rest
branches_over_is [] others rest = refl
branches_over_is (b ∷ bs) others rest =
    ap (λ l. Do (Take (Match b.0 (length b.1 + 1))) ∷ side_over b.1 (length rest) l)
    (branches_over_is bs others rest) ∙
    ap (λ l. Do (Take (Match b.0 (length b.1 + 1))) ∷ l) (side_over_is b.1 (branches_before bs others) rest)

-- a CASE that is put from its ELSE part on
pub case_put : (e otherwise : Code) (bs : List (ℤ × Code)) (rest after_else forgets branched all : Code)
    (left : ℕ) → left ≡ length rest → after_else ≡ otherwise ++ rest →
    forgets ≡ Do (Take Forget) ∷ after_else → branched ≡ branches_over bs left forgets →
    all ≡ e ++ branched → all ≡ (e ++ branches_code bs otherwise) ++ rest
case_put e otherwise bs rest after_else forgets branched all left is_left is_else is_forget is_branched is_all =
    rw (is_all, is_branched, is_forget, is_else, is_left)
    (ap (λ l. e ++ l) (branches_over_is bs (Do (Take Forget) ∷ otherwise) rest) ∙
    sym (append_assoc e (branches_code bs otherwise) rest))

-- the code of a CASE
pub case_code : (t : Stmt) (e : Expr) (bs : Vec Branch Global) (otherwise : Vec Stmt Global) →
    t ≡ Case e bs otherwise →
    stmt_code t ≡ expr_code e ++
    branches_code (map branch_code bs.items) (all_of (map stmt_code otherwise.items))
case_code t e bs otherwise is =
    ap stmt_code (is ∙ sym (rolls-Case e bs otherwise)) ∙
    fold-roll-Stmt Code (ℤ × Code) stmt_code_step branch_code_step (Stmt-F.Case e bs otherwise)

-- what an answer that is Ok gives, says what follows
pub on_ok_then : {A E : Type 0} (r : Result A E) (P Q : Type 0) → (P → Q) → OnOk r P → OnOk r Q
on_ok_then (Ok x) P Q then_so h = then_so h
on_ok_then (Err e) P Q then_so h = tt
