-- The code of an expression puts its value on the stack.
-- for: next, open, compile and others
use Rattle.std.proofs.Common.{◌≡◌, ℕ, ℤ, List, [], ◌∷◌, ◌++◌, map, ap, sym, refl, subst, ◌∙◌, append_assoc}
use Rattle.plc_types.specs.declared.inputs.Inputs.{Inputs}
use Rattle.st_tree.specs.declared.expression.Expr.{Expr}
use Rattle.st_tree.specs.declared.expression.Term.{Term}
use Rattle.st_tree.specs.declared.expression.Expr.TheOpen.{Expr-F, Term-F}
use Rattle.st_tree.specs.declared.expression.Expr.TheViews.{roll-Expr, roll-Term}
use Rattle.st_tree.specs.declared.expression.Expr.TheFolds.{ind-Expr, fold-Term, fold-roll-Expr, fold-roll-Term, map-Expr, map-Term}
use Rattle.st_exec.specs.Code.{Code, all_of, expr_code, expr_code_step, term_code, term_code_step}
use Rattle.st_exec.specs.Machine.{run}
use Rattle.st_exec.specs.declared.instruction.Act.TheVariants.{Take}
use Rattle.st_exec.specs.declared.instruction.Use.TheVariants.{Negate, Invert, Join}
use Rattle.st_exec.specs.declared.instruction.Instruction.TheVariants.{Do}
use Rattle.st_exec.specs.Scan.{Stand}
use Rattle.st_exec.specs.Values.{Value, chained, term_step, value_of, value_step}

-- what a term makes of a value
abbrev pub term_value : Term → ℤ → Value
term_value = fold-Term Value (ℤ → Value) value_step term_step

-- the code of an expression puts its value on the stack
pub record Runs (us : ℕ) (e : Expr) : Type 0 where
  pub runs : (rest : Code) (stack : List ℤ) (i : Inputs) (s : Stand) →
      run us (expr_code e ++ rest) 0 stack i s ≡
      run us rest 0 (value_of e s.vars s.last ∷ stack) i s

-- the code of a term puts what it makes of the value on top in its place
pub record Joins (us : ℕ) (t : Term) : Type 0 where
  pub joins : (rest : Code) (stack : List ℤ) (v : ℤ) (i : Inputs) (s : Stand) →
      run us (term_code t ++ rest) 0 (v ∷ stack) i s ≡
      run us rest 0 (term_value t v s.vars s.last ∷ stack) i s

-- the terms of a chain, one after another
terms_run : (us : ℕ) (ts : List ((t : Term) × Joins us t)) (rest : Code) (stack : List ℤ) (v : ℤ)
    (i : Inputs) (s : Stand) →
    run us (all_of (map term_code (map (λ t. t.0) ts)) ++ rest) 0 (v ∷ stack) i s ≡
    run us rest 0 (chained (map term_value (map (λ t. t.0) ts)) v s.vars s.last ∷ stack) i s
terms_run us [] rest stack v i s = refl
terms_run us (t ∷ ts) rest stack v i s =
    ap (λ l. run us l 0 (v ∷ stack) i s)
    (append_assoc (term_code t.0) (all_of (map term_code (map (λ t. t.0) ts))) rest) ∙
    (t.1.joins (all_of (map term_code (map (λ t. t.0) ts)) ++ rest) stack v i s ∙
    terms_run us ts rest stack (term_value t.0 v s.vars s.last) i s)

-- one level runs where what its parts give does
level_runs : (us : ℕ) (x : Expr-F Expr Term) →
    ((rest : Code) (stack : List ℤ) (i : Inputs) (s : Stand) →
    run us (expr_code_step (map-Expr _ _ _ _ expr_code term_code x) ++ rest) 0 stack i s ≡
    run us rest 0 (value_step (map-Expr _ _ _ _ value_of term_value x) s.vars s.last ∷ stack) i s) →
    Runs us (roll-Expr x)
level_runs us x same = record {
  runs = λ rest stack i s.
      ap (λ c. run us (c ++ rest) 0 stack i s)
      (fold-roll-Expr Code Code expr_code_step term_code_step x) ∙
      (same rest stack i s ∙
      sym (ap (λ (v : Value). run us rest 0 (v s.vars s.last ∷ stack) i s)
      (fold-roll-Expr Value (ℤ → Value) value_step term_step x)));
}

-- the code of one level puts its value on the stack where those of its parts do
parts_run : (us : ℕ) (y : Expr-F ((e : Expr) × Runs us e) ((t : Term) × Joins us t)) →
    Runs us (roll-Expr (map-Expr _ _ _ _ (λ e. e.0) (λ t. t.0) y))
parts_run us (Expr-F.Number n) = level_runs us (Expr-F.Number n) (λ rest stack i s. refl)
parts_run us (Expr-F.Truth b) = level_runs us (Expr-F.Truth b) (λ rest stack i s. refl)
parts_run us (Expr-F.Variable x) = level_runs us (Expr-F.Variable x) (λ rest stack i s. refl)
parts_run us (Expr-F.Flag k flag) = level_runs us (Expr-F.Flag k flag) (λ rest stack i s. refl)
parts_run us (Expr-F.Negative a) = level_runs us _ (λ rest stack i s.
    ap (λ l. run us l 0 stack i s) (append_assoc (expr_code a.value.0) _ rest) ∙
    a.value.1.runs (Do (Take Negate) ∷ rest) stack i s)
parts_run us (Expr-F.Not a) = level_runs us _ (λ rest stack i s.
    ap (λ l. run us l 0 stack i s) (append_assoc (expr_code a.value.0) _ rest) ∙
    a.value.1.runs (Do (Take Invert) ∷ rest) stack i s)
parts_run us (Expr-F.Chain first terms) = level_runs us _ (λ rest stack i s.
    ap (λ l. run us l 0 stack i s) (append_assoc (expr_code first.value.0) _ rest) ∙
    (first.value.1.runs _ stack i s ∙
    terms_run us terms.items rest stack (value_of first.value.0 s.vars s.last) i s))

-- the code of a term does too
operand_runs : (us : ℕ) (y : Term-F ((e : Expr) × Runs us e) ((t : Term) × Joins us t)) →
    Joins us (roll-Term (map-Term _ _ _ _ (λ e. e.0) (λ t. t.0) y))
operand_runs us y = record {
  joins = λ rest stack v i s.
      ap (λ c. run us (c ++ rest) 0 (v ∷ stack) i s)
      (fold-roll-Term Code Code expr_code_step term_code_step (map-Term _ _ _ _ (λ e. e.0) (λ t. t.0) y)) ∙
      (ap (λ l. run us l 0 (v ∷ stack) i s) (append_assoc (expr_code y.operand.0) _ rest) ∙
      (y.operand.1.runs (Do (Take (Join y.operator)) ∷ rest) (v ∷ stack) i s ∙
      sym (ap (λ (f : ℤ → Value). run us rest 0 (f v s.vars s.last ∷ stack) i s)
      (fold-roll-Term Value (ℤ → Value) value_step term_step (map-Term _ _ _ _ (λ e. e.0) (λ t. t.0) y)))));
}

-- the code of an expression puts its value on the stack
pub expr_runs : (us : ℕ) (e : Expr) → Runs us e
expr_runs us = ind-Expr (Runs us) (Joins us)
    (λ x y is. subst (λ z. Runs us (roll-Expr z)) is (parts_run us y))
    (λ x y is. subst (λ z. Joins us (roll-Term z)) is (operand_runs us y))
