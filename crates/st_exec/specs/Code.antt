-- The code of a task's statements.
use Rattle.std.specs.Prelude.{◌+◌, ℤ, List, [], ◌∷◌, ◌++◌, map, length}
use Rattle.st_tree.specs.declared.call.Given.{Given}
use Rattle.st_tree.specs.declared.call.Given.TheVariants.{Number, Mode, Master}
use Rattle.st_tree.specs.declared.expression.Expr.{Expr}
use Rattle.st_tree.specs.declared.expression.Expr.TheOpen.{Expr-F, Term-F}
use Rattle.st_tree.specs.declared.expression.Expr.TheFolds.{fold-Expr, fold-Term}
use Rattle.st_tree.specs.declared.expression.Term.{Term}
use Rattle.st_tree.specs.declared.statement.Branch.{Branch}
use Rattle.st_tree.specs.declared.statement.Stmt.{Stmt}
use Rattle.st_tree.specs.declared.statement.Stmt.TheOpen.{Stmt-F, Branch-F}
use Rattle.st_tree.specs.declared.statement.Stmt.TheFolds.{fold-Stmt, fold-Branch}
use Rattle.st_exec.specs.declared.instruction.Act.TheVariants.{Choose, Follow, Load, Pass, Push, Show, Take}
use Rattle.st_exec.specs.declared.instruction.Use.TheVariants.{Negate, Invert, Join, Store, Begin, Give, Unless, Match, Forget}
use Rattle.st_exec.specs.declared.instruction.Instruction.{Instruction}
use Rattle.st_exec.specs.declared.instruction.Instruction.TheVariants.{Do, Ask}
use Rattle.st_exec.specs.Values.{truth_of}

abbrev pub Code : Type 0
Code = List Instruction

-- codes one after another
abbrev pub all_of : List Code → Code
all_of [] = []
all_of (first ∷ more) = first ++ all_of more

-- one level of an expression, with the code of each part in its place
abbrev pub expr_code_step : Expr-F Code Code → Code
expr_code_step (Expr-F.Number n) = Do (Push n) ∷ []
expr_code_step (Expr-F.Truth b) = Do (Push (truth_of b)) ∷ []
expr_code_step (Expr-F.Variable x) = Do (Load x) ∷ []
expr_code_step (Expr-F.Flag k flag) = Do (Show k flag) ∷ []
expr_code_step (Expr-F.Negative a) = a.value ++ Do (Take Negate) ∷ []
expr_code_step (Expr-F.Not a) = a.value ++ Do (Take Invert) ∷ []
expr_code_step (Expr-F.Chain first terms) = first.value ++ all_of terms.items

abbrev pub term_code_step : Term-F Code Code → Code
term_code_step term = term.operand ++ Do (Take (Join term.operator)) ∷ []

-- the code that puts an expression's value on the stack
abbrev pub expr_code : Expr → Code
expr_code = fold-Expr Code Code expr_code_step term_code_step

-- the code of a term, for the value on the stack
abbrev pub term_code : Term → Code
term_code = fold-Term Code Code expr_code_step term_code_step

-- the code that gives an input what its key gives
abbrev pub given_code : Given → Code
given_code (Number key e) = expr_code e ++ Do (Take (Give key)) ∷ []
given_code (Mode mode) = Do (Choose mode) ∷ []
given_code (Master axis) = Do (Follow axis) ∷ []

-- a choice between two codes
abbrev pub sides_code : Code → Code → Code
sides_code held otherwise =
    Do (Take (Unless (length held + 1))) ∷ held ++ (Do (Pass (length otherwise)) ∷ otherwise)

-- a branch before what comes where it hasn't the value on the stack
abbrev pub branch_before : ℤ × Code → Code → Code
branch_before branch behind =
    Do (Take (Match branch.0 (length branch.1 + 1))) ∷ branch.1 ++ (Do (Pass (length behind)) ∷ behind)

-- branches before what comes where none has the value on the stack
abbrev pub branches_before : List (ℤ × Code) → Code → Code
branches_before [] behind = behind
branches_before (branch ∷ branches) behind = branch_before branch (branches_before branches behind)

-- a choice of the first branch with the value on the stack
abbrev pub branches_code : List (ℤ × Code) → Code → Code
branches_code branches otherwise = branches_before branches (Do (Take Forget) ∷ otherwise)

-- one statement, with the code of each inside it in its place
abbrev pub stmt_code_step : Stmt-F Code (ℤ × Code) → Code
stmt_code_step (Stmt-F.Set x e) = expr_code e ++ Do (Take (Store x)) ∷ []
stmt_code_step (Stmt-F.Call k e given) =
    expr_code e ++ (Do (Take Begin) ∷ all_of (map given_code given.items) ++ Ask k ∷ [])
stmt_code_step (Stmt-F.If e held otherwise) =
    expr_code e ++ sides_code (all_of held.items) (all_of otherwise.items)
stmt_code_step (Stmt-F.Case e branches otherwise) =
    expr_code e ++ branches_code branches.items (all_of otherwise.items)

abbrev pub branch_code_step : Branch-F Code (ℤ × Code) → ℤ × Code
branch_code_step b = (b.value, all_of b.body.items)

-- the code of a statement
abbrev pub stmt_code : Stmt → Code
stmt_code = fold-Stmt Code (ℤ × Code) stmt_code_step branch_code_step

-- the code of a branch, with its value
abbrev pub branch_code : Branch → ℤ × Code
branch_code = fold-Branch Code (ℤ × Code) stmt_code_step branch_code_step

-- the code of a task's statements
unfoldable pub body_code : List Stmt → Code
body_code body = all_of (map stmt_code body)
