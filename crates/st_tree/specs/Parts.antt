-- The parts that a program's trees spell. This project's profile.
use Rattle.std.specs.Prelude.{◌≡◌, ℕ, ◌+◌, zero, suc, List, [], ◌∷◌, ◌++◌, map, length}
use Rattle.std.specs.List.{flat_map}
use Rattle.st_tree.specs.declared.call.Given.{Given}
use Rattle.st_tree.specs.declared.call.Given.TheVariants as given
use Rattle.st_tree.specs.declared.expression.Expr.{Expr}
use Rattle.st_tree.specs.declared.expression.Expr.TheOpen.{Expr-F, Term-F}
use Rattle.st_tree.specs.declared.expression.Expr.TheFolds.{fold-Expr, fold-Term}
use Rattle.st_tree.specs.declared.expression.Term.{Term}
use Rattle.st_tree.specs.declared.program.Task.{Task}
use Rattle.st_tree.specs.declared.program.Variable.{Variable}
use Rattle.st_tree.specs.declared.statement.Branch.{Branch}
use Rattle.st_tree.specs.declared.statement.Stmt.{Stmt}
use Rattle.st_tree.specs.declared.statement.Stmt.TheOpen.{Stmt-F, Branch-F}
use Rattle.st_tree.specs.declared.statement.Stmt.TheFolds.{fold-Stmt, fold-Branch}
use Rattle.st_tree.specs.declared.part.Part.{Part}
use Rattle.st_tree.specs.declared.part.Part.TheVariants as part

abbrev pub Parts : Type 0
Parts = List Part

-- parts one after another
abbrev pub all_of : List Parts → Parts
all_of [] = []
all_of (first ∷ more) = first ++ all_of more

-- ---- expressions: operands, and then what is made of them

-- one level of an expression, with the parts of each part of it in its place
abbrev pub expr_step : Expr-F Parts Parts → Parts
expr_step (Expr-F.Number n) = part.Number n ∷ []
expr_step (Expr-F.Truth b) = part.Truth b ∷ []
expr_step (Expr-F.Variable x) = part.Variable x ∷ []
expr_step (Expr-F.Flag k flag) = part.Flag k flag ∷ []
expr_step (Expr-F.Negative a) = a.value ++ part.Negative ∷ []
expr_step (Expr-F.Not a) = a.value ++ part.Not ∷ []
expr_step (Expr-F.Chain first terms) = first.value ++ all_of terms.items

abbrev pub term_step : Term-F Parts Parts → Parts
term_step term = term.operand ++ part.Join term.operator ∷ []

-- the parts of an expression
abbrev pub expr_parts : Expr → Parts
expr_parts = fold-Expr Parts Parts expr_step term_step

-- the parts of a term
abbrev pub term_parts : Term → Parts
term_parts = fold-Term Parts Parts expr_step term_step

-- the parts of operands, one after another
abbrev pub operands_parts : List Expr → Parts
operands_parts operands = all_of (map expr_parts operands)

-- ---- statements

-- the parts of what a key gives
abbrev pub given_parts : Given → Parts
given_parts (given.Number key e) = expr_parts e ++ part.Given key ∷ []
given_parts (given.Mode mode) = part.Mode mode ∷ []
given_parts (given.Master axis) = part.Master axis ∷ []

-- one statement, with the parts of each inside it in its place
abbrev pub stmt_step : Stmt-F Parts Parts → Parts
stmt_step (Stmt-F.Set x e) = expr_parts e ++ part.Set x ∷ []
stmt_step (Stmt-F.Call k e given) =
    expr_parts e ++ (part.Execute k ∷ (all_of (map given_parts given.items) ++ part.CallEnd ∷ []))
stmt_step (Stmt-F.If e then otherwise) =
    expr_parts e ++
    (part.If ∷ (all_of then.items ++ (part.Else ∷ (all_of otherwise.items ++ part.EndIf ∷ []))))
stmt_step (Stmt-F.Case e branches otherwise) =
    expr_parts e ++
    (part.Case ∷
    (all_of branches.items ++ (part.Else ∷ (all_of otherwise.items ++ part.EndCase ∷ []))))

abbrev pub branch_step : Branch-F Parts Parts → Parts
branch_step b = part.Branch b.value ∷ all_of b.body.items

-- the parts of a statement
abbrev pub stmt_parts : Stmt → Parts
stmt_parts = fold-Stmt Parts Parts stmt_step branch_step

-- the parts of a branch
abbrev pub branch_parts : Branch → Parts
branch_parts = fold-Branch Parts Parts stmt_step branch_step

-- the parts of statements
abbrev pub body_parts : List Stmt → Parts
body_parts body = all_of (map stmt_parts body)

-- the parts of branches
abbrev pub branches_parts : List Branch → Parts
branches_parts branches = all_of (map branch_parts branches)

-- ---- tasks

-- this many numbers from this on
abbrev pub numbers_from : ℕ → ℕ → List ℕ
numbers_from n zero = []
numbers_from n (suc count) = n ∷ numbers_from (n + 1) count

-- the parts of declarations
abbrev pub declared_parts : List Variable → Parts
declared_parts variables = map (λ (v : Variable). part.Declared v.start) variables

-- the names of variables
abbrev pub variable_names : List Variable → List (List ℕ)
variable_names variables = map (λ (v : Variable). v.name) variables

-- the parts of a task
abbrev pub task_parts : Task → Parts
task_parts t =
    part.Task ∷
    (declared_parts t.variables.items ++
    (part.Body (length t.blocks.items) ∷ (body_parts t.body.items ++ part.TaskEnd ∷ [])))

-- the names of a task and of its variables
abbrev pub task_names : Task → List (List ℕ)
task_names t = t.name ∷ variable_names t.variables.items

-- the blocks of a task
abbrev pub blocks_of : Task → List ℕ
blocks_of t = t.blocks.items

-- a program spells these names and parts, and its blocks are numbered from 0 on
pub record Spells (tasks : List Task) (names : List (List ℕ)) (parts : Parts) : Type 0 where
  pub names_are : flat_map task_names tasks ≡ names
  pub parts_are : flat_map task_parts tasks ≡ parts
  pub numbered : flat_map blocks_of tasks ≡ numbers_from 0 (length (flat_map blocks_of tasks))
