-- One level of an expression and of a statement, with what each part of it gives in its place.
pub use Rattle.st_tree.specs.declared.expression.Expr.TheOpen.{Expr-F, Term-F}
pub use Rattle.st_tree.specs.declared.statement.Stmt.TheOpen.{Stmt-F, Branch-F}
