-- The grammar as a table: a row for each item that may be expected, and each token that it takes
-- then. IEC 61131-3, in this project's profile.
use Rattle.std.specs.Prelude.{[]}
use Rattle.st_grammar.specs.Expressions.{behind_unary, behind_product, behind_sum, behind_comparison, behind_conjunction, primary, unary, products, sums, comparisons, conjunctions, disjunctions, dot, flag, parenthesis}
use Rattle.st_grammar.specs.Lines.{Line, passes}
use Rattle.st_grammar.specs.Statements.{statements, behind_name, set_end, execute, keys, key, mode, master, call_end, then_, else_, end_if, of, branches, negative_branch, end_case}
use Rattle.st_grammar.specs.Tasks.{file, tasks, task_name, end_program, var, colon, semicolon, opens, closes, gets, declarations, sort, bool_start, truth, dint_start, signed, negative, object}
use Rattle.st_grammar.specs.declared.item.Item.{Item}
use Rattle.st_grammar.specs.declared.item.Item.TheVariants as item
use Rattle.st_grammar.specs.declared.note.Note.TheVariants as note
use Rattle.st_tokens.specs.declared.token.Token.{Token}

-- ---- the whole table

unfoldable pub row_of : Item → Token → Line
row_of item.File t = file t
row_of item.Tasks t = tasks t
row_of item.TaskName t = task_name t
row_of item.Var t = var t
row_of item.Declarations t = declarations t
row_of item.Colon t = colon t
row_of item.Sort t = sort t
row_of item.BoolStart t = bool_start t
row_of item.Truth t = truth t
row_of item.DintStart t = dint_start t
row_of item.Signed t = signed t
row_of item.Negative t = negative t
row_of item.Open t = opens t
row_of item.Object t = object t
row_of item.Close t = closes t
row_of item.Semicolon t = semicolon t
row_of item.Gets t = gets t
row_of item.EndProgram t = end_program t
row_of item.Statements t = statements t
row_of item.BehindName t = behind_name t
row_of item.Execute t = execute t
row_of item.Executed t = passes note.Executed
row_of item.Keys t = keys t
row_of item.Key t = key t
row_of item.Mode t = mode t
row_of item.Master t = master t
row_of item.Given t = passes note.Given
row_of item.SetEnd t = set_end t
row_of item.CallEnd t = call_end t
row_of item.Then t = then_ t
row_of item.Else t = else_ t
row_of item.EndIf t = end_if t
row_of item.Of t = of t
row_of item.Branches t = branches t
row_of item.NegativeBranch t = negative_branch t
row_of item.EndCase t = end_case t
row_of item.Expr t = unary behind_conjunction t
row_of item.Conjunction t = unary behind_comparison t
row_of item.Comparison t = unary behind_sum t
row_of item.Sum t = unary behind_product t
row_of item.Product t = unary behind_unary t
row_of item.Unary t = unary [] t
row_of item.Primary t = primary [] t
row_of item.Dot t = dot t
row_of item.Flag t = flag t
row_of item.Parenthesis t = parenthesis t
row_of item.Products t = products t
row_of item.Sums t = sums t
row_of item.Comparisons t = comparisons t
row_of item.Conjunctions t = conjunctions t
row_of item.Disjunctions t = disjunctions t
row_of item.Minus t = passes note.Minus
row_of item.Not t = passes note.Not
row_of (item.Join op) t = passes (note.Join op)
