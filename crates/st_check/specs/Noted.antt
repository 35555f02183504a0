-- What each note of the grammar's table does. This project's profile.
use Rattle.std.specs.Prelude.{ℕ}
use Rattle.st_grammar.specs.declared.note.Note.{Note}
use Rattle.st_grammar.specs.declared.note.Note.TheVariants as note
use Rattle.st_check.specs.Checked.{Checked, with_part}
use Rattle.st_check.specs.Declarations as declared
use Rattle.st_check.specs.Expressions as expr
use Rattle.st_check.specs.Statements as stmt
use Rattle.st_check.specs.declared.known.ValueType.TheVariants as type
use Rattle.st_tree.specs.declared.part.Part.TheVariants as part
use Rattle.st_tree.specs.declared.program.Start.TheVariants as start

-- what a note in this line does
unfoldable pub noted : ℕ → Note → Checked → Checked
noted line note.Nothing c = c
noted line note.Program c = declared.program line c
noted line (note.TaskName n) c = declared.task_name line n c
noted line (note.Declares n) c = declared.declares line n c
noted line (note.Bool b) c = declared.variable (start.Bool b) c
noted line (note.Dint negative size) c = declared.dint line negative size c
noted line (note.Block kind) c = declared.block kind c
noted line (note.Object n) c = declared.object line n c
noted line note.Body c = declared.body c
noted line note.EndProgram c = with_part part.TaskEnd c
noted line note.End c = declared.end line c
noted line (note.Statement n) c = stmt.statement line n c
noted line note.Sets c = stmt.sets c
noted line note.Calls c = stmt.calls c
noted line note.Executed c = stmt.executed c
noted line (note.Key n) c = stmt.key line n c
noted line (note.Mode n) c = stmt.mode line n c
noted line (note.Master n) c = stmt.master line n c
noted line note.Given c = stmt.given c
noted line note.SetEnd c = stmt.set_end c
noted line note.CallEnd c = stmt.call_end c
noted line note.If c = stmt.branches line c
noted line note.Then c = stmt.then_ c
noted line note.Case c = stmt.branches line c
noted line note.Of c = stmt.of_ c
noted line (note.Branch negative size) c = stmt.branch line negative size c
noted line note.Else c = with_part part.Else c
noted line (note.NoElse is_case) c = stmt.no_else is_case c
noted line (note.Closes is_case) c = stmt.end_of is_case c
noted line (note.Number size) c = expr.number line size c
noted line (note.Truth b) c = expr.truth b c
noted line (note.Name n) c = expr.name line n c
noted line note.Variable c = expr.variable c
noted line (note.Flag f) c = expr.flag f c
noted line note.Opens c = expr.opens line c
noted line note.ClosesParenthesis c = expr.closes c
noted line note.Minus c = expr.changed type.Dint part.Negative c
noted line note.Not c = expr.changed type.Bool part.Not c
noted line (note.Join op) c = expr.joined op c
