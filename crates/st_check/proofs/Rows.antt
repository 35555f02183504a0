-- Where the items of the grammar's table lead, as places among parts, and that each row keeps to it.
-- for: crates above
use Rattle.std.proofs.Common.{◌≡◌, ℕ, zero, suc, pos, Bool, true, false, Option, Some, None, List, [], ◌∷◌, refl}
use Rattle.std.specs.Prelude.{if◌then◌else◌}
use Rattle.std.specs.Option.{option_and_then, option_map_or}
use Rattle.plc_types.specs.declared.kind.BlockKind.{BlockKind}
use Rattle.plc_types.specs.declared.kind.BufferMode.TheVariants as mode
use Rattle.plc_types.specs.declared.flag.Flag.{Flag}
use Rattle.st_grammar.specs.Expressions as expr
use Rattle.st_grammar.specs.Lines.{Line, takes, passes, refuses}
use Rattle.st_grammar.specs.Statements as stmt
use Rattle.st_grammar.specs.Table.{row_of}
use Rattle.st_grammar.specs.Tasks as task
use Rattle.st_grammar.specs.declared.item.Item.{Item}
use Rattle.st_grammar.specs.declared.item.Item.TheVariants as item
use Rattle.st_grammar.specs.declared.note.Note.{Note}
use Rattle.st_grammar.specs.declared.note.Note.TheVariants as note
use Rattle.st_tree.specs.Places.{Around, Branch, Declaring, Inside, Otherwise, Outside, Place, Selected, Then, after, changed, joined, operand}
use Rattle.st_tree.specs.declared.part.Part.TheVariants as part
use Rattle.st_tokens.specs.declared.token.Sign.TheVariants as sign
use Rattle.st_tokens.specs.declared.token.Token.{Token}
use Rattle.st_tokens.specs.declared.token.Token.TheVariants.{Name, Kind, Number, Word, Sign, End}
use Rattle.st_tokens.specs.declared.token.Word.TheVariants as word
use Rattle.st_tree.specs.declared.call.Key.TheVariants as key
use Rattle.st_tree.specs.declared.program.Start.TheVariants as start

-- where the parts lead that are read of a note, where no rule is broken
abbrev pub note_leads : Note → Place → Option Place
note_leads (note.TaskName n) p = after part.Task p
note_leads (note.Bool b) p = after (part.Declared (start.Bool false)) p
note_leads (note.Dint negative size) p = after (part.Declared (start.Bool false)) p
note_leads note.Body p = after (part.Body 0) p
note_leads note.EndProgram p = after part.TaskEnd p
note_leads note.Calls (Inside zero false a) = Some (Inside zero false a)
note_leads note.Calls _ = None
note_leads note.Executed p = after (part.Execute 0) p
note_leads (note.Mode n) p = after (part.Mode mode.Aborting) p
note_leads (note.Master n) p = after (part.Master 0) p
note_leads note.Given p = after (part.Given key.Velocity) p
note_leads note.SetEnd p = after (part.Set 0) p
note_leads note.CallEnd p = after part.CallEnd p
note_leads note.Then p = after part.If p
note_leads note.Of p = after part.Case p
note_leads (note.Branch negative size) p = after (part.Branch (pos 0)) p
note_leads note.Else p = after part.Else p
note_leads (note.NoElse false) p = option_and_then (λ q. after part.EndIf q) (after part.Else p)
note_leads (note.NoElse true) p = option_and_then (λ q. after part.EndCase q) (after part.Else p)
note_leads (note.Closes false) p = after part.EndIf p
note_leads (note.Closes true) p = after part.EndCase p
note_leads (note.Number size) p = operand p
note_leads (note.Truth b) p = operand p
note_leads note.Variable p = operand p
note_leads (note.Flag f) p = operand p
note_leads note.Minus p = changed p
note_leads note.Not p = changed p
note_leads (note.Join op) p = joined p
note_leads _ p = Some p

-- where the parts of an item lead
abbrev pub follow : Item → Place → Option Place
follow item.File Outside = Some Outside
follow item.Tasks Outside = Some Outside
follow item.TaskName Outside = Some Declaring
follow item.Declarations Declaring = Some (Inside zero false [])
follow item.Sort Declaring = Some Declaring
follow item.BoolStart Declaring = Some Declaring
follow item.Truth Declaring = Some Declaring
follow item.DintStart Declaring = Some Declaring
follow item.Signed Declaring = Some Declaring
follow item.Negative Declaring = Some Declaring
follow item.EndProgram (Inside zero false []) = Some Outside
follow item.Statements (Inside zero false a) = Some (Inside zero false a)
follow item.BehindName (Inside zero false a) = Some (Inside zero false a)
follow item.Executed (Inside (suc zero) false a) = Some (Inside zero true a)
follow item.Keys (Inside zero true a) = Some (Inside zero true a)
follow item.Key (Inside zero true a) = Some (Inside zero true a)
follow item.Mode (Inside zero true a) = Some (Inside zero true a)
follow item.Master (Inside zero true a) = Some (Inside zero true a)
follow item.Given (Inside (suc zero) true a) = Some (Inside zero true a)
follow item.SetEnd (Inside (suc zero) false a) = Some (Inside zero false a)
follow item.CallEnd (Inside zero true a) = Some (Inside zero false a)
follow item.Then (Inside (suc zero) false a) = Some (Inside zero false (Then ∷ a))
follow item.Else (Inside zero false (Then ∷ a)) = Some (Inside zero false a)
follow item.EndIf (Inside zero false (Otherwise false ∷ a)) = Some (Inside zero false a)
follow item.Of (Inside (suc zero) false a) = Some (Selected a)
follow item.Branches (Selected a) = Some (Inside zero false a)
follow item.Branches (Inside zero false (Branch ∷ a)) = Some (Inside zero false a)
follow item.NegativeBranch (Selected a) = Some (Inside zero false (Branch ∷ a))
follow item.NegativeBranch (Inside zero false (Branch ∷ a)) = Some (Inside zero false (Branch ∷ a))
follow item.EndCase (Inside zero false (Otherwise true ∷ a)) = Some (Inside zero false a)
follow item.Expr p = operand p
follow item.Conjunction p = operand p
follow item.Comparison p = operand p
follow item.Sum p = operand p
follow item.Product p = operand p
follow item.Unary p = operand p
follow item.Primary p = operand p
follow item.Dot p = operand p
follow item.Flag p = operand p
follow item.Parenthesis p = changed p
follow item.Products p = changed p
follow item.Sums p = changed p
follow item.Comparisons p = changed p
follow item.Conjunctions p = changed p
follow item.Disjunctions p = changed p
follow item.Minus p = changed p
follow item.Not p = changed p
follow (item.Join op) p = joined p
follow item.Var p = Some p
follow item.Colon p = Some p
follow item.Open p = Some p
follow item.Object p = Some p
follow item.Close p = Some p
follow item.Semicolon p = Some p
follow item.Gets p = Some p
follow item.Execute p = Some p
follow _ _ = None

-- where those of items lead, one after another
abbrev pub follows : List Item → Place → Option Place
follows [] p = Some p
follows (i ∷ is) p = option_and_then (λ q. follows is q) (follow i p)

-- a row leads where its item leads
abbrev pub KeepsBy : Option Place → Place → Line → Type 0
KeepsBy None p line = Unit {0}
KeepsBy (Some next) p (takes note more) = option_and_then (λ q. follows more q) (note_leads note p) ≡ Some next
KeepsBy (Some next) p (passes note) = note_leads note p ≡ Some next
KeepsBy (Some next) p refuses = Unit {0}

abbrev pub Keeps : Item → Place → Line → Type 0
Keeps i p line = KeepsBy (follow i p) p line

-- ---- expressions

-- items that may stand after an operand leave it
abbrev Leaves : List Item → Type 0
Leaves behind = (n : ℕ) (keys : Bool) (a : List Around) → follows behind (Inside (suc n) keys a) ≡ Some (Inside (suc n) keys a)

primary_keeps : (behind : List Item) → Leaves behind → (p : Place) (t : Token) → KeepsBy (operand p) p (expr.primary behind t)
primary_keeps behind h (Inside n keys a) (Number x) = h n keys a
primary_keeps behind h (Inside n keys a) (Word word.True) = h n keys a
primary_keeps behind h (Inside n keys a) (Word word.False) = h n keys a
primary_keeps behind h (Inside n keys a) (Name x) = h n keys a
primary_keeps behind h (Inside n keys a) (Sign sign.Open) = h n keys a
primary_keeps behind h (Inside n keys a) _ = tt
primary_keeps behind h _ t = tt

unary_keeps : (behind : List Item) → Leaves behind → (p : Place) (t : Token) → KeepsBy (operand p) p (expr.unary behind t)
unary_keeps behind h (Inside n keys a) (Sign sign.Minus) = h n keys a
unary_keeps behind h (Inside n keys a) (Word word.Not) = h n keys a
unary_keeps behind h (Inside n keys a) t = primary_keeps behind h (Inside n keys a) t
unary_keeps behind h _ t = tt

products_keep : (p : Place) (t : Token) → KeepsBy (changed p) p (expr.products t)
products_keep (Inside (suc n) keys a) (Sign sign.Times) = refl
products_keep (Inside (suc n) keys a) _ = refl
products_keep _ t = tt

sums_keep : (p : Place) (t : Token) → KeepsBy (changed p) p (expr.sums t)
sums_keep (Inside (suc n) keys a) (Sign sign.Plus) = refl
sums_keep (Inside (suc n) keys a) _ = refl
sums_keep _ t = tt

comparisons_keep : (p : Place) (t : Token) → KeepsBy (changed p) p (expr.comparisons t)
comparisons_keep (Inside (suc n) keys a) (Sign sign.Equal) = refl
comparisons_keep (Inside (suc n) keys a) _ = refl
comparisons_keep _ t = tt

conjunctions_keep : (p : Place) (t : Token) → KeepsBy (changed p) p (expr.conjunctions t)
conjunctions_keep (Inside (suc n) keys a) (Word word.And) = refl
conjunctions_keep (Inside (suc n) keys a) _ = refl
conjunctions_keep _ t = tt

disjunctions_keep : (p : Place) (t : Token) → KeepsBy (changed p) p (expr.disjunctions t)
disjunctions_keep (Inside (suc n) keys a) (Word word.Or) = refl
disjunctions_keep (Inside (suc n) keys a) _ = refl
disjunctions_keep _ t = tt

dot_keeps : (p : Place) (t : Token) → KeepsBy (operand p) p (expr.dot t)
dot_keeps (Inside n keys a) (Sign sign.Dot) = refl
dot_keeps (Inside n keys a) _ = refl
dot_keeps _ t = tt

flag_named_keeps : (n : ℕ) (keys : Bool) (a : List Around) (o : Option Flag) →
    KeepsBy (Some (Inside (suc n) keys a)) (Inside n keys a) (option_map_or (λ f. takes (note.Flag f) []) o refuses)
flag_named_keeps n keys a (Some f) = refl
flag_named_keeps n keys a None = tt

flag_keeps : (p : Place) (t : Token) → KeepsBy (operand p) p (expr.flag t)
flag_keeps (Inside n keys a) (Name x) = flag_named_keeps n keys a _
flag_keeps (Inside n keys a) _ = tt
flag_keeps _ t = tt

parenthesis_keeps : (p : Place) (t : Token) → KeepsBy (changed p) p (expr.parenthesis t)
parenthesis_keeps (Inside (suc n) keys a) (Sign sign.Close) = refl
parenthesis_keeps (Inside (suc n) keys a) _ = tt
parenthesis_keeps _ t = tt

-- ---- statements

statements_keep : (p : Place) (t : Token) → Keeps item.Statements p (stmt.statements t)
statements_keep (Inside zero false a) (Name n) = refl
statements_keep (Inside zero false a) (Word word.If) = refl
statements_keep (Inside zero false a) (Word word.Case) = refl
statements_keep (Inside zero false a) _ = refl
statements_keep _ t = tt

behind_name_keeps : (p : Place) (t : Token) → Keeps item.BehindName p (stmt.behind_name t)
behind_name_keeps (Inside zero false a) (Sign sign.Gets) = refl
behind_name_keeps (Inside zero false a) (Sign sign.Open) = refl
behind_name_keeps (Inside zero false a) _ = tt
behind_name_keeps _ t = tt

set_end_keeps : (p : Place) (t : Token) → Keeps item.SetEnd p (stmt.set_end t)
set_end_keeps (Inside (suc zero) false a) (Sign sign.Semicolon) = refl
set_end_keeps (Inside (suc zero) false a) _ = tt
set_end_keeps _ t = tt

said_keeps : (p : Place) (b : Bool) → KeepsBy (Some p) p (if b then takes note.Nothing [] else refuses)
said_keeps p true = refl
said_keeps p false = tt

execute_keeps : (p : Place) (t : Token) → Keeps item.Execute p (stmt.execute t)
execute_keeps p (Name n) = said_keeps p _
execute_keeps p _ = tt

keys_keep : (p : Place) (t : Token) → Keeps item.Keys p (stmt.keys t)
keys_keep (Inside zero true a) (Sign sign.Comma) = refl
keys_keep (Inside zero true a) (Sign sign.Close) = refl
keys_keep (Inside zero true a) _ = tt
keys_keep _ t = tt

value_keeps : (a : List Around) (b c : Bool) →
    follows (if b then item.Mode ∷ [] else if c then item.Master ∷ [] else item.Expr ∷ item.Given ∷ []) (Inside zero true a) ≡ Some (Inside zero true a)
value_keeps a true c = refl
value_keeps a false true = refl
value_keeps a false false = refl

key_keeps : (p : Place) (t : Token) → Keeps item.Key p (stmt.key t)
key_keeps (Inside zero true a) (Name n) = value_keeps a _ _
key_keeps (Inside zero true a) _ = tt
key_keeps _ t = tt

mode_keeps : (p : Place) (t : Token) → Keeps item.Mode p (stmt.mode t)
mode_keeps (Inside zero true a) (Name n) = refl
mode_keeps (Inside zero true a) _ = tt
mode_keeps _ t = tt

master_keeps : (p : Place) (t : Token) → Keeps item.Master p (stmt.master t)
master_keeps (Inside zero true a) (Name n) = refl
master_keeps (Inside zero true a) _ = tt
master_keeps _ t = tt

call_end_keeps : (p : Place) (t : Token) → Keeps item.CallEnd p (stmt.call_end t)
call_end_keeps (Inside zero true a) (Sign sign.Semicolon) = refl
call_end_keeps (Inside zero true a) _ = tt
call_end_keeps _ t = tt

then_keeps : (p : Place) (t : Token) → Keeps item.Then p (stmt.then_ t)
then_keeps (Inside (suc zero) false a) (Word word.Then) = refl
then_keeps (Inside (suc zero) false a) _ = tt
then_keeps _ t = tt

else_keeps : (p : Place) (t : Token) → Keeps item.Else p (stmt.else_ t)
else_keeps (Inside zero false (Then ∷ a)) (Word word.Else) = refl
else_keeps (Inside zero false (Then ∷ a)) (Word word.EndIf) = refl
else_keeps (Inside zero false (Then ∷ a)) _ = tt
else_keeps _ t = tt

end_if_keeps : (p : Place) (t : Token) → Keeps item.EndIf p (stmt.end_if t)
end_if_keeps (Inside zero false (Otherwise false ∷ a)) (Word word.EndIf) = refl
end_if_keeps (Inside zero false (Otherwise false ∷ a)) _ = tt
end_if_keeps _ t = tt

of_keeps : (p : Place) (t : Token) → Keeps item.Of p (stmt.of t)
of_keeps (Inside (suc zero) false a) (Word word.Of) = refl
of_keeps (Inside (suc zero) false a) _ = tt
of_keeps _ t = tt

branches_keep : (p : Place) (t : Token) → Keeps item.Branches p (stmt.branches t)
branches_keep (Selected a) (Sign sign.Minus) = refl
branches_keep (Selected a) (Number n) = refl
branches_keep (Selected a) (Word word.Else) = refl
branches_keep (Selected a) (Word word.EndCase) = refl
branches_keep (Selected a) _ = tt
branches_keep (Inside zero false (Branch ∷ a)) (Sign sign.Minus) = refl
branches_keep (Inside zero false (Branch ∷ a)) (Number n) = refl
branches_keep (Inside zero false (Branch ∷ a)) (Word word.Else) = refl
branches_keep (Inside zero false (Branch ∷ a)) (Word word.EndCase) = refl
branches_keep (Inside zero false (Branch ∷ a)) _ = tt
branches_keep _ t = tt

negative_branch_keeps : (p : Place) (t : Token) → Keeps item.NegativeBranch p (stmt.negative_branch t)
negative_branch_keeps (Selected a) (Number n) = refl
negative_branch_keeps (Selected a) _ = tt
negative_branch_keeps (Inside zero false (Branch ∷ a)) (Number n) = refl
negative_branch_keeps (Inside zero false (Branch ∷ a)) _ = tt
negative_branch_keeps _ t = tt

end_case_keeps : (p : Place) (t : Token) → Keeps item.EndCase p (stmt.end_case t)
end_case_keeps (Inside zero false (Otherwise true ∷ a)) (Word word.EndCase) = refl
end_case_keeps (Inside zero false (Otherwise true ∷ a)) _ = tt
end_case_keeps _ t = tt

-- ---- tasks and declarations

file_keeps : (p : Place) (t : Token) → Keeps item.File p (task.file t)
file_keeps Outside (Word word.Program) = refl
file_keeps Outside _ = tt
file_keeps _ t = tt

tasks_keep : (p : Place) (t : Token) → Keeps item.Tasks p (task.tasks t)
tasks_keep Outside End = refl
tasks_keep Outside (Word word.Program) = refl
tasks_keep Outside _ = tt
tasks_keep _ t = tt

task_name_keeps : (p : Place) (t : Token) → Keeps item.TaskName p (task.task_name t)
task_name_keeps Outside (Name n) = refl
task_name_keeps Outside _ = tt
task_name_keeps _ t = tt

end_program_keeps : (p : Place) (t : Token) → Keeps item.EndProgram p (task.end_program t)
end_program_keeps (Inside zero false []) (Word word.EndProgram) = refl
end_program_keeps (Inside zero false []) _ = tt
end_program_keeps _ t = tt

var_keeps : (p : Place) (t : Token) → Keeps item.Var p (task.var t)
var_keeps p (Word word.Var) = refl
var_keeps p _ = tt

colon_keeps : (p : Place) (t : Token) → Keeps item.Colon p (task.colon t)
colon_keeps p (Sign sign.Colon) = refl
colon_keeps p _ = tt

semicolon_keeps : (p : Place) (t : Token) → Keeps item.Semicolon p (task.semicolon t)
semicolon_keeps p (Sign sign.Semicolon) = refl
semicolon_keeps p _ = tt

open_keeps : (p : Place) (t : Token) → Keeps item.Open p (task.opens t)
open_keeps p (Sign sign.Open) = refl
open_keeps p _ = tt

close_keeps : (p : Place) (t : Token) → Keeps item.Close p (task.closes t)
close_keeps p (Sign sign.Close) = refl
close_keeps p _ = tt

gets_keep : (p : Place) (t : Token) → Keeps item.Gets p (task.gets t)
gets_keep p (Sign sign.Gets) = refl
gets_keep p _ = tt

object_keeps : (p : Place) (t : Token) → Keeps item.Object p (task.object t)
object_keeps p (Name n) = refl
object_keeps p _ = tt

declarations_keep : (p : Place) (t : Token) → Keeps item.Declarations p (task.declarations t)
declarations_keep Declaring (Name n) = refl
declarations_keep Declaring (Word word.EndVar) = refl
declarations_keep Declaring _ = tt
declarations_keep _ t = tt

kind_keeps : (o : Option BlockKind) → KeepsBy (Some Declaring) Declaring (option_map_or task.block o refuses)
kind_keeps (Some kind) = refl
kind_keeps None = tt

sort_keeps : (p : Place) (t : Token) → Keeps item.Sort p (task.sort t)
sort_keeps Declaring (Word word.Bool) = refl
sort_keeps Declaring (Word word.Dint) = refl
sort_keeps Declaring (Name n) = kind_keeps _
sort_keeps Declaring (Kind kind) = refl
sort_keeps Declaring _ = tt
sort_keeps _ t = tt

bool_start_keeps : (p : Place) (t : Token) → Keeps item.BoolStart p (task.bool_start t)
bool_start_keeps Declaring (Sign sign.Semicolon) = refl
bool_start_keeps Declaring (Sign sign.Gets) = refl
bool_start_keeps Declaring _ = tt
bool_start_keeps _ t = tt

truth_keeps : (p : Place) (t : Token) → Keeps item.Truth p (task.truth t)
truth_keeps Declaring (Word word.True) = refl
truth_keeps Declaring (Word word.False) = refl
truth_keeps Declaring _ = tt
truth_keeps _ t = tt

dint_start_keeps : (p : Place) (t : Token) → Keeps item.DintStart p (task.dint_start t)
dint_start_keeps Declaring (Sign sign.Semicolon) = refl
dint_start_keeps Declaring (Sign sign.Gets) = refl
dint_start_keeps Declaring _ = tt
dint_start_keeps _ t = tt

signed_keeps : (p : Place) (t : Token) → Keeps item.Signed p (task.signed t)
signed_keeps Declaring (Sign sign.Minus) = refl
signed_keeps Declaring (Number n) = refl
signed_keeps Declaring _ = tt
signed_keeps _ t = tt

negative_keeps : (p : Place) (t : Token) → Keeps item.Negative p (task.negative t)
negative_keeps Declaring (Number n) = refl
negative_keeps Declaring _ = tt
negative_keeps _ t = tt

passed_changed : (o : Option Place) (p : Place) (n : Note) → note_leads n p ≡ o → KeepsBy o p (passes n)
passed_changed (Some q) p n h = h
passed_changed None p n h = tt

executed_keeps : (p : Place) → Keeps item.Executed p (passes note.Executed)
executed_keeps (Inside (suc zero) false a) = refl
executed_keeps _ = tt

given_keeps : (p : Place) → Keeps item.Given p (passes note.Given)
given_keeps (Inside (suc zero) true a) = refl
given_keeps _ = tt

-- ---- the whole table

pub row_keeps : (i : Item) (p : Place) (t : Token) → Keeps i p (row_of i t)
unfolding row_of
row_keeps item.File p t = file_keeps p t
row_keeps item.Tasks p t = tasks_keep p t
row_keeps item.TaskName p t = task_name_keeps p t
row_keeps item.Var p t = var_keeps p t
row_keeps item.Declarations p t = declarations_keep p t
row_keeps item.Colon p t = colon_keeps p t
row_keeps item.Sort p t = sort_keeps p t
row_keeps item.BoolStart p t = bool_start_keeps p t
row_keeps item.Truth p t = truth_keeps p t
row_keeps item.DintStart p t = dint_start_keeps p t
row_keeps item.Signed p t = signed_keeps p t
row_keeps item.Negative p t = negative_keeps p t
row_keeps item.Open p t = open_keeps p t
row_keeps item.Object p t = object_keeps p t
row_keeps item.Close p t = close_keeps p t
row_keeps item.Semicolon p t = semicolon_keeps p t
row_keeps item.Gets p t = gets_keep p t
row_keeps item.EndProgram p t = end_program_keeps p t
row_keeps item.Statements p t = statements_keep p t
row_keeps item.BehindName p t = behind_name_keeps p t
row_keeps item.Execute p t = execute_keeps p t
row_keeps item.Executed p t = executed_keeps p
row_keeps item.Keys p t = keys_keep p t
row_keeps item.Key p t = key_keeps p t
row_keeps item.Mode p t = mode_keeps p t
row_keeps item.Master p t = master_keeps p t
row_keeps item.Given p t = given_keeps p
row_keeps item.SetEnd p t = set_end_keeps p t
row_keeps item.CallEnd p t = call_end_keeps p t
row_keeps item.Then p t = then_keeps p t
row_keeps item.Else p t = else_keeps p t
row_keeps item.EndIf p t = end_if_keeps p t
row_keeps item.Of p t = of_keeps p t
row_keeps item.Branches p t = branches_keep p t
row_keeps item.NegativeBranch p t = negative_branch_keeps p t
row_keeps item.EndCase p t = end_case_keeps p t
row_keeps item.Expr p t = unary_keeps expr.behind_conjunction (λ n keys a. refl) p t
row_keeps item.Conjunction p t = unary_keeps expr.behind_comparison (λ n keys a. refl) p t
row_keeps item.Comparison p t = unary_keeps expr.behind_sum (λ n keys a. refl) p t
row_keeps item.Sum p t = unary_keeps expr.behind_product (λ n keys a. refl) p t
row_keeps item.Product p t = unary_keeps expr.behind_unary (λ n keys a. refl) p t
row_keeps item.Unary p t = unary_keeps [] (λ n keys a. refl) p t
row_keeps item.Primary p t = primary_keeps [] (λ n keys a. refl) p t
row_keeps item.Dot p t = dot_keeps p t
row_keeps item.Flag p t = flag_keeps p t
row_keeps item.Parenthesis p t = parenthesis_keeps p t
row_keeps item.Products p t = products_keep p t
row_keeps item.Sums p t = sums_keep p t
row_keeps item.Comparisons p t = comparisons_keep p t
row_keeps item.Conjunctions p t = conjunctions_keep p t
row_keeps item.Disjunctions p t = disjunctions_keep p t
row_keeps item.Minus p t = passed_changed (changed p) p note.Minus refl
row_keeps item.Not p t = passed_changed (changed p) p note.Not refl
row_keeps (item.Join op) p t = passed_changed (joined p) p (note.Join op) refl
