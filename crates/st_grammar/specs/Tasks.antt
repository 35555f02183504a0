-- The rows of tasks and declarations in the table of the grammar. Above each part stands the line
-- of the grammar in docs/formats.md; `{x}` is x as often as it comes, `[x]` is x or nothing. IEC
-- 61131-3, in this project's profile.
use Rattle.std.specs.Prelude.{true, false, [], ◌∷◌}
use Rattle.std.specs.Option.{option_map_or}
use Rattle.plc_types.specs.declared.kind.BlockKind.{BlockKind}
use Rattle.plc_types.specs.KindNames.{kind_in}
use Rattle.st_grammar.specs.Lines.{Line, takes, refuses}
use Rattle.st_grammar.specs.declared.item.Item.TheVariants as item
use Rattle.st_grammar.specs.declared.note.Note.TheVariants as note
use Rattle.st_tokens.specs.declared.token.Sign.TheVariants as sign
use Rattle.st_tokens.specs.declared.token.Token.{Token}
use Rattle.st_tokens.specs.declared.token.Token.TheVariants.{Name, Kind, Number, Word, Sign, End}
use Rattle.st_tokens.specs.declared.token.Word.TheVariants as word

-- ---- file = task {task}
-- task = PROGRAM name VAR {decl} END_VAR {stmt} END_PROGRAM

abbrev pub file : Token → Line
file (Word word.Program) = takes note.Program
    (item.TaskName ∷ item.Var ∷ item.Declarations ∷ item.Statements ∷ item.EndProgram ∷ item.Tasks ∷ [])
file _ = refuses

abbrev pub tasks : Token → Line
tasks End = takes note.End []
tasks t = file t

abbrev pub task_name : Token → Line
task_name (Name n) = takes (note.TaskName n) []
task_name _ = refuses

abbrev pub end_program : Token → Line
end_program (Word word.EndProgram) = takes note.EndProgram []
end_program _ = refuses

-- ---- a word or a sign alone

abbrev pub var : Token → Line
var (Word word.Var) = takes note.Nothing []
var _ = refuses

abbrev pub colon : Token → Line
colon (Sign sign.Colon) = takes note.Nothing []
colon _ = refuses

abbrev pub semicolon : Token → Line
semicolon (Sign sign.Semicolon) = takes note.Nothing []
semicolon _ = refuses

abbrev pub opens : Token → Line
opens (Sign sign.Open) = takes note.Nothing []
opens _ = refuses

abbrev pub closes : Token → Line
closes (Sign sign.Close) = takes note.Nothing []
closes _ = refuses

abbrev pub gets : Token → Line
gets (Sign sign.Gets) = takes note.Nothing []
gets _ = refuses

-- ---- decl = name : BOOL [:= TRUE | := FALSE] ; | name : DINT [:= [-] number] ;
-- | name : KIND ( object ) ;

abbrev pub declarations : Token → Line
declarations (Name n) = takes (note.Declares n) (item.Colon ∷ item.Sort ∷ item.Declarations ∷ [])
declarations (Word word.EndVar) = takes note.Body []
declarations _ = refuses

abbrev pub block : BlockKind → Line
block kind = takes (note.Block kind) (item.Open ∷ item.Object ∷ item.Close ∷ item.Semicolon ∷ [])

abbrev pub sort : Token → Line
sort (Word word.Bool) = takes note.Nothing (item.BoolStart ∷ [])
sort (Word word.Dint) = takes note.Nothing (item.DintStart ∷ [])
sort (Name n) = option_map_or block (kind_in 2 n) refuses
sort (Kind kind) = block kind
sort _ = refuses

abbrev pub bool_start : Token → Line
bool_start (Sign sign.Semicolon) = takes (note.Bool false) []
bool_start (Sign sign.Gets) = takes note.Nothing (item.Truth ∷ item.Semicolon ∷ [])
bool_start _ = refuses

abbrev pub truth : Token → Line
truth (Word word.True) = takes (note.Bool true) []
truth (Word word.False) = takes (note.Bool false) []
truth _ = refuses

abbrev pub dint_start : Token → Line
dint_start (Sign sign.Semicolon) = takes (note.Dint false 0) []
dint_start (Sign sign.Gets) = takes note.Nothing (item.Signed ∷ item.Semicolon ∷ [])
dint_start _ = refuses

abbrev pub signed : Token → Line
signed (Sign sign.Minus) = takes note.Nothing (item.Negative ∷ [])
signed (Number n) = takes (note.Dint false n) []
signed _ = refuses

abbrev pub negative : Token → Line
negative (Number n) = takes (note.Dint true n) []
negative _ = refuses

abbrev pub object : Token → Line
object (Name n) = takes (note.Object n) []
object _ = refuses
