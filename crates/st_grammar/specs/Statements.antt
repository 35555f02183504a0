-- The rows of statements in the table of the grammar. Above each part stands the line of the
-- grammar in docs/formats.md; `{x}` is x as often as it comes, `[x]` is x or nothing. IEC 61131-3,
-- in this project's profile.
use Rattle.std.specs.Prelude.{ℕ, true, false, if◌then◌else◌, codes, List, [], ◌∷◌}
use Rattle.line_text.specs.Texts.{says}
use Rattle.st_grammar.specs.Lines.{Line, takes, passes, refuses}
use Rattle.st_grammar.specs.declared.item.Item.{Item}
use Rattle.st_grammar.specs.declared.item.Item.TheVariants as item
use Rattle.st_grammar.specs.declared.note.Note.TheVariants as note
use Rattle.st_tokens.specs.declared.token.Sign.TheVariants as sign
use Rattle.st_tokens.specs.declared.token.Token.{Token}
use Rattle.st_tokens.specs.declared.token.Token.TheVariants.{Name, Number, Word, Sign}
use Rattle.st_tokens.specs.declared.token.Word.TheVariants as word

-- ---- stmt = name := expr ; | name ( execute := expr {, key := value} ) ;
-- | IF expr THEN {stmt} [ELSE {stmt}] END_IF ;
-- | CASE expr OF {[-] number : {stmt}} [ELSE {stmt}] END_CASE ;

abbrev pub statements : Token → Line
statements (Name n) = takes (note.Statement n) (item.BehindName ∷ item.Statements ∷ [])
statements (Word word.If) = takes note.If
    (item.Expr ∷ item.Then ∷ item.Statements ∷ item.Else ∷ item.Semicolon ∷ item.Statements ∷ [])
statements (Word word.Case) = takes note.Case
    (item.Expr ∷ item.Of ∷ item.Branches ∷ item.Semicolon ∷ item.Statements ∷ [])
statements _ = passes note.Nothing

abbrev pub behind_name : Token → Line
behind_name (Sign sign.Gets) = takes note.Sets (item.Expr ∷ item.SetEnd ∷ [])
behind_name (Sign sign.Open) = takes note.Calls
    (item.Execute ∷ item.Gets ∷ item.Expr ∷ item.Executed ∷ item.Keys ∷ item.CallEnd ∷ [])
behind_name _ = refuses

abbrev pub set_end : Token → Line
set_end (Sign sign.Semicolon) = takes note.SetEnd []
set_end _ = refuses

abbrev pub execute : Token → Line
execute (Name n) = if says n (codes "execute") then takes note.Nothing [] else refuses
execute _ = refuses

abbrev pub keys : Token → Line
keys (Sign sign.Comma) = takes note.Nothing (item.Key ∷ item.Keys ∷ [])
keys (Sign sign.Close) = takes note.Nothing []
keys _ = refuses

-- a word is the value of mode and of master, an expression that of each other key
abbrev pub value_of : List ℕ → List Item
value_of key =
    if says key (codes "mode") then item.Mode ∷ []
    else if says key (codes "master") then item.Master ∷ []
    else item.Expr ∷ item.Given ∷ []

abbrev pub key : Token → Line
key (Name n) = takes (note.Key n) (item.Gets ∷ value_of n)
key _ = refuses

abbrev pub mode : Token → Line
mode (Name n) = takes (note.Mode n) []
mode _ = refuses

abbrev pub master : Token → Line
master (Name n) = takes (note.Master n) []
master _ = refuses

abbrev pub call_end : Token → Line
call_end (Sign sign.Semicolon) = takes note.CallEnd []
call_end _ = refuses

abbrev pub then_ : Token → Line
then_ (Word word.Then) = takes note.Then []
then_ _ = refuses

abbrev pub else_ : Token → Line
else_ (Word word.Else) = takes note.Else (item.Statements ∷ item.EndIf ∷ [])
else_ (Word word.EndIf) = takes (note.NoElse false) []
else_ _ = refuses

abbrev pub end_if : Token → Line
end_if (Word word.EndIf) = takes (note.Closes false) []
end_if _ = refuses

abbrev pub of : Token → Line
of (Word word.Of) = takes note.Of []
of _ = refuses

abbrev pub branches : Token → Line
branches (Sign sign.Minus) = takes note.Nothing
    (item.NegativeBranch ∷ item.Colon ∷ item.Statements ∷ item.Branches ∷ [])
branches (Number n) = takes (note.Branch false n)
    (item.Colon ∷ item.Statements ∷ item.Branches ∷ [])
branches (Word word.Else) = takes note.Else (item.Statements ∷ item.EndCase ∷ [])
branches (Word word.EndCase) = takes (note.NoElse true) []
branches _ = refuses

abbrev pub negative_branch : Token → Line
negative_branch (Number n) = takes (note.Branch true n) []
negative_branch _ = refuses

abbrev pub end_case : Token → Line
end_case (Word word.EndCase) = takes (note.Closes true) []
end_case _ = refuses
