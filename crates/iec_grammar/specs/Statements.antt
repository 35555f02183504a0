-- The rows of statements in the table of the grammar. Above each part stands the line of the
-- grammar; `{x}` is x as often as it comes, `[x]` is x or nothing. IEC 61131-3, in this project's
-- profile.
use Rattle.std.specs.Prelude.{Bool, true, false, Some, None, [], ◌∷◌}
use Rattle.iec_grammar.specs.Constants.{int}
use Rattle.iec_grammar.specs.Lines.{Line, takes, passes, refuses}
use Rattle.iec_grammar.specs.Places.{behind_name, behind_word}
use Rattle.iec_grammar.specs.declared.item.Item.{Item}
use Rattle.iec_grammar.specs.declared.item.Item.TheVariants as item
use Rattle.iec_tokens.specs.declared.token.Sign.TheVariants as sign
use Rattle.iec_tokens.specs.declared.token.Token.{Token}
use Rattle.iec_tokens.specs.declared.token.Token.TheVariants.{Name, Word, Sign}
use Rattle.iec_tokens.specs.declared.token.Word.TheVariants as word
use Rattle.iec_tree.specs.declared.node.Part.{Part}
use Rattle.iec_tree.specs.declared.node.Part.TheVariants as part

-- ---- stmt = IF expr THEN {stmt} {ELSIF expr THEN {stmt}} [ELSE {stmt}] END_IF [;]
-- | CASE expr OF {label {, label} : {stmt}} [ELSE {stmt}] END_CASE [;]
-- | FOR name := int TO int [BY int] DO {stmt} END_FOR [;] | EXIT ; | RETURN ; | ;

-- an IF, a CASE and a FOR, and what is expected after each
abbrev pub if_line : Bool → Item → Line
if_line l behind = takes (Some part.If)
    (item.Expression ∷ item.Then ∷ item.Statements l ∷ item.Else l ∷ item.Closed ∷ behind ∷ [])

abbrev pub case_line : Bool → Item → Line
case_line l behind = takes (Some part.Case)
    (item.Expression ∷ item.Of ∷ item.Branches l ∷ item.Closed ∷ behind ∷ [])

abbrev pub for_line : Item → Line
for_line behind = takes (Some part.For)
    (item.Name ∷ item.Gets ∷ item.Int ∷ item.To ∷ item.Int ∷ item.By ∷ item.Statements true ∷
    item.EndFor ∷ item.Closed ∷ behind ∷ [])

-- EXIT stands in a FOR alone
abbrev pub exit_line : Bool → Item → Line → Line
exit_line true behind other = takes (Some part.Exit) (item.Semicolon ∷ behind ∷ [])
exit_line false behind other = other

-- a statement that begins with a word or is empty, what is expected after it, and the line of
-- another token
abbrev pub statement : Bool → Item → Line → Token → Line
statement l behind other (Word word.If) = if_line l behind
statement l behind other (Word word.Case) = case_line l behind
statement l behind other (Word word.For) = for_line behind
statement l behind other (Word word.Exit) = exit_line l behind other
statement l behind other (Word word.Return) = takes (Some part.Return)
    (item.Semicolon ∷ behind ∷ [])
statement l behind other (Sign sign.Semicolon) = takes (Some part.Empty) (behind ∷ [])
statement l behind other _ = other

abbrev pub statements : Bool → Token → Line
statements l (Name n) = takes (Some (part.Name n)) (item.BehindName ∷ item.Statements l ∷ [])
statements l t = statement l (item.Statements l) (passes None) t

abbrev pub closed : Token → Line
closed (Sign sign.Semicolon) = takes None []
closed _ = passes None

-- ---- IF

abbrev pub then_ : Token → Line
then_ (Word word.Then) = takes (Some part.Then) []
then_ _ = refuses

abbrev pub else_ : Bool → Token → Line
else_ l (Word word.Elsif) = takes (Some part.Elsif)
    (item.Expression ∷ item.Then ∷ item.Statements l ∷ item.Else l ∷ [])
else_ l (Word word.Else) = takes (Some part.Else) (item.Statements l ∷ item.EndIf ∷ [])
else_ l (Word word.EndIf) = takes (Some part.IfEnd) []
else_ l _ = refuses

abbrev pub end_if : Token → Line
end_if (Word word.EndIf) = takes (Some part.IfEnd) []
end_if _ = refuses

-- ---- CASE, label = int [.. int]

abbrev pub of_ : Token → Line
of_ (Word word.Of) = takes (Some part.Of) []
of_ _ = refuses

abbrev pub branches : Bool → Token → Line
branches l (Word word.Else) = takes (Some part.Else) (item.Statements l ∷ item.EndCase ∷ [])
branches l (Word word.EndCase) = takes (Some part.CaseEnd) []
branches l t = int (item.LabelEnd ∷ item.Labels ∷ item.Branch l ∷ []) t

-- a name in a branch begins a statement or the next label
abbrev pub branch : Bool → Token → Line
branch l (Name n) = takes (Some (part.Name n)) (item.BehindEither ∷ item.Branch l ∷ [])
branch l t = statement l (item.Branch l) (branches l t) t

abbrev pub label_end : Token → Line
label_end (Sign sign.UpTo) = takes None (item.Int ∷ item.Range ∷ [])
label_end _ = passes (Some part.Label)

abbrev pub labels : Token → Line
labels (Sign sign.Comma) = takes None (item.Int ∷ item.LabelEnd ∷ item.Labels ∷ [])
labels (Sign sign.Colon) = takes (Some part.Branch) []
labels _ = refuses

-- what is in front begins a label, as this part
abbrev pub behind_label : Part → Token → Line
behind_label p (Sign sign.UpTo) = takes (Some p) (item.Int ∷ item.Range ∷ item.Labels ∷ [])
behind_label p (Sign sign.Comma) = takes (Some p)
    (item.Label ∷ item.Int ∷ item.LabelEnd ∷ item.Labels ∷ [])
behind_label p (Sign sign.Colon) = takes (Some p) (item.Label ∷ item.BranchBegins ∷ [])
behind_label p _ = refuses

abbrev pub behind_either : Token → Line
behind_either (Sign sign.Gets) = behind_name (Sign sign.Gets)
behind_either (Sign sign.OpenIndex) = behind_name (Sign sign.OpenIndex)
behind_either (Sign sign.Open) = behind_name (Sign sign.Open)
behind_either (Sign sign.Dot) = takes None (item.Word ∷ item.BehindEitherWord ∷ [])
behind_either t = behind_label part.Constant t

abbrev pub behind_either_word : Token → Line
behind_either_word (Sign sign.Gets) = behind_word (Sign sign.Gets)
behind_either_word t = behind_label part.ConstantWord t

abbrev pub end_case : Token → Line
end_case (Word word.EndCase) = takes (Some part.CaseEnd) []
end_case _ = refuses

-- ---- FOR

abbrev pub by_ : Token → Line
by_ (Word word.By) = takes None (item.Int ∷ item.Do ∷ [])
by_ (Word word.Do) = takes (Some (part.Do false)) []
by_ _ = refuses

abbrev pub do_ : Token → Line
do_ (Word word.Do) = takes (Some (part.Do true)) []
do_ _ = refuses

abbrev pub end_for : Token → Line
end_for (Word word.EndFor) = takes (Some part.ForEnd) []
end_for _ = refuses
