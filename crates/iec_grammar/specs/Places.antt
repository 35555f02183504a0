-- The rows of places and calls in the table of the grammar. Above each part stands the line of the
-- grammar; `{x}` is x as often as it comes, `[x]` is x or nothing. IEC 61131-3, in this project's
-- profile.
use Rattle.std.specs.Prelude.{Some, None, [], ◌∷◌}
use Rattle.iec_grammar.specs.Lines.{Line, takes, passes, refuses}
use Rattle.iec_grammar.specs.declared.item.Item.TheVariants as item
use Rattle.iec_tokens.specs.declared.token.Sign.TheVariants as sign
use Rattle.iec_tokens.specs.declared.token.Token.{Token}
use Rattle.iec_tokens.specs.declared.token.Token.TheVariants.{Name, Sign}
use Rattle.iec_tree.specs.declared.node.Part.TheVariants as part

-- ---- stmt = place := expr ; | name ( [arg {, arg}] ) ;
-- place = name | name "[" expr "]" | name . input

abbrev pub behind_name : Token → Line
behind_name (Sign sign.Gets) = takes (Some part.PlaceVariable) (item.Expression ∷ item.Assign ∷ [])
behind_name (Sign sign.OpenIndex) = takes (Some part.PlaceIndex)
    (item.Expression ∷ item.PlaceElement ∷ item.Gets ∷ item.Expression ∷ item.Assign ∷ [])
behind_name (Sign sign.Dot) = takes None (item.Word ∷ item.BehindWord ∷ [])
behind_name (Sign sign.Open) = takes (Some part.Call) (item.FirstArgument ∷ item.Semicolon ∷ [])
behind_name _ = refuses

abbrev pub behind_word : Token → Line
behind_word (Sign sign.Gets) = takes (Some part.PlaceMember) (item.Expression ∷ item.Assign ∷ [])
behind_word _ = refuses

abbrev pub assign : Token → Line
assign (Sign sign.Semicolon) = takes (Some part.Assign) []
assign _ = refuses

abbrev pub place_element : Token → Line
place_element (Sign sign.CloseIndex) = takes (Some part.PlaceElement) []
place_element _ = refuses

-- ---- arg = input := expr | output => place

abbrev pub argument : Token → Line
argument (Name n) = takes (Some (part.Argument n)) (item.BehindArgument ∷ [])
argument _ = refuses

abbrev pub first_argument : Token → Line
first_argument (Name n) = takes (Some (part.Argument n))
    (item.BehindArgument ∷ item.Arguments ∷ [])
first_argument (Sign sign.Close) = takes (Some part.CallEnd) []
first_argument _ = refuses

abbrev pub arguments : Token → Line
arguments (Sign sign.Comma) = takes None (item.Argument ∷ item.Arguments ∷ [])
arguments (Sign sign.Close) = takes (Some part.CallEnd) []
arguments _ = refuses

abbrev pub behind_argument : Token → Line
behind_argument (Sign sign.Gets) = takes None (item.Expression ∷ item.Input ∷ [])
behind_argument (Sign sign.Into) = takes None (item.Target ∷ item.Output ∷ [])
behind_argument _ = refuses

abbrev pub target : Token → Line
target (Name n) = takes (Some (part.Name n)) (item.BehindTarget ∷ [])
target _ = refuses

abbrev pub behind_target : Token → Line
behind_target (Sign sign.OpenIndex) = takes (Some part.PlaceIndex)
    (item.Expression ∷ item.PlaceElement ∷ [])
behind_target (Sign sign.Dot) = takes None (item.Word ∷ item.PlaceMember ∷ [])
behind_target _ = passes (Some part.PlaceVariable)
