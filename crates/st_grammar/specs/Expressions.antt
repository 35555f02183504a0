-- The rows of expressions in the table of the grammar. Above each part stands the line of the
-- grammar in docs/formats.md; `{x}` is x as often as it comes, `[x]` is x or nothing. IEC 61131-3,
-- in this project's profile.
use Rattle.std.specs.Prelude.{true, false, List, [], ◌∷◌}
use Rattle.std.specs.Option.{option_map_or}
use Rattle.plc_types.specs.Flags.{flag_named}
use Rattle.st_grammar.specs.Lines.{Line, takes, passes, refuses}
use Rattle.st_grammar.specs.declared.item.Item.{Item}
use Rattle.st_grammar.specs.declared.item.Item.TheVariants as item
use Rattle.st_grammar.specs.declared.note.Note.TheVariants as note
use Rattle.st_tokens.specs.declared.token.Sign.TheVariants as sign
use Rattle.st_tokens.specs.declared.token.Token.{Token}
use Rattle.st_tokens.specs.declared.token.Token.TheVariants.{Name, Number, Word, Sign}
use Rattle.st_tokens.specs.declared.token.Word.TheVariants as word
use Rattle.st_tree.specs.declared.expression.Operator.TheVariants as operator

-- ---- expr = conj {OR conj}   conj = cmp {AND cmp}
-- cmp = sum [(= | <> | < | <= | > | >=) sum]
-- sum = prod {(+ | -) prod}   prod = un {* un}   un = [- | NOT] prim

-- what may stand after an un that begins a prod, a sum, a cmp, a conj, an expr
abbrev pub behind_unary : List Item
behind_unary = item.Products ∷ []

abbrev pub behind_product : List Item
behind_product = item.Products ∷ item.Sums ∷ []

abbrev pub behind_sum : List Item
behind_sum = item.Products ∷ item.Sums ∷ item.Comparisons ∷ []

abbrev pub behind_comparison : List Item
behind_comparison = item.Products ∷ item.Sums ∷ item.Comparisons ∷ item.Conjunctions ∷ []

abbrev pub behind_conjunction : List Item
behind_conjunction =
    item.Products ∷ item.Sums ∷ item.Comparisons ∷ item.Conjunctions ∷ item.Disjunctions ∷ []

-- ---- prim = number | TRUE | FALSE | name | name . flag | ( expr )

-- a prim, and what is expected after it
abbrev pub primary : List Item → Token → Line
primary behind (Number n) = takes (note.Number n) behind
primary behind (Word word.True) = takes (note.Truth true) behind
primary behind (Word word.False) = takes (note.Truth false) behind
primary behind (Name n) = takes (note.Name n) (item.Dot ∷ behind)
primary behind (Sign sign.Open) = takes note.Opens (item.Expr ∷ item.Parenthesis ∷ behind)
primary behind _ = refuses

-- an un, and what is expected after it
abbrev pub unary : List Item → Token → Line
unary behind (Sign sign.Minus) = takes note.Nothing (item.Primary ∷ item.Minus ∷ behind)
unary behind (Word word.Not) = takes note.Nothing (item.Primary ∷ item.Not ∷ behind)
unary behind t = primary behind t

abbrev pub products : Token → Line
products (Sign sign.Times) = takes note.Nothing
    (item.Unary ∷ item.Join operator.Times ∷ item.Products ∷ [])
products _ = passes note.Nothing

abbrev pub sums : Token → Line
sums (Sign sign.Plus) = takes note.Nothing
    (item.Product ∷ item.Join operator.Plus ∷ item.Sums ∷ [])
sums (Sign sign.Minus) = takes note.Nothing
    (item.Product ∷ item.Join operator.Minus ∷ item.Sums ∷ [])
sums _ = passes note.Nothing

abbrev pub comparisons : Token → Line
comparisons (Sign sign.Equal) = takes note.Nothing (item.Sum ∷ item.Join operator.Equal ∷ [])
comparisons (Sign sign.Different) = takes note.Nothing
    (item.Sum ∷ item.Join operator.Different ∷ [])
comparisons (Sign sign.Below) = takes note.Nothing (item.Sum ∷ item.Join operator.Below ∷ [])
comparisons (Sign sign.AtMost) = takes note.Nothing (item.Sum ∷ item.Join operator.AtMost ∷ [])
comparisons (Sign sign.Above) = takes note.Nothing (item.Sum ∷ item.Join operator.Above ∷ [])
comparisons (Sign sign.AtLeast) = takes note.Nothing (item.Sum ∷ item.Join operator.AtLeast ∷ [])
comparisons _ = passes note.Nothing

abbrev pub conjunctions : Token → Line
conjunctions (Word word.And) = takes note.Nothing
    (item.Comparison ∷ item.Join operator.And ∷ item.Conjunctions ∷ [])
conjunctions _ = passes note.Nothing

abbrev pub disjunctions : Token → Line
disjunctions (Word word.Or) = takes note.Nothing
    (item.Conjunction ∷ item.Join operator.Or ∷ item.Disjunctions ∷ [])
disjunctions _ = passes note.Nothing

abbrev pub dot : Token → Line
dot (Sign sign.Dot) = takes note.Nothing (item.Flag ∷ [])
dot _ = passes note.Variable

abbrev pub flag : Token → Line
flag (Name n) = option_map_or (λ f. takes (note.Flag f) []) (flag_named n) refuses
flag _ = refuses

abbrev pub parenthesis : Token → Line
parenthesis (Sign sign.Close) = takes note.ClosesParenthesis []
parenthesis _ = refuses
