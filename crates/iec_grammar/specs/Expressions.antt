-- The rows of expressions in the table of the grammar. Above each part stands the line of the
-- grammar; `{x}` is x as often as it comes, `[x]` is x or nothing. IEC 61131-3, in this project's
-- profile.
use Rattle.std.specs.Prelude.{true, false, Option, Some, None, List, [], ◌∷◌}
use Rattle.iec_grammar.specs.Lines.{Line, takes, passes, refuses, misnamed}
use Rattle.iec_grammar.specs.declared.item.Item.{Item}
use Rattle.iec_grammar.specs.declared.item.Item.TheVariants as item
use Rattle.iec_grammar.specs.declared.item.Level.{Level}
use Rattle.iec_grammar.specs.declared.item.Level.TheVariants as level
use Rattle.iec_tokens.specs.declared.token.Sign.TheVariants as sign
use Rattle.iec_tokens.specs.declared.token.Token.{Token}
use Rattle.iec_tokens.specs.declared.token.Sign.{Sign}
use Rattle.iec_tokens.specs.declared.token.Token.TheVariants as token
use Rattle.iec_tokens.specs.declared.token.Word.{Word}
use Rattle.iec_tokens.specs.declared.token.Word.TheVariants as word
use Rattle.iec_tree.specs.Functions.{function_named}
use Rattle.iec_tree.specs.declared.function.Function.{Function}
use Rattle.iec_tree.specs.declared.node.Part.TheVariants as part
use Rattle.iec_tree.specs.declared.operator.Operator.{Operator}
use Rattle.iec_tree.specs.declared.operator.Operator.TheVariants as operator

-- ---- expr = xor {OR xor}   xor = conj {XOR conj}   conj = equal {(AND | &) equal}
-- equal = cmp {(= | <>) cmp}   cmp = sum {(< | <= | > | >=) sum}   sum = prod {(+ | -) prod}
-- prod = un {(* | / | MOD) un}

-- the operator that a word is at each level
abbrev pub word_at : Level → Word → Option Operator
word_at level.Disjunction word.Or = Some operator.Or
word_at level.Exclusion word.Xor = Some operator.Xor
word_at level.Conjunction word.And = Some operator.And
word_at level.Product word.Mod = Some operator.Mod
word_at _ _ = None

-- the operator that a sign is at each level
abbrev pub sign_at : Level → Sign → Option Operator
sign_at level.Conjunction sign.And = Some operator.And
sign_at level.Equality sign.Equal = Some operator.Equal
sign_at level.Equality sign.Different = Some operator.Different
sign_at level.Comparison sign.Below = Some operator.Below
sign_at level.Comparison sign.AtMost = Some operator.AtMost
sign_at level.Comparison sign.Above = Some operator.Above
sign_at level.Comparison sign.AtLeast = Some operator.AtLeast
sign_at level.Sum sign.Plus = Some operator.Plus
sign_at level.Sum sign.Minus = Some operator.Minus
sign_at level.Product sign.Times = Some operator.Times
sign_at level.Product sign.Over = Some operator.Over
sign_at _ _ = None

-- the operator that a token is at each level
abbrev pub operator_at : Level → Token → Option Operator
operator_at l (token.Word w) = word_at l w
operator_at l (token.Sign s) = sign_at l s
operator_at l _ = None

-- the levels that bind tighter than each, which come first after an un
abbrev pub tighter : Level → List Item
tighter level.Product = []
tighter level.Sum = item.Operators level.Product ∷ []
tighter level.Comparison = item.Operators level.Product ∷ item.Operators level.Sum ∷ []
tighter level.Equality =
    item.Operators level.Product ∷ item.Operators level.Sum ∷ item.Operators level.Comparison ∷ []
tighter level.Conjunction =
    item.Operators level.Product ∷ item.Operators level.Sum ∷ item.Operators level.Comparison ∷
    item.Operators level.Equality ∷ []
tighter level.Exclusion =
    item.Operators level.Product ∷ item.Operators level.Sum ∷ item.Operators level.Comparison ∷
    item.Operators level.Equality ∷ item.Operators level.Conjunction ∷ []
tighter level.Disjunction =
    item.Operators level.Product ∷ item.Operators level.Sum ∷ item.Operators level.Comparison ∷
    item.Operators level.Equality ∷ item.Operators level.Conjunction ∷
    item.Operators level.Exclusion ∷ []

-- all levels, which may follow an un that begins an expression
abbrev pub levels : List Item
levels =
    item.Operators level.Product ∷ item.Operators level.Sum ∷ item.Operators level.Comparison ∷
    item.Operators level.Equality ∷ item.Operators level.Conjunction ∷
    item.Operators level.Exclusion ∷ item.Operators level.Disjunction ∷ []

-- an operator and its operand
abbrev pub joined : Level → Option Operator → Line
joined l (Some op) = takes None (item.Operand l ∷ item.Join op ∷ item.Operators l ∷ [])
joined l None = passes None

abbrev pub operators : Level → Token → Line
operators l t = joined l (operator_at l t)

-- ---- un = [- | NOT] prim
-- prim = literal | TRUE | FALSE | name | name "[" expr "]" | name . member
-- | FUNCTION ( expr {, expr} ) | ( expr )

-- a name, which may be that of a function
abbrev pub operand_named : Option Function → Item
operand_named (Some f) = item.BehindFunction f
operand_named None = item.BehindOperand

-- a prim, and what is expected after it
abbrev pub primary : List Item → Token → Line
primary behind (token.Number n) = takes (Some (part.Number false n)) behind
primary behind (token.Word word.True) = takes (Some (part.Truth true)) behind
primary behind (token.Word word.False) = takes (Some (part.Truth false)) behind
primary behind (token.Name n) = takes (Some (part.Name n)) (operand_named (function_named n) ∷ behind)
primary behind (token.Sign sign.Open) = takes (Some part.Parenthesis)
    (item.Expression ∷ item.Parenthesis ∷ behind)
primary behind _ = refuses

-- an un, and what is expected after it
abbrev pub unary : List Item → Token → Line
unary behind (token.Sign sign.Minus) = takes None (item.NegativePrimary ∷ behind)
unary behind (token.Word word.Not) = takes None (item.Primary ∷ item.Not ∷ behind)
unary behind t = primary behind t

-- a minus belongs to a number that stands directly after it
abbrev pub negative_primary : Token → Line
negative_primary (token.Number n) = takes (Some (part.Number true n)) []
negative_primary t = primary (item.Negative ∷ []) t

-- a name before `(` is that of a function
abbrev pub behind_operand : Token → Line
behind_operand (token.Sign sign.OpenIndex) = takes (Some part.Index)
    (item.Expression ∷ item.Element ∷ [])
behind_operand (token.Sign sign.Open) = misnamed
behind_operand (token.Sign sign.Dot) = takes None (item.Word ∷ item.Member ∷ [])
behind_operand _ = passes (Some part.Variable)

abbrev pub behind_function : Function → Token → Line
behind_function f (token.Sign sign.Open) = takes (Some (part.Arguments f))
    (item.Expression ∷ item.FunctionArguments f ∷ [])
behind_function f t = behind_operand t

abbrev pub function_arguments : Function → Token → Line
function_arguments f (token.Sign sign.Comma) = takes (Some part.Comma)
    (item.Expression ∷ item.FunctionArguments f ∷ [])
function_arguments f (token.Sign sign.Close) = takes (Some (part.Function f)) []
function_arguments f _ = refuses

abbrev pub element : Token → Line
element (token.Sign sign.CloseIndex) = takes (Some part.Element) []
element _ = refuses

abbrev pub parenthesis : Token → Line
parenthesis (token.Sign sign.Close) = takes (Some part.ParenthesisEnd) []
parenthesis _ = refuses
