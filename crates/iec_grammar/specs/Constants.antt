-- The rows of constants in the table of the grammar, and of words and signs alone. Above each part
-- stands the line of the grammar; `{x}` is x as often as it comes, `[x]` is x or nothing. IEC
-- 61131-3, in this project's profile.
use Rattle.std.specs.Prelude.{true, false, Some, None, List, [], ◌∷◌}
use Rattle.iec_grammar.specs.Lines.{Line, takes, passes, refuses}
use Rattle.iec_grammar.specs.declared.item.Item.{Item}
use Rattle.iec_grammar.specs.declared.item.Item.TheVariants as item
use Rattle.iec_tokens.specs.declared.token.Number.TheVariants as number
use Rattle.iec_tokens.specs.declared.token.Sign.TheVariants as sign
use Rattle.iec_tokens.specs.declared.token.Token.{Token}
use Rattle.iec_tokens.specs.declared.token.Token.TheVariants.{Name, Number, Word, Sign}
use Rattle.iec_tokens.specs.declared.token.Word.TheVariants as word
use Rattle.iec_tree.specs.declared.node.Part.TheVariants as part

-- ---- int = [-] (whole number | known)   known = name | name . word

abbrev pub int : List Item → Token → Line
int behind (Sign sign.Minus) = takes None (item.NegativeInt ∷ behind)
int behind (Number (number.Whole n)) = takes (Some (part.Number false (number.Whole n))) behind
int behind (Name n) = takes (Some (part.Name n)) (item.BehindConstant ∷ behind)
int behind _ = refuses

abbrev pub negative_int : Token → Line
negative_int (Number (number.Whole n)) = takes (Some (part.Number true (number.Whole n))) []
negative_int (Name n) = takes (Some (part.Name n)) (item.BehindConstant ∷ item.Negative ∷ [])
negative_int _ = refuses

abbrev pub behind_constant : Token → Line
behind_constant (Sign sign.Dot) = takes None (item.Word ∷ item.ConstantWord ∷ [])
behind_constant _ = passes (Some part.Constant)

-- ---- const = [-] literal | TRUE | FALSE | [-] known

abbrev pub constant : List Item → Token → Line
constant behind (Sign sign.Minus) = takes None (item.NegativeConstant ∷ behind)
constant behind (Number n) = takes (Some (part.Number false n)) behind
constant behind (Word word.True) = takes (Some (part.Truth true)) behind
constant behind (Word word.False) = takes (Some (part.Truth false)) behind
constant behind (Name n) = takes (Some (part.Name n)) (item.BehindConstant ∷ behind)
constant behind _ = refuses

abbrev pub negative_constant : Token → Line
negative_constant (Number n) = takes (Some (part.Number true n)) []
negative_constant (Name n) = takes (Some (part.Name n)) (item.BehindConstant ∷ item.Negative ∷ [])
negative_constant _ = refuses

-- ---- a word or a sign alone

abbrev pub name : Token → Line
name (Name n) = takes (Some (part.Name n)) []
name _ = refuses

abbrev pub word_behind : Token → Line
word_behind (Name n) = takes (Some (part.Word n)) []
word_behind _ = refuses

abbrev pub colon : Token → Line
colon (Sign sign.Colon) = takes None []
colon _ = refuses

abbrev pub semicolon : Token → Line
semicolon (Sign sign.Semicolon) = takes None []
semicolon _ = refuses

abbrev pub gets : Token → Line
gets (Sign sign.Gets) = takes None []
gets _ = refuses

abbrev pub opens : Token → Line
opens (Sign sign.Open) = takes None []
opens _ = refuses

abbrev pub closes : Token → Line
closes (Sign sign.Close) = takes None []
closes _ = refuses

abbrev pub opens_index : Token → Line
opens_index (Sign sign.OpenIndex) = takes None []
opens_index _ = refuses

abbrev pub closes_index : Token → Line
closes_index (Sign sign.CloseIndex) = takes None []
closes_index _ = refuses

abbrev pub up_to : Token → Line
up_to (Sign sign.UpTo) = takes None []
up_to _ = refuses

abbrev pub of_ : Token → Line
of_ (Word word.Of) = takes None []
of_ _ = refuses

abbrev pub to_ : Token → Line
to_ (Word word.To) = takes None []
to_ _ = refuses
