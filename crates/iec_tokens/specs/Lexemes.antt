-- The lexeme at the front of a text. IEC 61131-3.
use Rattle.std.specs.Prelude.{ℕ, ◌+◌, ◌-◌, ◌==◌, not, Bool, if◌then◌else◌, codes, nat_eq, Option, Some, None, List, [], ◌∷◌, length, drop}
use Rattle.std.specs.List.{prefix_len, starts_with, take_while}
use Rattle.std.specs.Option.{option_map_or}
use Rattle.iec_tokens.specs.Bytes.{begins_word, is_digit, is_gap, is_name_byte, stands_in}
use Rattle.iec_tokens.specs.Comments.{comment_length}
use Rattle.iec_tokens.specs.Names.{is_name}
use Rattle.iec_tokens.specs.Numbers.{hexadecimal_token, number_token, written_at}
use Rattle.iec_tokens.specs.Signs.{sign_at, sign_text}
use Rattle.iec_tokens.specs.Times.{prefix_length, time_at}
use Rattle.iec_tokens.specs.Words.{word_named}
use Rattle.iec_tokens.specs.declared.byte.Run.TheVariants as run
use Rattle.iec_tokens.specs.declared.digits.Radix.TheVariants as radix
use Rattle.iec_tokens.specs.declared.lexeme.Lexeme.{Lexeme}
use Rattle.iec_tokens.specs.declared.token.Token.{Token}
use Rattle.iec_tokens.specs.declared.token.Token.TheVariants as token

-- what takes this many bytes
abbrev pub taking : Option Token → ℕ → Lexeme
taking token length = record { token = token; behind = length - 1 }

-- what is no token
abbrev pub wrong : Lexeme
wrong = taking (Some token.Wrong) 1

-- a word that is not reserved is a name where it is short enough
abbrev pub name_token : List ℕ → Token
name_token word = if is_name word then token.Name word else token.Wrong

-- the token that a word is
unfoldable pub word_token : List ℕ → Token
word_token word = option_map_or token.Word (word_named word) (name_token word)

-- the bytes that may stand in a word up to the first that may not
abbrev pub word_of : List ℕ → List ℕ
word_of text = take_while is_name_byte text

-- a word
abbrev pub word_lexeme : List ℕ → Lexeme
word_lexeme text = taking (Some (word_token (word_of text))) (length (word_of text))

-- a number
abbrev pub number_lexeme : List ℕ → Lexeme
number_lexeme text = taking (Some (number_token (written_at radix.Decimal text)))
    (written_at radix.Decimal text).length

-- a hexadecimal number, `16#` and its digits
abbrev pub hexadecimal_lexeme : List ℕ → Lexeme
hexadecimal_lexeme text =
    taking (Some (hexadecimal_token (written_at radix.Hexadecimal (drop 3 text))))
    (3 + (written_at radix.Hexadecimal (drop 3 text)).length)

-- a time, `T#` or `TIME#` and its parts
unfoldable pub time_lexeme : List ℕ → Lexeme
time_lexeme text =
    option_map_or (λ t. taking (Some (token.Number t.0)) (prefix_length text + t.1))
    (time_at (drop (prefix_length text) text)) wrong

-- a comment up to its end
unfoldable pub comment_lexeme : List ℕ → Lexeme
comment_lexeme text =
    option_map_or (λ n. taking None (2 + n)) (comment_length (drop 2 text)) wrong

-- a sign
unfoldable pub sign_lexeme : List ℕ → Lexeme
sign_lexeme text =
    option_map_or (λ s. taking (Some (token.Sign s)) (length (sign_text s))) (sign_at text) wrong

-- a text begins so
abbrev pub begins : List ℕ → List ℕ → Bool
begins text word = starts_with nat_eq text word

-- the lexeme at the front of a text: a gap, a comment, a time, a word, a number or a sign, as its
-- first bytes give
unfoldable pub lexeme_of : List ℕ → Lexeme
lexeme_of [] = wrong
lexeme_of (b ∷ text) =
    if is_gap b then taking None 1
    else if begins (b ∷ text) (codes "(*") then comment_lexeme (b ∷ text)
    else if begins (b ∷ text) (codes "//") then
    taking None (prefix_len (stands_in run.Line) (b ∷ text))
    else if not (prefix_length (b ∷ text) == 0) then time_lexeme (b ∷ text)
    else if begins_word b then word_lexeme (b ∷ text)
    else if begins (b ∷ text) (codes "16#") then hexadecimal_lexeme (b ∷ text)
    else if is_digit b then number_lexeme (b ∷ text)
    else sign_lexeme (b ∷ text)
