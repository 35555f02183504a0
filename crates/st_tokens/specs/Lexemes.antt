-- The lexeme at the front of a text. IEC 61131-3, in this project's profile.
use Rattle.std.specs.Prelude.{ℕ, ◌+◌, ◌-◌, Bool, if◌then◌else◌, codes, nat_eq, Option, Some, None, List, [], ◌∷◌, length, take, drop}
use Rattle.std.specs.List.{prefix_len, starts_with, take_while}
use Rattle.std.specs.Option.{option_map_or}
use Rattle.plc_types.specs.Names.{is_name}
use Rattle.plc_types.specs.KindNames.{kind_in}
use Rattle.st_tokens.specs.Bytes.{is_ascii, is_digit, is_gap, is_letter, is_name_byte}
use Rattle.st_tokens.specs.Comments.{comment_length}
use Rattle.st_tokens.specs.Numbers.{number_of}
use Rattle.st_tokens.specs.Signs.{sign_at, sign_text}
use Rattle.st_tokens.specs.Words.{word_named}
use Rattle.st_tokens.specs.declared.lexeme.Lexeme.{Lexeme}
use Rattle.st_tokens.specs.declared.token.Sign.{Sign}
use Rattle.st_tokens.specs.declared.token.Token.{Token}
use Rattle.st_tokens.specs.declared.token.Token.TheVariants as token
use Rattle.st_tokens.specs.declared.token.Word.{Word}

-- what is no token, of one byte
abbrev pub wrong : Lexeme
wrong = record { token = Some token.Wrong; behind = 0 }

-- a word is the name of a kind of block of version 2, or too long
abbrev pub kind_token : List ℕ → Token
kind_token word = option_map_or token.Kind (kind_in 2 word) token.Wrong

-- a word that is not reserved is a name where it is short enough
abbrev pub name_token : List ℕ → Token
name_token word = if is_name word then token.Name word else kind_token word

-- the token that a word is
unfoldable pub word_token : List ℕ → Token
word_token word = option_map_or token.Word (word_named word) (name_token word)

-- the bytes that may stand in a word up to the first that may not
abbrev pub word_of : List ℕ → List ℕ
word_of text = take_while is_name_byte text

-- the digits up to the first other byte
abbrev pub digits_of : List ℕ → List ℕ
digits_of text = take_while is_digit text

-- a token that is written so
abbrev pub lexeme : Token → List ℕ → Lexeme
lexeme token written = record { token = Some token; behind = length written - 1 }

-- a comment whose end is this many bytes after `(*`, up to the first byte that is no ASCII
abbrev pub comment_of : List ℕ → ℕ → Lexeme
comment_of inside n = record { token = None; behind = 1 + prefix_len is_ascii (take n inside) }

-- a comment, which has an end
unfoldable pub comment_lexeme : List ℕ → Lexeme
comment_lexeme text =
    option_map_or (comment_of (drop 2 text)) (comment_length (drop 2 text)) wrong

-- a sign
unfoldable pub sign_lexeme : List ℕ → Lexeme
sign_lexeme text =
    option_map_or (λ s. lexeme (token.Sign s) (sign_text s)) (sign_at text) wrong

-- the lexeme at the front of a text: a gap, a word, a number, a comment or a sign, as its first
-- bytes give
unfoldable pub lexeme_of : List ℕ → Lexeme
lexeme_of [] = wrong
lexeme_of (b ∷ text) =
    if is_gap b then record { token = None; behind = 0 }
    else if is_letter b then lexeme (word_token (word_of (b ∷ text))) (word_of (b ∷ text))
    else if is_digit b then
    lexeme (token.Number (number_of (digits_of (b ∷ text)))) (digits_of (b ∷ text))
    else if starts_with nat_eq (b ∷ text) (codes "(*") then comment_lexeme (b ∷ text)
    else sign_lexeme (b ∷ text)
