-- The tokens of a text. This project's profile.
use Rattle.std.specs.Prelude.{ℕ, suc, zero, if◌then◌else◌, Option, Some, None, List, [], ◌∷◌, ◌++◌}
use Rattle.line_text.specs.Lines.{is_end}
use Rattle.st_tokens.specs.Lexemes.{lexeme_of}
use Rattle.st_tokens.specs.declared.token.Token.{Token}
use Rattle.st_tokens.specs.declared.token.Token.TheVariants.{End}

-- a token and the line of its first byte
pub record Placed : Type 0 where
  pub token : Token
  pub line : ℕ

-- the line after a byte
abbrev pub line_behind : ℕ → ℕ → ℕ
line_behind line b = if is_end b then suc line else line

-- the token of a lexeme before others
abbrev pub with_token : ℕ → Option Token → List Placed → List Placed
with_token line None more = more
with_token line (Some token) more = record { token = token; line = line } ∷ more

-- the tokens of a text that begins in this line, with this many bytes of the lexeme before in front
abbrev pub tokens_from : ℕ → ℕ → List ℕ → List Placed
tokens_from line behind [] = []
tokens_from line (suc n) (b ∷ text) = tokens_from (line_behind line b) n text
tokens_from line zero (b ∷ text) =
    with_token line (lexeme_of (b ∷ text)).token
    (tokens_from (line_behind line b) (lexeme_of (b ∷ text)).behind text)

-- the line of the last byte of a text that begins in this line, or that of the byte before
abbrev pub last_line_from : ℕ → ℕ → List ℕ → ℕ
last_line_from line last [] = last
last_line_from line last (b ∷ text) = last_line_from (line_behind line b) line text

-- the tokens of a text, and its end in its last line, which is 1 in an empty text
unfoldable pub tokens_of : List ℕ → List Placed
tokens_of text =
    tokens_from 1 0 text ++ record { token = End; line = last_line_from 1 1 text } ∷ []
