-- The tokens of a text. Their greatest number is this project's.
use Rattle.std.specs.Prelude.{ℕ, suc, zero, ◌-◌, ◌==◌, if◌then◌else◌, Option, Some, None, List, [], ◌∷◌}
use Rattle.line_text.specs.Lines.{is_end}
use Rattle.iec_tokens.specs.Lexemes.{lexeme_of}
use Rattle.iec_tokens.specs.declared.token.Placed.{Placed}
use Rattle.iec_tokens.specs.declared.token.Token.{Token}
use Rattle.iec_tokens.specs.declared.token.Token.TheVariants.{End, Wrong, TooMany}
use Rattle.iec_tokens.specs.declared.tokens.Stand.{Stand}

-- the line after a byte
abbrev pub line_behind : ℕ → ℕ → ℕ
line_behind line b = if is_end b then suc line else line

-- where one stands after a byte
abbrev pub stand_behind : Stand → ℕ → Stand
stand_behind s b = record s { line = line_behind s.line b; last = s.line }

-- the last token of those that come
abbrev pub last : Token → ℕ → List Placed
last token line = record { token = token; line = line } ∷ []

-- a token before those that come after it, as many as there may be
abbrev pub before : Token → Stand → (Stand → List Placed) → List Placed
before token s more =
    if s.left == 0 then last TooMany s.line
    else record { token = token; line = s.line } ∷ more (record s { left = s.left - 1 })

-- the token of a lexeme, and those that come after it: none after one that is wrong
abbrev pub with_token : Option Token → Stand → (Stand → List Placed) → List Placed
with_token None s more = more s
with_token (Some Wrong) s more = last Wrong s.line
with_token (Some token) s more = before token s more

-- the tokens of a text where one stands so, with this many bytes of the lexeme before in front
abbrev pub tokens_from : Stand → ℕ → List ℕ → List Placed
tokens_from s behind [] = last End s.last
tokens_from s (suc n) (b ∷ text) = tokens_from (stand_behind s b) n text
tokens_from s zero (b ∷ text) =
    with_token (lexeme_of (b ∷ text)).token s
    (λ t. tokens_from (stand_behind t b) (lexeme_of (b ∷ text)).behind text)

-- the tokens of a text, at most a million before its end
unfoldable pub tokens_of : List ℕ → List Placed
tokens_of text = tokens_from (record { left = 1000000; line = 1; last = 1 }) 0 text
