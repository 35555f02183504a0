-- What is left of a text while its tokens are read.
use Rattle.std.specs.Prelude.{ℕ, ◌<◌, ◌+◌, ◌^◌, IfSome, List, [], ◌∷◌, drop, length, take}
use Rattle.std.specs.Option.{option_map_or}
use Rattle.iec_tokens.specs.Tokens.{stand_behind, tokens_from}
use Rattle.iec_tokens.specs.declared.token.Placed.{Placed}
use Rattle.iec_tokens.specs.declared.tokens.Left.{Left}
use Rattle.iec_tokens.specs.declared.tokens.Stand.{Stand}

-- where one stands after these bytes
abbrev pub stand_after : Stand → List ℕ → Stand
stand_after s [] = s
stand_after s (b ∷ bytes) = stand_after (stand_behind s b) bytes

-- the tokens of a text after its first bytes, where one stands so before them
abbrev pub tokens_after : Stand → List ℕ → ℕ → List Placed
tokens_after s text n = tokens_from (stand_after s (take n text)) 0 (drop n text)

-- the tokens of what is left
abbrev pub tokens_of_left : Left → List Placed
tokens_of_left l = option_map_or (λ text. tokens_from l.stand 0 text.now) l.rest []

-- a token before those of what is left
abbrev pub with_left : Placed → Left → List Placed
with_left token l = token ∷ tokens_of_left l

-- the lines of what is left can be counted
abbrev pub IsLeft : Left → Type 0
IsLeft l = IfSome l.rest (λ text. l.stand.line + length text.now < 2 ^ 64)
