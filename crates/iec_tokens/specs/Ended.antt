-- How the tokens of a text end.
use Rattle.std.specs.Prelude.{◌≡◌, Bool, true, false, List, [], ◌∷◌}
use Rattle.iec_tokens.specs.declared.token.Placed.{Placed}
use Rattle.iec_tokens.specs.declared.token.Token.{Token}
use Rattle.iec_tokens.specs.declared.token.Token.TheVariants.{End, Wrong, TooMany}

-- the text's end, or what is no token, or one too many
abbrev pub is_last : Token → Bool
is_last End = true
is_last Wrong = true
is_last TooMany = true
is_last _ = false

-- after the last nothing comes, and after another the rest
abbrev pub EndsBy : Bool → List Placed → Type 0 → Type 0
EndsBy true more rest = more ≡ []
EndsBy false more rest = rest

-- tokens have a last, and none before it is such
abbrev pub IsEnded : List Placed → Type 0
IsEnded [] = ⊥
IsEnded (p ∷ more) = EndsBy (is_last p.token) more (IsEnded more)
