-- The signs. IEC 61131-3, in this project's profile.
use Rattle.std.specs.Prelude.{ℕ, codes, Option, List, nat_eq}
use Rattle.std.specs.List.{find, starts_with}
use Rattle.st_tokens.specs.declared.token.Sign.{Sign}
use Rattle.st_tokens.specs.declared.token.Sign.TheVariants as sign
use Rattle.st_tokens.specs.declared.sign.TheConstants.{SIGNS}

-- how each is written
unfoldable pub sign_text : Sign → List ℕ
sign_text sign.Gets = codes ":="
sign_text sign.Colon = codes ":"
sign_text sign.Semicolon = codes ";"
sign_text sign.Comma = codes ","
sign_text sign.Open = codes "("
sign_text sign.Close = codes ")"
sign_text sign.Dot = codes "."
sign_text sign.Plus = codes "+"
sign_text sign.Minus = codes "-"
sign_text sign.Times = codes "*"
sign_text sign.Equal = codes "="
sign_text sign.Different = codes "<>"
sign_text sign.Below = codes "<"
sign_text sign.AtMost = codes "<="
sign_text sign.Above = codes ">"
sign_text sign.AtLeast = codes ">="

-- the one at the front, of two bytes where there is such a one
unfoldable pub sign_at : List ℕ → Option Sign
sign_at bytes = find (λ s. starts_with nat_eq bytes (sign_text s)) SIGNS
