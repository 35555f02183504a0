-- The signs. IEC 61131-3.
use Rattle.std.specs.Prelude.{ℕ, codes, Option, List, nat_eq}
use Rattle.std.specs.List.{find, starts_with}
use Rattle.iec_tokens.specs.declared.token.Sign.{Sign}
use Rattle.iec_tokens.specs.declared.token.Sign.TheVariants as sign
use Rattle.iec_tokens.specs.declared.sign.TheConstants.{SIGNS}

-- how each is written
unfoldable pub sign_text : Sign → List ℕ
sign_text sign.Gets = codes ":="
sign_text sign.Into = codes "=>"
sign_text sign.UpTo = codes ".."
sign_text sign.Different = codes "<>"
sign_text sign.AtMost = codes "<="
sign_text sign.AtLeast = codes ">="
sign_text sign.Colon = codes ":"
sign_text sign.Semicolon = codes ";"
sign_text sign.Comma = codes ","
sign_text sign.Open = codes "("
sign_text sign.Close = codes ")"
sign_text sign.OpenIndex = codes "["
sign_text sign.CloseIndex = codes "]"
sign_text sign.Dot = codes "."
sign_text sign.Plus = codes "+"
sign_text sign.Minus = codes "-"
sign_text sign.Times = codes "*"
sign_text sign.Over = codes "/"
sign_text sign.Equal = codes "="
sign_text sign.Below = codes "<"
sign_text sign.Above = codes ">"
sign_text sign.And = codes "&"

-- the one at the front, of two bytes where there is such a one
unfoldable pub sign_at : List ℕ → Option Sign
sign_at text = find (λ s. starts_with nat_eq text (sign_text s)) SIGNS
