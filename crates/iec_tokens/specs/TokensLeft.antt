-- What a reader of tokens holds, and how contracts see it.
use Rattle.std.specs.Prelude.{List}
use Rattle.iec_tokens.specs.Left as left
use Rattle.iec_tokens.specs.declared.token.Placed.{Placed}
use Rattle.iec_tokens.specs.declared.tokens.Tokens.TheInside.{Inside}

-- the tokens that are still to come
abbrev pub tokens_of_left : Inside → List Placed
tokens_of_left t = left.tokens_of_left t.left

-- the lines of what is left can be counted
abbrev pub is_left : Inside → Type 0
is_left t = left.IsLeft t.left
