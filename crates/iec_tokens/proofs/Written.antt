-- Each word, sign and unit has a text of its own.
-- for: words_are_read_back
use Rattle.std.proofs.Common.{◌≡◌, refl, Some}
use Rattle.iec_tokens.specs.Signs.{sign_at, sign_text}
use Rattle.iec_tokens.specs.Times.{begins_with, unit_at, unit_text}
use Rattle.iec_tokens.specs.Words.{word_named, word_text}
use Rattle.iec_tokens.specs.declared.time.Unit.{Unit}
use Rattle.iec_tokens.specs.declared.time.Unit.TheVariants as unit
use Rattle.iec_tokens.specs.declared.token.Sign.{Sign}
use Rattle.iec_tokens.specs.declared.token.Sign.TheVariants as sign
use Rattle.iec_tokens.specs.declared.token.Word.{Word}
use Rattle.iec_tokens.specs.declared.token.Word.TheVariants as word

pub words : (w : Word) → word_named (word_text w) ≡ Some w
unfolding word_text word_named
words word.Type = refl
words _ = refl

pub signs : (s : Sign) → sign_at (sign_text s) ≡ Some s
unfolding sign_text sign_at
signs sign.Gets = refl
signs _ = refl

pub units : (u : Unit) → unit_at (unit_text u) ≡ Some u
unfolding unit_text unit_at begins_with
units unit.Day = refl
units _ = refl
