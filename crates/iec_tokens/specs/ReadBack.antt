-- What is read of a word, a sign or a unit as it is written.
use Rattle.std.specs.Prelude.{◌≡◌, Some}
use Rattle.iec_tokens.specs.Signs.{sign_at, sign_text}
use Rattle.iec_tokens.specs.Times.{unit_at, unit_text}
use Rattle.iec_tokens.specs.Words.{word_named, word_text}
use Rattle.iec_tokens.specs.declared.time.Unit.{Unit}
use Rattle.iec_tokens.specs.declared.token.Sign.{Sign}
use Rattle.iec_tokens.specs.declared.token.Word.{Word}

-- each is read as the one that it is written as
pub record AreReadBack : Type 0 where
  pub words : (w : Word) → word_named (word_text w) ≡ Some w
  pub signs : (s : Sign) → sign_at (sign_text s) ≡ Some s
  pub units : (u : Unit) → unit_at (unit_text u) ≡ Some u
