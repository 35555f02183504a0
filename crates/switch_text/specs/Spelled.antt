-- What switches a text is: it spells lines of words that lead from the beginning to them, each from
-- where the file stands. Apart from where a text is refused. This project's profile.
use Rattle.std.specs.Prelude.{◌≡◌, ℕ, List, Ok}
use Rattle.switch_text.specs.declared.switch.Switch.{Switch}
use Rattle.line_text.specs.Leading.{LinesLead}
use Rattle.line_text.specs.Spelling.{SpellsLines}
use Rattle.motion_history.specs.Setup.{Setup}
use Rattle.switch_text.specs.Reading.{ending, meaning, opening}
use Rattle.switch_text.specs.SoFar.{SoFar}

-- a text is these switches for the axes of a machine
pub record IsSwitchText (s : Setup) (text : List ℕ) (switches : List Switch) : Type 0 where
  pub lines : List (List ℕ)
  pub last : SoFar
  pub spelled : SpellsLines text lines
  pub leads : LinesLead meaning (opening s) lines last
  pub ends : ending last ≡ Ok switches
