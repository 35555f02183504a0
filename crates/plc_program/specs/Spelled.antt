-- What a text is a program of: it spells lines of words that lead the program on, each from where
-- it stands. Apart from where a text is refused. This project's profile.
use Rattle.std.specs.Prelude.{◌≡◌, ℕ, List, Ok}
use Rattle.line_text.specs.Leading.{LinesLead}
use Rattle.line_text.specs.Spelling.{SpellsLines}
use Rattle.motion_history.specs.Setup.{Setup}
use Rattle.motion_history.specs.declared.refused.TraceVersion.{TraceVersion}
use Rattle.plc_program.specs.Reading.{ending, meaning, opening}
use Rattle.plc_program.specs.SoFar.{SoFar}
use Rattle.plc_program.specs.declared.program.Instruction.{Instruction}

-- a text is this program for a machine of this version with cycles of this length, and leaves the
-- machine so: it spells lines that lead from the beginning to the program's end
pub record IsProgramText (machine : TraceVersion) (cycle_us : ℕ) (s : Setup) (text : List ℕ)
    (program : List (List Instruction)) (after : Setup) : Type 0 where
  pub lines : List (List ℕ)
  pub last : SoFar
  pub spelled : SpellsLines text lines
  pub leads : LinesLead meaning (opening machine cycle_us s) lines last
  pub ends : ending last ≡ Ok (record { program = program; setup = after })
