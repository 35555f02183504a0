-- What a text is a bench of: it spells lines of words that lead the bench on, each from where it
-- stands. Apart from where a text is refused. This project's profile.
use Rattle.std.specs.Prelude.{◌≡◌, ℕ, List, Ok}
use Rattle.line_text.specs.Leading.{LinesLead}
use Rattle.line_text.specs.Spelling.{SpellsLines}
use Rattle.bench_text.specs.BenchState.{BenchState}
use Rattle.bench_text.specs.Reading.{ending, meaning, opening}
use Rattle.bench_text.specs.SoFar.{SoFar}

-- a text is this bench: it spells lines that lead from the beginning to the bench's end
pub record IsBenchOf (text : List ℕ) (bench : BenchState) : Type 0 where
  pub lines : List (List ℕ)
  pub last : SoFar
  pub spelled : SpellsLines text lines
  pub leads : LinesLead meaning opening lines last
  pub ends : ending last ≡ Ok bench
