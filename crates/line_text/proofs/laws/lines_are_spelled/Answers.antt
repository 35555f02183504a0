use Rattle.line_text.proofs.SpellingLaws.{are_spelled}
use Rattle.line_text.proofs.laws.lines_are_spelled.Goals as goal

pub returns : goal.returns
returns c = record { spelled = are_spelled }
