use Rattle.line_text.proofs.Digits.{number_of-small}
use Rattle.line_text.proofs.laws.numbers_are_small.Goals as goal

pub returns : goal.returns
returns c = number_of-small
