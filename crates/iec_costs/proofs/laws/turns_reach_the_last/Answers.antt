-- A turn is made exactly where its value isn't past the last.
use Rattle.iec_costs.proofs.TurnLaws.{reach}
use Rattle.iec_costs.proofs.laws.turns_reach_the_last.Goals as goal

pub returns : goal.returns
returns c = λ b. reach b.first b.last b.by
