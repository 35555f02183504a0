-- The law of edges.
use Rattle.switch_text.proofs.SwitchLaws.{as_said}
use Rattle.switch_text.proofs.laws.edges_are_as_said.Goals as goal

pub returns : goal.returns
returns c = as_said
